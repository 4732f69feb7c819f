-- Demand 3: the run of an acceptable load ends by its bound, keeps all rules of a schedule, and each row ends by its
-- row bound; so where no margin is negative the schedule keeps its deadlines and passes the check.
use Prim.Native.Nat.{ℕ, zero, suc, ◌-◌, ◌≤◌, ◌<◌}
use mathlib.Core.Bool.{Bool, true, false, cond, not}
use mathlib.Core.Path.{◌≡◌, refl, ◌∙◌}
use native.Mathlib.Omega.{arith}
use lib.Dec.{ltb}
use lib.IntN.{pos, negsuc, ◌-ℤ◌}
use lib.ListN.{length}
use borrow.Author.Tests.{not-true, ltb-false}
use Rattle.counting.proofs.tests.TestLaws.{all_to-true, true-false}
use Rattle.std.specs.Prelude.{Ok}
use Rattle.load.specs.declared.Load.{Load}
use Rattle.load.specs.View.{View, view_of}
use Rattle.load.specs.Check.{check_load}
use Rattle.load.specs.Acceptable.{Acceptable}
use Rattle.load.proofs.AcceptableLaws.{check-acceptable}
use Rattle.rules.specs.Cut.{cut}
use Rattle.rules.specs.Margins.{row_bound, margin, is_negative, verdict}
use Rattle.rules.specs.State.{fresh}
use Rattle.rules.specs.Run.{state_after, schedule}
use Rattle.rules.specs.Slots.{slot_at, row_of, slot_end}
use Rattle.rules.specs.Check.{check_schedule}
use Rattle.rules.specs.Demand3.{Demand3}
use Rattle.rules.proofs.bound.TightBound.{minima, tight_bound, tight_bound-le}
use Rattle.rules.proofs.invariant.Runnable.{Runnable}
use Rattle.rules.proofs.invariant.RunnableLaws.{acceptable-runnable}
use Rattle.rules.proofs.invariant.Setting.{Charging, Setting}
use Rattle.rules.proofs.invariant.WorkedSince.{worked_since}
use Rattle.rules.proofs.invariant.FullSetting.{full_setting}
use Rattle.rules.proofs.invariant.ClockBound.{bound_by-fits}
use Rattle.rules.proofs.run.RunLaws.{run-done, run-number, run-clock, starts-joined, schedule-whole}
use Rattle.rules.proofs.run.RunEnd.{schedule-ends}
use Rattle.rules.proofs.slots.WholeLaws.{Whole, free-last, rules-hold}
use Rattle.rules.proofs.slots.NextLaws.{slot_is}
use Rattle.rules.proofs.run.RunMade.{finished-all, schedule-is-whole, schedule-lower, last-ends}
use Rattle.rules.proofs.check.SlotsPass.{check-late, check-good}
use Rattle.rules.proofs.cut.CutRunnable.{runnable-of-cut}
use Rattle.rules.proofs.cut.CutRun.{row-in-bound}

-- a margin that is not negative
difference-le : (d b : ℕ) → is_negative (pos d -ℤ pos b) ≡ false → b ≤ d
difference-le d zero e = omega arith
difference-le d (suc b) e = go (ltb d (suc b)) refl e
  where
    go : (t : Bool) → ltb d (suc b) ≡ t → is_negative (cond t (negsuc (suc b - suc d)) (pos (d - suc b))) ≡ false
        → suc b ≤ d
    go true q h = absurd (true-false true refl h)
    go false q h = ltb-false d (suc b) q

verdict-true : (L : View) → verdict L ≡ true → (i : ℕ) → i < L.rows → row_bound L i ≤ L.deadline i
unfolding verdict margin
verdict-true L e i l =
    difference-le (L.deadline i) (row_bound L i)
    (not-true (is_negative (margin L i)) (all_to-true (λ k. not (is_negative (margin L k))) L.rows e i l))

module _ (L : View) (g : Runnable L) where
  abbrev full : Setting L L.cost minima worked_since
  full = full_setting L g

  cuts : (m : ℕ) → 1 ≤ m → Charging (cut L m) L.cost minima worked_since
  unfolding cut
  cuts m h = (full_setting (cut L m) (runnable-of-cut L m g h)).charging

  -- a finished row has ended by its row bound
  row_ends : (i t : ℕ) → i < L.rows → L.steps i ≤ (state_after L t fresh).finished i
      → (state_after L t fresh).end i ≤ row_bound L i
  unfolding row_bound
  row_ends i t l h = omega (arith, row-in-bound L full cuts i l t h, tight_bound-le (cut L (L.steps i)))

  w : Whole L (schedule L)
  w = schedule-is-whole L g

  -- each row ends by its row bound
  pub rows_end : (k : ℕ) → k < length (schedule L)
      → (slot_at (schedule L) k).step ≡ L.steps (row_of (slot_at (schedule L) k))
      → slot_end L (slot_at (schedule L) k) ≤ row_bound L (row_of (slot_at (schedule L) k))
  rows_end k l e =
      let x = slot_at (schedule L) k in
      let mine = (w.fits k l).names in
      let i = row_of x in
      let li : i < L.rows = omega (arith, mine.row_from, mine.row-to) in
      omega (
        arith,
        last-ends L g k i l li (slot_is L x mine).its-row e,
        row_ends i (tight_bound L) li (omega (arith, finished-all L g (tight_bound L) (omega arith) i li)),
      )

  in-time : verdict L ≡ true → (k : ℕ) → k < length (schedule L)
      → (slot_at (schedule L) k).step ≡ L.steps (row_of (slot_at (schedule L) k))
      → slot_end L (slot_at (schedule L) k) ≤ L.deadline (row_of (slot_at (schedule L) k))
  in-time v k l e =
      let mine = (w.fits k l).names in
      omega (
        arith,
        rows_end k l e,
        verdict-true L v (row_of (slot_at (schedule L) k)) (omega (arith, mine.row_from, mine.row-to)),
      )

  pub runnable-demand3 : Demand3 L
  runnable-demand3 =
      record {
        moves = tight_bound L;
        moves-few = omega (arith, bound_by-fits minima L g);
        done = run-done L full (tight_bound L) (omega arith);
        all-starts = schedule-whole L full;
        made = schedule-whole L full (tight_bound L) (omega arith) ∙ starts-joined L full (tight_bound L);
        numbers = run-number L full;
        in-bound = λ n. omega (arith, run-clock L full n, tight_bound-le L);
        last-end = schedule-ends L g;
        rules = rules-hold L (schedule L) w g.first-last;
        rows = rows_end;
        free-steps = λ k h lk lh free low.
            (w.fits k lk).after h (free-last L (schedule L) w (schedule-lower L g) k h lk lh free low);
        checked = check-late L (schedule L) w g.first-last g.first-least;
        deadlines = λ v.
            record { slots-keep = rules-hold L (schedule L) w g.first-last; deadlines = in-time v };
        passes = λ v. check-good L (schedule L) w g.first-last g.first-least (in-time v);
      }

pub demand3 : (L : View) → Acceptable L → Demand3 L
demand3 L ok = runnable-demand3 L (acceptable-runnable L ok)

-- a load in memory that is not refused
module _ (load : Load) (accepted : check_load load ≡ Ok tt) where
  pub accepted-demand3 : Demand3 (view_of load)
  accepted-demand3 = demand3 (view_of load) (check-acceptable load accepted)

  pub accepted-passes : verdict (view_of load) ≡ true → check_schedule load (schedule (view_of load)) ≡ Ok tt
  unfolding check_schedule
  accepted-passes v = rw (accepted, accepted-demand3.passes v)
