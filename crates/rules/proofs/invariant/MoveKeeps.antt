-- A move keeps the invariant, is not refused, and unless it is Done moves the clock on; with work left the clock is
-- below the bound.
use Prim.Native.Nat.{ℕ, zero, suc, ◌≤◌, ◌<◌, min}
use mathlib.Core.Bool.{Bool, true, false, ◌&&◌}
use mathlib.Core.List.{List, [], ◌∷◌}
use mathlib.Core.Path.{◌≡◌, refl}
use native.Mathlib.Omega.{arith}
use lib.Dec.{eqb, leb, ltb}
use borrow.Author.Tests.{ltb-true, ltb-false, eqb-true, lt-ltb, le-leb, eq-eqb}
use Rattle.counting.specs.Sums.{sum_to, all_to}
use Rattle.counting.specs.Lists.{changed}
use Rattle.counting.proofs.tests.TestLaws.{and_left, and_right, and_both, true-all_to, true-false}
use Rattle.counting.proofs.sums.SumLaws.{sum_to-none}
use Rattle.counting.proofs.searches.LeastLaws.{Least, nothing, least_at, least}
use Rattle.load.specs.Load.{last_moment}
use Rattle.load.specs.View.{View}
use Rattle.rules.specs.State.{State, fresh, shaped}
use Rattle.rules.specs.Plan.{stack}
use Rattle.rules.specs.Bound.{bound_by}
use Rattle.rules.specs.Move.{started, ticked, all_finished, handed_back, move_by, start_or_idle_by, chosen}
use Rattle.rules.specs.declared.Outcome.TheVariants.{Done}
use Rattle.rules.proofs.invariant.Runnable.{Runnable}
use Rattle.rules.proofs.invariant.Setting.{Long, Gives, Charge, AllBelow, Oldest, Setting}
use Rattle.rules.proofs.moves.MoveLaws.{
  CanStart,
  Turn,
  starts,
  idles,
  started-clock,
  move-done,
  move-turn,
  move-goes,
}
use Rattle.rules.proofs.plan.StartPasses.{fresh-passes}
use Rattle.rules.proofs.moves.ShapeExact.{shape-shaped}
use Rattle.rules.proofs.moves.ShapeLaws.{rows-shape, fresh-shape}
use Rattle.rules.proofs.invariant.Invariant.{spent, Invariant}
use Rattle.rules.proofs.invariant.StartKeeps.{start-keeps}
use Rattle.rules.proofs.invariant.ClockBound.{bound_by-fits, clock-in-bound, next_le}
use Rattle.rules.proofs.invariant.IdleKeeps.{idle-open, idle-phase, idle-wait}

-- every tick is accounted for: the invariant holds for some counts of idle ticks
pub record Accounted (gives : Gives) (charged : Charge) (L : View) (s : State) : Type 0 where
  pub open_ticks : ℕ
  pub phase_ticks : ℕ
  pub wait_ticks : ℕ → ℕ
  pub invariant : Invariant gives charged L s open_ticks phase_ticks wait_ticks

pub fresh-accounted : (gives : Gives) (charged : Charge) (L : View) → Runnable L → Accounted gives charged L fresh
unfolding fresh spent sum_to
fresh-accounted gives charged L g =
    record {
      open_ticks = 0;
      phase_ticks = 0;
      wait_ticks = λ p. 0;
      invariant = record {
        shape = fresh-shape L g;
        clock-sum = omega (arith, sum_to-none (λ i. sum_to (L.cost i) 0) L.rows (λ i l. refl));
        plan = fresh-passes L g;
        open-ticks = omega arith;
        phase-clock = omega arith;
        phase-ticks = omega arith;
        stage = λ k q lk h e i l. absurd (omega arith);
        wait-ticks = λ p lp. omega arith;
        reached = λ p lp h i l. absurd (omega arith);
        charge = λ p i lp l h f. absurd (omega arith);
      };
    }

-- a row with the lowest next step
pub record Lowest (L : View) (s : State) : Type 0 where
  pub row : ℕ
  pub there : row < L.rows
  pub more : s.finished row < L.steps row
  pub low : AllBelow L s (s.finished row)

pub lowest : (L : View) (s : State) → all_finished L s ≡ false → Lowest L s
unfolding all_finished
lowest L s h = go (least unfinished s.finished L.rows)
  where
    unfinished : ℕ → Bool
    unfinished i = ltb (s.finished i) (L.steps i)

    go : Least unfinished s.finished L.rows → Lowest L s
    go (nothing f) =
        absurd
        (true-false (all_to (λ i. leb (L.steps i) (s.finished i)) L.rows)
        (true-all_to (λ i. leb (L.steps i) (s.finished i)) L.rows
        (λ i l. le-leb (L.steps i) (s.finished i) (ltb-false (s.finished i) (L.steps i) (f i l)))) h)
    go (least_at r lr pr f) =
        record {
          row = r;
          there = lr;
          more = ltb-true (s.finished r) (L.steps r) pr;
          low = λ k lk. at k lk (unfinished k) refl;
        }
      where
        at : (k : ℕ) → k < L.rows → (b : Bool) → unfinished k ≡ b → min (s.finished r) (L.steps k) ≤ s.finished k
        at k lk true e = omega (arith, f k lk e)
        at k lk false e = omega (arith, ltb-false (s.finished k) (L.steps k) e)

-- of the rows at the lowest next step the one that ended first
record OldestRow (L : View) (s : State) (p : ℕ) : Type 0 where
  row : ℕ
  oldest : Oldest L s p row

oldest-row : (L : View) (s : State) (p : ℕ) (lo : Lowest L s) → s.finished lo.row ≡ suc p → OldestRow L s p
oldest-row L s p lo here = go (least waits s.end L.rows)
  where
    waits : ℕ → Bool
    waits k = ltb (s.finished k) (L.steps k) && eqb (s.finished k) (suc p)

    is : (k : ℕ) → s.finished k < L.steps k → s.finished k ≡ suc p → waits k ≡ true
    is k a b =
        and_both (ltb (s.finished k) (L.steps k)) (eqb (s.finished k) (suc p))
        (lt-ltb (s.finished k) (L.steps k) a) (eq-eqb (s.finished k) (suc p) b)

    go : Least waits s.end L.rows → OldestRow L s p
    go (nothing f) = absurd (true-false (waits lo.row) (is lo.row lo.more here) (f lo.row lo.there))
    go (least_at r lr pr f) =
        record {
          row = r;
          oldest = record {
            there = lr;
            more =
                ltb-true (s.finished r) (L.steps r)
                (and_left (ltb (s.finished r) (L.steps r)) (eqb (s.finished r) (suc p)) pr);
            at-step =
                eqb-true (s.finished r) (suc p)
                (and_right (ltb (s.finished r) (L.steps r)) (eqb (s.finished r) (suc p)) pr);
            lowest = λ k lk. omega (arith, lo.low k lk);
            old = λ k lk a b. f k lk (is k a b);
          };
        }

module _ (L : View) (s : State) {long : Long} {gives : Gives} {charged : Charge} (g : Setting L long gives charged)
    (v : Accounted gives charged L s) where
  start-accounted : (i : ℕ) → CanStart L s i → Accounted gives charged L (started L s i (long i (s.finished i)))
  start-accounted i c =
      record {
        open_ticks = v.open_ticks;
        phase_ticks = v.phase_ticks;
        wait_ticks = v.wait_ticks;
        invariant = start-keeps L s i g c v.invariant;
      }

  idle-accounted : all_finished L s ≡ false → ((i : ℕ) → CanStart L s i → ⊥) → Accounted gives charged L (ticked s)
  idle-accounted nd none = go (stack L s) refl
    where
      lo : Lowest L s
      lo = lowest L s nd

      at : stack L s ≡ [] → (j : ℕ) → s.finished lo.row ≡ j → Accounted gives charged L (ticked s)
      at shut zero e =
          record {
            open_ticks = v.open_ticks;
            phase_ticks = suc v.phase_ticks;
            wait_ticks = v.wait_ticks;
            invariant = idle-phase L s g v.invariant none shut lo.row lo.there lo.more e;
          }
      at shut (suc p) e =
          (let o = oldest-row L s p lo e in
          record {
            open_ticks = v.open_ticks;
            phase_ticks = v.phase_ticks;
            wait_ticks = changed v.wait_ticks p (suc (v.wait_ticks p));
            invariant =
                idle-wait L s g v.invariant none shut p o.row
                (omega (arith, lo.more, g.runnable.steps-most lo.row lo.there)) o.oldest;
          })

      go : (l : List ℕ) → stack L s ≡ l → Accounted gives charged L (ticked s)
      go [] e = at e (s.finished lo.row) refl
      go (r ∷ rest) e =
          record {
            open_ticks = suc v.open_ticks;
            phase_ticks = v.phase_ticks;
            wait_ticks = v.wait_ticks;
            invariant = idle-open L s g v.invariant none r rest e;
          }

  pub accounted-clock : s.clock ≤ bound_by gives L
  accounted-clock = clock-in-bound L s g.runnable v.invariant

  pub accounted-shaped : shaped L s ≡ true
  accounted-shaped =
      shape-shaped L s
      (rows-shape L s v.invariant.shape (omega (arith, accounted-clock, bound_by-fits gives L g.runnable)))

  -- with work left the clock is below the bound
  pub accounted-early : all_finished L s ≡ false → s.clock < bound_by gives L
  accounted-early nd =
      let lo = lowest L s nd in
      omega (
        arith,
        next_le L s g.runnable v.invariant lo.row lo.there lo.more,
        g.runnable.cost-least lo.row (s.finished lo.row) lo.there lo.more,
      )

  -- and so before the last moment
  pub accounted-time : all_finished L s ≡ false → s.clock < last_moment
  accounted-time nd = omega (arith, accounted-early nd, bound_by-fits gives L g.runnable)

  pub accounted-done : all_finished L s ≡ true → move_by long L s ≡ handed_back L s Done
  accounted-done = move-done long L s accounted-shaped

  pub accounted-turn : all_finished L s ≡ false → Turn long L s
  accounted-turn nd = move-turn long L s accounted-shaped nd (accounted-time nd)

  pub accounted-goes : all_finished L s ≡ false → move_by long L s ≡ start_or_idle_by long L s (chosen L s)
  accounted-goes nd = move-goes long L s accounted-shaped nd (accounted-time nd)

  turn-accounted : all_finished L s ≡ false → Turn long L s → Accounted gives charged L (move_by long L s).then
  turn-accounted nd (starts i c e) = rw e (start-accounted i c)
  turn-accounted nd (idles none e) = rw e (idle-accounted nd none)

  turn-later : Turn long L s → s.clock < (move_by long L s).then.clock
  unfolding ticked
  turn-later (starts i c e) =
      rw e
      (omega (
        arith,
        started-clock L s i (long i (s.finished i)),
        g.lengths.least i (s.finished i) c.there c.more,
      ))
  turn-later (idles none e) = rw e (omega arith)

  pub move-accounted : Accounted gives charged L (move_by long L s).then
  move-accounted = go (all_finished L s) refl
    where
      go : (b : Bool) → all_finished L s ≡ b → Accounted gives charged L (move_by long L s).then
      go true d = rw (accounted-done d) v
      go false d = turn-accounted d (accounted-turn d)

  pub move-later : all_finished L s ≡ false → s.clock < (move_by long L s).then.clock
  move-later nd = turn-later (accounted-turn nd)
