-- The schedule of a run: what its slots and the states say of each other holds at every moment, so at the end each row
-- has a slot for each of its steps, and the last of them ends when the state says.
use Prim.Native.Nat.{ℕ, zero, suc, ◌≤◌, ◌<◌}
use mathlib.Core.Bool.{Bool, true, false}
use mathlib.Core.List.{List, [], ◌++◌, append-nil}
use mathlib.Core.Path.{◌≡◌, refl, sym, ◌∙◌}
use native.Mathlib.Omega.{arith}
use lib.Dec.{leb}
use lib.ListN.{length}
use borrow.Author.Tests.{leb-true}
use Rattle.counting.proofs.tests.TestLaws.{all_to-true}
use Rattle.counting.proofs.sums.SumLaws.{sum_to-ext}
use Rattle.load.specs.Load.{shown}
use Rattle.load.specs.View.{View}
use Rattle.rules.specs.declared.Slot.{Slot}
use Rattle.rules.specs.State.{State, fresh}
use Rattle.rules.specs.Outcomes.{told_by}
use Rattle.rules.specs.Move.{all_finished, move}
use Rattle.rules.specs.Run.{state_after_by, state_after, starts_by, starts, schedule}
use Rattle.rules.specs.Slots.{slot_at, slot_end}
use Rattle.rules.proofs.bound.TightBound.{minima, tight_bound}
use Rattle.rules.proofs.invariant.Runnable.{Runnable}
use Rattle.rules.proofs.invariant.Setting.{Setting}
use Rattle.rules.proofs.invariant.WorkedSince.{worked_since}
use Rattle.rules.proofs.invariant.FullSetting.{full_setting}
use Rattle.rules.proofs.moves.MoveLaws.{Turn, starts as starting, idles}
use Rattle.rules.proofs.invariant.MoveKeeps.{Accounted, fresh-accounted, accounted-done, accounted-turn}
use Rattle.rules.proofs.run.RunLaws.{state_after-next, run-accounted, run-finished, starts-next, schedule-whole}
use Rattle.rules.proofs.slots.SlotLaws.{AfterLower}
use Rattle.rules.proofs.run.SlotsMade.{Made, fresh-made, tick-made}
use Rattle.rules.proofs.run.StartMade.{start-made}
use Rattle.rules.proofs.slots.WholeLaws.{Whole}

module _ (L : View) (g : Runnable L) where
  abbrev full : Setting L L.cost minima worked_since
  full = full_setting L g

  -- a move adds its start
  move-made : (s : State) (slots : List Slot) → Accounted minima worked_since L s → Made L s slots
      → Made L (move L s).then (slots ++ (told_by (move L s).outcome).starts)
  move-made s slots v m = go (all_finished L s) refl
    where
      by : Turn L.cost L s → Made L (move L s).then (slots ++ (told_by (move L s).outcome).starts)
      by (starting i c e) = rw e (start-made L s i slots g v.invariant.plan c m)
      by (idles none e) = rw e (rw (append-nil slots) (tick-made L s slots m))

      go : (b : Bool) → all_finished L s ≡ b → Made L (move L s).then (slots ++ (told_by (move L s).outcome).starts)
      go true d = rw (accounted-done L s full v d) (rw (append-nil slots) m)
      go false d = by (accounted-turn L s full v d)

  starts_none : starts L 0 fresh ≡ []
  unfolding starts_by
  starts_none = refl

  state-none : state_after L 0 fresh ≡ fresh
  unfolding state_after_by
  state-none = refl

  pub run-made : (n : ℕ) → Made L (state_after L n fresh) (starts L n fresh)
  run-made zero = rw (starts_none, state-none) (fresh-made L)
  run-made (suc n) =
      rw (state_after-next L.cost L n fresh, starts-next L full n fresh (fresh-accounted minima worked_since L g))
      (move-made (state_after L n fresh) (starts L n fresh) (run-accounted L full n) (run-made n))

  -- at the end every row has finished all its steps
  pub finished-all : (n : ℕ) → tight_bound L ≤ n → (i : ℕ) → i < L.rows
      → (state_after L n fresh).finished i ≡ L.steps i
  unfolding all_finished
  finished-all n h i l =
      omega (
        arith,
        leb-true (L.steps i) ((state_after L n fresh).finished i)
            (all_to-true (λ k. leb (L.steps k) ((state_after L n fresh).finished k)) L.rows (run-finished L full n h) i
            l),
        (run-accounted L full n).invariant.shape.finished-le i l,
      )

  abbrev last : State
  last = state_after L (tight_bound L) fresh

  schedule-made : Made L last (schedule L)
  schedule-made = rw (schedule-whole L full (tight_bound L) (omega arith)) (run-made (tight_bound L))

  pub schedule-is-whole : Whole L (schedule L)
  schedule-is-whole =
      record {
        fits = schedule-made.fits;
        count = λ i l. schedule-made.count i l ∙ finished-all (tight_bound L) (omega arith) i l;
        in_all =
            schedule-made.in_all
            ∙ sum_to-ext last.finished L.steps L.rows (finished-all (tight_bound L) (omega arith));
      }

  pub schedule-lower : (k : ℕ) → k < length (schedule L) → AfterLower L (schedule L) k (slot_at (schedule L) k)
  schedule-lower = schedule-made.lower

  -- a row's last step ends when the state says
  pub last-ends : (k i : ℕ) → k < length (schedule L) → i < L.rows → (slot_at (schedule L) k).row ≡ shown i
      → (slot_at (schedule L) k).step ≡ L.steps i → slot_end L (slot_at (schedule L) k) ≡ last.end i
  last-ends k i l li row step =
      schedule-made.last-end k i l li row (step ∙ sym (finished-all (tight_bound L) (omega arith) i li))
