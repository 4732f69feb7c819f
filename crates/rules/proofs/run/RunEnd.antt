-- The end of the last slot is the clock at Done: only a start or an idle tick moves the clock, and no tick comes after
-- the last start.
use Prim.Native.Nat.{ℕ, zero, suc, ◌≤◌}
use mathlib.Core.Bool.{Bool, true, false}
use mathlib.Core.List.{List, [], ◌∷◌, ◌++◌, append-nil}
use mathlib.Core.Path.{◌≡◌, refl, ap, sym, ◌∙◌}
use Rattle.counting.proofs.tests.TestLaws.{true-false}
use Rattle.load.specs.View.{View}
use Rattle.rules.specs.declared.Slot.{Slot}
use Rattle.rules.specs.State.{State, fresh}
use Rattle.rules.specs.Outcomes.{told_by}
use Rattle.rules.specs.Move.{started_full, ticked, all_finished, next_slot, move}
use Rattle.rules.specs.Run.{state_after_by, state_after, starts_by, starts, schedule}
use Rattle.rules.specs.Slots.{slot_end, last_end}
use Rattle.rules.proofs.bound.TightBound.{minima, tight_bound}
use Rattle.rules.proofs.invariant.Runnable.{Runnable}
use Rattle.rules.proofs.invariant.Setting.{Setting}
use Rattle.rules.proofs.invariant.WorkedSince.{worked_since}
use Rattle.rules.proofs.invariant.FullSetting.{full_setting}
use Rattle.rules.proofs.moves.MoveLaws.{Turn, starts as starting, idles, started-clock}
use Rattle.rules.proofs.invariant.MoveKeeps.{Accounted, fresh-accounted, accounted-done, accounted-turn}
use Rattle.rules.proofs.run.RunLaws.{state_after-next, run-accounted, run-finished, starts-next, schedule-whole}
use Rattle.rules.proofs.slots.SlotLaws.{slot_end-is}

pub last_end-last : (L : View) (slots : List Slot) (x : Slot) → last_end L (slots ++ x ∷ []) ≡ slot_end L x
unfolding last_end
last_end-last L [] x = refl
last_end-last L (a ∷ []) x = refl
last_end-last L (a ∷ b ∷ rest) x = last_end-last L (b ∷ rest) x

last_end-none : (L : View) → last_end L [] ≡ 0
unfolding last_end
last_end-none L = refl

ticked-finished : (L : View) (s : State) → all_finished L (ticked s) ≡ all_finished L s
unfolding all_finished ticked
ticked-finished L s = refl

-- the last slot ends at the clock, once all is finished
abbrev EndsNow : View → State → List Slot → Type 0
EndsNow L s slots = all_finished L s ≡ true → last_end L slots ≡ s.clock

module _ (L : View) (g : Runnable L) where
  abbrev full : Setting L L.cost minima worked_since
  full = full_setting L g

  move-ends : (s : State) (slots : List Slot) → Accounted minima worked_since L s → EndsNow L s slots
      → EndsNow L (move L s).then (slots ++ (told_by (move L s).outcome).starts)
  move-ends s slots v h = go (all_finished L s) refl
    where
      start-ends : (i : ℕ) → last_end L (slots ++ next_slot s i ∷ []) ≡ (started_full L s i).clock
      start-ends i =
          last_end-last L slots (next_slot s i)
          ∙ (slot_end-is L i (s.finished i) (next_slot s i) (record { its-row = refl; its-step = refl })
          ∙ sym (started-clock L s i (L.cost i (s.finished i))))

      by : all_finished L s ≡ false → Turn L.cost L s
          → EndsNow L (move L s).then (slots ++ (told_by (move L s).outcome).starts)
      by d (starting i c e) = rw e (λ _. start-ends i)
      by d (idles none e) =
          rw e (λ q. absurd (true-false (all_finished L s) (sym (ticked-finished L s) ∙ q) d))

      go : (b : Bool) → all_finished L s ≡ b
          → EndsNow L (move L s).then (slots ++ (told_by (move L s).outcome).starts)
      go true d = rw (accounted-done L s full v d) (rw (append-nil slots) h)
      go false d = by d (accounted-turn L s full v d)

  fresh-ends : EndsNow L (state_after L 0 fresh) (starts L 0 fresh)
  unfolding starts_by state_after_by fresh
  fresh-ends _ = last_end-none L

  pub run-ends-now : (n : ℕ) → EndsNow L (state_after L n fresh) (starts L n fresh)
  run-ends-now zero = fresh-ends
  run-ends-now (suc n) =
      rw (state_after-next L.cost L n fresh, starts-next L full n fresh (fresh-accounted minima worked_since L g))
      (move-ends (state_after L n fresh) (starts L n fresh) (run-accounted L full n) (run-ends-now n))

  -- the schedule ends when the run does
  pub schedule-ends : (n : ℕ) → tight_bound L ≤ n → last_end L (schedule L) ≡ (state_after L n fresh).clock
  schedule-ends n h = ap (last_end L) (schedule-whole L full n h) ∙ run-ends-now n (run-finished L full n h)
