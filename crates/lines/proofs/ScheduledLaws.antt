-- The slots that are the schedule of an accepted load: as many as the load has steps, at most 192, each of which names
-- a step of the load, and the last of them ends when the schedule does.
use Prim.Native.Nat.{ℕ, ◌-◌, ◌≤◌}
use mathlib.Core.List.{List, [], ◌∷◌}
use mathlib.Core.Path.{◌≡◌, refl, ap, sym, ◌∙◌}
use native.Mathlib.Omega.{arith}
use lib.ListN.{length}
use Rattle.std.specs.Prelude.{Some, None, slice_get}
use Rattle.std.proofs.lemmas.Option.{slice_get_within, get_or_from_slice_get}
use Rattle.load.specs.declared.Load.{Load}
use Rattle.load.specs.Load.{most_rows}
use Rattle.load.specs.View.{View, view_of, steps_in_all}
use Rattle.load.specs.Acceptable.{Acceptable}
use Rattle.load.proofs.AcceptableLaws.{check-acceptable}
use Rattle.rules.specs.declared.Slot.{Slot}
use Rattle.rules.specs.Run.{schedule}
use Rattle.rules.specs.Slots.{no_slot, slot_at, slot_end, last_end}
use Rattle.rules.specs.ScheduleRules.{NamesStep}
use Rattle.rules.proofs.invariant.RunnableLaws.{acceptable-runnable}
use Rattle.rules.proofs.run.RunMade.{schedule-is-whole}
use Rattle.rules.proofs.slots.WholeLaws.{Whole, names}
use Rattle.bound.proofs.AcceptedLaws.{accepted-few}
use Rattle.bench.proofs.running.RunsLaws.{schedule-counted, schedule-most}
use Rattle.lines.specs.inner.Puts.{Scheduled}

-- the end of the last slot, and where there is none
pub last_end-at : (L : View) (slots : List Slot) (slot : Slot) → slice_get slots (length slots - 1) ≡ Some slot
    → last_end L slots ≡ slot_end L slot
unfolding last_end
last_end-at L [] slot e = cc
last_end-at L (a ∷ []) slot e = grind arith
last_end-at L (a ∷ b ∷ rest) slot e = last_end-at L (b ∷ rest) slot (grind arith)

pub last_end-none : (L : View) (slots : List Slot) → slice_get slots (length slots - 1) ≡ None → last_end L slots ≡ 0
unfolding last_end
last_end-none L [] e = refl
last_end-none L (a ∷ []) e = grind arith
last_end-none L (a ∷ b ∷ rest) e = last_end-none L (b ∷ rest) (grind arith)

module _ (load : Load) (slots : List Slot) (s : Scheduled load slots) where
  pub acceptable : Acceptable (view_of load)
  acceptable = check-acceptable load s.accepted

  pub rows_few : load.rows ≤ most_rows
  rows_few = accepted-few load acceptable

  pub scheduled-counted : length slots ≡ steps_in_all (view_of load)
  scheduled-counted = ap length s.slots-are ∙ schedule-counted load s.accepted

  pub scheduled-most : length slots ≤ 192
  scheduled-most = omega (arith, ap length s.slots-are, schedule-most load s.accepted)

  whole : Whole (view_of load) (schedule (view_of load))
  whole = schedule-is-whole (view_of load) (acceptable-runnable (view_of load) acceptable)

  -- the slot at a place, of those that are there, names a step
  pub scheduled-names : (k : ℕ) (slot : Slot) → slice_get slots k ≡ Some slot → NamesStep (view_of load) slot
  scheduled-names k slot e =
      let there = slice_get_within slots k slot e in
      let same : slot_at slots k ≡ slot = get_or_from_slice_get slots k slot no_slot e in
      rw same at
      (rw (sym s.slots-are) at
      (names (view_of load) (schedule (view_of load)) whole k (omega (arith, ap length s.slots-are, whole.in_all))))
