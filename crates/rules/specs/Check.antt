-- "Numbers given back", 12 to 17: the check of a schedule. It looks at the list alone: what came
-- before a slot is read off the slots before it, and no state is kept. To be read after Slots.
-- Rests on D21, D22 and D33.
use Rattle.std.specs.Prelude.{ℕ, zero, suc, ◌+◌, Bool, false, ◌&&◌, ◌||◌, not, List, [], ◌∷◌, eqb}
use Rattle.std.specs.Prelude.{ltb, length}
use Rattle.counting.specs.Sums.{count_to}
use Rattle.counting.specs.Lists.{any_in}
use Rattle.refusals.specs.declared.Refusal.{Refusal}
use Rattle.refusals.specs.declared.Refusal.TheVariants.{
  SlotCount,
  NoSuchSlot,
  SlotOverlaps,
  SlotEarly,
  WindowLate,
  RowLate,
}
use Rattle.refusals.specs.Checked.{Checked}
use Rattle.refusals.specs.FirstMet.{first_met, first_fault, first_fault_to}
use Rattle.load.specs.declared.Load.{Load}
use Rattle.load.specs.Load.{last_moment, shown}
use Rattle.load.specs.View.{View, view_of, steps_in_all}
use Rattle.load.specs.Faults.{outside}
use Rattle.load.specs.Check.{check_load}
use Rattle.rules.specs.declared.Slot.{Slot}
use Rattle.rules.specs.Ready.{release}
use Rattle.rules.specs.Slots.{slot_at, row_of, step_of, slot_end, slot_for}

-- 13: the slot's row or step does not exist
abbrev pub names_no_step : View → Slot → Bool
names_no_step L slot =
    outside 1 L.rows slot.row || outside 1 (L.steps (row_of slot)) slot.step

-- 13: the step is not its row's next, after those that the slots before place k are for
abbrev pub not_next : List Slot → ℕ → Slot → Bool
not_next slots k slot =
    not (eqb slot.step (shown (count_to (λ h. eqb (slot_at slots h).row slot.row) k)))

-- 14: the slot starts before the slot before place k ends
abbrev pub overlaps : View → List Slot → ℕ → Slot → Bool
overlaps L slots zero slot = false
overlaps L slots (suc h) slot = ltb slot.start (slot_end L (slot_at slots h))

-- 15: it starts before its phase, or before the step before it in the row, whose number is one
-- less, has ended and its wait has passed
abbrev pub starts_early : View → List Slot → Slot → Bool
starts_early L slots slot =
    ltb slot.start
    (release L (row_of slot) (step_of slot) (slot_end L (slot_for slots slot.row (step_of slot))))

-- 16: it ends a window late
abbrev pub ends_window_late : View → List Slot → Slot → Bool
ends_window_late L slots slot =
    any_in
    (λ w. eqb slot.step w.last
    && ltb ((slot_for slots slot.row w.first).start + w.limit) (slot_end L slot))
    (L.windows (row_of slot))

-- 17: it ends its row late
abbrev pub ends_row_late : View → Slot → Bool
ends_row_late L slot =
    eqb slot.step (L.steps (row_of slot)) && ltb (L.deadline (row_of slot)) (slot_end L slot)

-- the slot at place k, 13 to 17 in order
unfoldable pub slot_tests : View → List Slot → ℕ → Slot → List (Bool × Refusal)
slot_tests L slots k slot =
    (names_no_step L slot, NoSuchSlot)
    ∷ (not_next slots k slot, NoSuchSlot)
    ∷ (ltb last_moment slot.start, NoSuchSlot)
    ∷ (overlaps L slots k slot, SlotOverlaps)
    ∷ (starts_early L slots slot, SlotEarly)
    ∷ (ends_window_late L slots slot, WindowLate)
    ∷ (ends_row_late L slot, RowLate)
    ∷ []

-- what the slot at place k is refused with
abbrev pub slot_fault : View → List Slot → ℕ → Checked
slot_fault L slots k = first_met (slot_tests L slots k (slot_at slots k))

-- the slots against a load's view: 12, then slot by slot
unfoldable pub check_slots : View → List Slot → Checked
check_slots L slots =
    first_fault
    (first_met ((not (eqb (length slots) (steps_in_all L)), SlotCount) ∷ [])
    ∷ first_fault_to (slot_fault L slots) (length slots)
    ∷ [])

-- the schedule check: the load's own numbers, then 12, then 13 to 17; it says yes when none is met
unfoldable pub check_schedule : Load → List Slot → Checked
check_schedule load slots = first_fault (check_load load ∷ check_slots (view_of load) slots ∷ [])
