-- What each public call's contract says: one relation a call, over what it takes and what it gives.
use Rattle.std.specs.Prelude.{ℕ, min, List, ◌≡◌, take}
use Rattle.refusals.specs.Checked.{Checked}
use Rattle.load.specs.declared.Load.{Load}
use Rattle.rules.specs.declared.Slot.{Slot}
use Rattle.rules.specs.Slots.{slot_places}
use Rattle.rules.specs.Check.{check_schedule}

-- the first n slots of an array, at most 256
abbrev pub first_slots : List Slot → ℕ → List Slot
first_slots slots n = take (min n slot_places) slots

-- at_most_places(n): how many of the first n slots of an array there are
abbrev pub AtMostPlaces : ℕ → ℕ → Type 0
AtMostPlaces n r = r ≡ min n slot_places

-- check_schedule(load, slots): the first of the load's own numbers, then 12, then slot by slot 13
-- to 17, or Good
abbrev pub CheckSchedule : Load → List Slot → Checked → Type 0
CheckSchedule load slots r = r ≡ check_schedule load slots

-- check_array(load, slots, n): the same of the first n slots of an array
abbrev pub CheckArray : Load → List Slot → ℕ → Checked → Type 0
CheckArray load slots n r = r ≡ check_schedule load (first_slots slots n)
