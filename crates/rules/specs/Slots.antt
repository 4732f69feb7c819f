-- "The slots are lent to the check as a list of slot records": where a slot's row and step stand,
-- when it ends, and what the slots of a list are for. A slot's numbers count from 1.
use Rattle.std.specs.Prelude.{ℕ, ◌+◌, ◌-◌, ◌*◌, Bool, ◌&&◌, List, [], ◌∷◌, eqb, get_or}
use Rattle.counting.specs.Lists.{first_in}
use Rattle.load.specs.Load.{most_rows, most_steps}
use Rattle.load.specs.View.{View}
use Rattle.rules.specs.declared.Slot.{Slot}

-- what is read where there is no slot
abbrev pub no_slot : Slot
no_slot = record { row = 0; step = 0; start = 0 }

-- a schedule has at most 192 slots: 24 rows of 8 steps
abbrev pub most_slots : ℕ
most_slots = most_rows * most_steps

-- an array of slots has 256 places
abbrev pub slot_places : ℕ
slot_places = 256

-- the slot at a place of a list
abbrev pub slot_at : List Slot → ℕ → Slot
slot_at slots k = get_or slots k no_slot

-- the place of a slot's row
abbrev pub row_of : Slot → ℕ
row_of slot = slot.row - 1

-- the place of a slot's step
abbrev pub step_of : Slot → ℕ
step_of slot = slot.step - 1

-- the moment at which a slot ends: its step at full cost
abbrev pub slot_end : View → Slot → ℕ
slot_end L slot = slot.start + L.cost (row_of slot) (step_of slot)

-- a slot is for a row and a step, both counted from 1
abbrev pub is_for : ℕ → ℕ → Slot → Bool
is_for row step slot = eqb slot.row row && eqb slot.step step

-- the first slot for a row and a step
unfoldable pub slot_for : List Slot → ℕ → ℕ → Slot
slot_for slots row step = first_in (is_for row step) no_slot slots

-- the end of the last slot, and 0 where there is none
unfoldable pub last_end : View → List Slot → ℕ
last_end L [] = 0
last_end L (slot ∷ []) = slot_end L slot
last_end L (slot ∷ next ∷ rest) = last_end L (next ∷ rest)
