-- "Load file", the schedule file: "mark 53 43 with a slot count (2 bytes), then per slot mark 53
-- 4C, row (1), step (1), start (4)"; "the schedule's takes slots, their numbers unchecked, with 3
-- for more than 192". Rests on D26: 9 comes last, and goes by the file's own length.
use Rattle.std.specs.Prelude.{ℕ, ◌+◌, ◌*◌, List, [], ◌∷◌, ◌++◌, ltb, length}
use Rattle.counting.specs.Lists.{join_in}
use Rattle.words.specs.LittleEndian.{little_endian}
use Rattle.refusals.specs.declared.Refusal.TheVariants.{OutOfRange, OutputShort}
use Rattle.refusals.specs.Checked.{Checked}
use Rattle.refusals.specs.FirstMet.{first_met, first_fault}
use Rattle.rules.specs.declared.Slot.{Slot}
use Rattle.rules.specs.Slots.{most_slots}

-- how many bytes the head has, its mark counted
abbrev pub header_size : ℕ
header_size = 4

-- how many bytes the record of a slot has, its mark counted
abbrev pub slot_size : ℕ
slot_size = 8

-- the place at which the record of slot k stands, and the file of k slots ends
abbrev pub slot_place : ℕ → ℕ
slot_place k = header_size + slot_size * k

-- the head of the file of n slots
abbrev pub head_bytes : ℕ → List ℕ
head_bytes n = 0x53 ∷ 0x43 ∷ little_endian 2 n

-- the slot with these numbers
abbrev pub slot_of : ℕ → ℕ → ℕ → Slot
slot_of row step start = record { row = row; step = step; start = start }

-- the record of a slot
abbrev pub slot_record : Slot → List ℕ
slot_record slot = 0x53 ∷ 0x4C ∷ slot.row ∷ slot.step ∷ little_endian 4 slot.start

-- the file of a list of slots
unfoldable pub schedule_bytes : List Slot → List ℕ
schedule_bytes slots = head_bytes (length slots) ++ join_in slot_record slots

-- 3 for more than 192 slots, by their number
abbrev pub count_fault : ℕ → Checked
count_fault n = first_met ((ltb most_slots n, OutOfRange) ∷ [])

-- the same of a list of slots
abbrev pub slots_fault : List Slot → Checked
slots_fault slots = count_fault (length slots)

-- 3 for more than 192 slots, then 9 where there is room for fewer bytes than their file has
abbrev pub room_fault : ℕ → ℕ → Checked
room_fault n room =
    first_fault (count_fault n ∷ first_met ((ltb room (slot_place n), OutputShort) ∷ []) ∷ [])
