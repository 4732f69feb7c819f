-- Worked cases of the schedule file: "mark 53 43 with a slot count (2 bytes), then per slot mark 53
-- 4C, row (1), step (1), start (4)"; "their numbers unchecked, with 3 for more than 192"; "nothing
-- lent is altered"; "Output beyond what is written stays". Worked by hand from those words. To be
-- read after Calls.
use Rattle.std.specs.Prelude.{ℕ, List, [], ◌∷◌, ◌++◌, ◌≡◌, replicate, Ok, Err}
use Rattle.refusals.specs.declared.Refusal.TheVariants.{OutOfRange, OutputShort}
use Rattle.rules.specs.declared.Slot.{Slot}
use Rattle.schedule.specs.Calls.{first_slots}
use Rattle.schedule_file.specs.ScheduleFile.{slots_fault, schedule_bytes}
use Rattle.schedule_file.specs.Calls.{CheckRoom, HeadRecord, SlotRecord, WriteSchedule}

-- row 1, step 2, from the moment 01020304 on
abbrev pub a_slot : Slot
a_slot = record { row = 1; step = 2; start = 0x01020304 }

-- no row and no step of any load, from a moment past the last
abbrev pub odd_slot : Slot
odd_slot = record { row = 255; step = 0; start = 4294967295 }

-- the file of the first slot alone
abbrev pub file_of_one : List ℕ
file_of_one =
    0x53 ∷ 0x43 ∷ 0x01 ∷ 0x00 ∷ 0x53 ∷ 0x4C ∷ 0x01 ∷ 0x02 ∷ 0x04 ∷ 0x03 ∷ 0x02 ∷ 0x01 ∷ []

-- the file of both, in their order
abbrev pub file_of_two : List ℕ
file_of_two =
    0x53 ∷ 0x43 ∷ 0x02 ∷ 0x00
    ∷ 0x53 ∷ 0x4C ∷ 0x01 ∷ 0x02 ∷ 0x04 ∷ 0x03 ∷ 0x02 ∷ 0x01
    ∷ 0x53 ∷ 0x4C ∷ 0xFF ∷ 0x00 ∷ 0xFF ∷ 0xFF ∷ 0xFF ∷ 0xFF
    ∷ []

-- a lent room of n bytes
abbrev pub room_of : ℕ → List ℕ
room_of n = replicate n 0xA5

-- each case, and what is right of it
pub record WorkedCases : Type 0 where
  -- the head of a file of 6 slots
  pub head : HeadRecord 6 (0x53 ∷ 0x43 ∷ 0x06 ∷ 0x00 ∷ [])
  -- the lowest byte of the count first; what two bytes do not hold is left out
  pub head-long : HeadRecord 0x010203 (0x53 ∷ 0x43 ∷ 0x03 ∷ 0x02 ∷ [])
  -- the record of row 1, step 2, from the moment 12 on
  pub slot : SlotRecord 1 2 12
      (0x53 ∷ 0x4C ∷ 0x01 ∷ 0x02 ∷ 0x0C ∷ 0x00 ∷ 0x00 ∷ 0x00 ∷ [])
  -- two slots take 20 bytes: one byte less is 9
  pub room-short : CheckRoom 2 19 (Err OutputShort)
  pub room-exact : CheckRoom 2 20 (Ok tt)
  -- the room for 192 slots, and 3 for one more, whatever the room
  pub room_most : CheckRoom 192 1540 (Ok tt)
  pub room-never : (room : ℕ) → CheckRoom 193 room (Err OutOfRange)
  -- the file of no slot
  pub none : schedule_bytes [] ≡ 0x53 ∷ 0x43 ∷ 0x00 ∷ 0x00 ∷ []
  -- the file of one slot, byte for byte
  pub one : schedule_bytes (a_slot ∷ []) ≡ file_of_one
  -- the file of two slots, whatever their numbers
  pub two : schedule_bytes (a_slot ∷ odd_slot ∷ []) ≡ file_of_two
  -- 192 slots are not too many
  pub most : slots_fault (replicate 192 a_slot) ≡ Ok tt
  -- 193 are refused with 3
  pub one_more : slots_fault (replicate 193 a_slot) ≡ Err OutOfRange
  -- 192 slots are written where there is room for 4 + 8 * 192 bytes
  pub most-fit : WriteSchedule (replicate 192 a_slot) (room_of 1540) (Ok tt)
      (schedule_bytes (replicate 192 a_slot))
  -- 3 comes before 9: 193 slots into no room
  pub three-first : WriteSchedule (replicate 193 a_slot) [] (Err OutOfRange) []
  -- what is refused with 3 leaves the output
  pub three-leaves : WriteSchedule (replicate 193 a_slot) (room_of 5)
      (Err OutOfRange) (room_of 5)
  -- a room of one byte less than the file is refused with 9, and stays
  pub short : WriteSchedule (a_slot ∷ []) (room_of 11) (Err OutputShort) (room_of 11)
  -- a room of the file's length is enough
  pub exact : WriteSchedule (a_slot ∷ []) (room_of 12) (Ok tt) file_of_one
  -- bytes past the file stay
  pub longer : WriteSchedule (a_slot ∷ []) (room_of 14) (Ok tt) (file_of_one ++ room_of 2)
  -- the first two slots of an array of three
  pub front : first_slots (a_slot ∷ odd_slot ∷ a_slot ∷ []) 2 ≡ a_slot ∷ odd_slot ∷ []
