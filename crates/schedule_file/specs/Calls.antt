-- What each public call's contract says: one relation a call, over what it takes, what it gives,
-- and what the lent bytes hold afterwards. To be read after ScheduleFile.
use Rattle.std.specs.Prelude.{ℕ, List, ◌≡◌}
use Rattle.refusals.specs.Checked.{Checked}
use Rattle.refusals.specs.Given.{Given}
use Rattle.rules.specs.declared.Slot.{Slot}
use Rattle.schedule.specs.Calls.{first_slots}
use Rattle.schedule_file.specs.ScheduleFile.{
  head_bytes,
  slot_of,
  slot_record,
  schedule_bytes,
  slots_fault,
  room_fault,
}

-- check_room(n, room): 3 for more than 192 slots, then 9 where their file has more bytes than room,
-- or Good
abbrev pub CheckRoom : ℕ → ℕ → Checked → Type 0
CheckRoom n room r = r ≡ room_fault n room

-- head_record(n): the head of the file of n slots
abbrev pub HeadRecord : ℕ → List ℕ → Type 0
HeadRecord n r = r ≡ head_bytes n

-- slot_record(row, step, start): the record of the slot with these numbers
abbrev pub SlotRecord : ℕ → ℕ → ℕ → List ℕ → Type 0
SlotRecord row step start r = r ≡ slot_record (slot_of row step start)

-- write_schedule(slots, out): 3 for more than 192 slots, then 9, or Good with the file in the
-- output
abbrev pub WriteSchedule : List Slot → List ℕ → Checked → List ℕ → Type 0
WriteSchedule slots out r after = Given (slots_fault slots) (schedule_bytes slots) out r after

-- write_array(slots, n, out): the same of the first n slots of an array
abbrev pub WriteArray : List Slot → ℕ → List ℕ → Checked → List ℕ → Type 0
WriteArray slots n out r after = WriteSchedule (first_slots slots n) out r after
