-- "What the contracts have to say": every public call on schedules, once.
-- To be read after the Calls of the crates that it names.
use Rattle.std.specs.Prelude.{ℕ, List}
use Rattle.refusals.specs.Checked.{Checked}
use Rattle.load.specs.declared.Load.{Load}
use Rattle.rules.specs.declared.Slot.{Slot}
use Rattle.schedule.specs.Calls.{AtMostPlaces, CheckSchedule, CheckArray}
use Rattle.schedule_file.specs.Calls.{CheckRoom, HeadRecord, SlotRecord}
use Rattle.schedule_file.specs.Calls.{WriteSchedule, WriteArray}
use Rattle.demands.specs.FileCalls.{Wrote, Writes}

-- what is claimed of the relation of each call on schedules, for all that it is given
pub record EveryScheduleCall {ℓ} (Claim : (A : Type 0) → (A → Type 0) → Type ℓ) : Type ℓ where
  -- schedule
  pub at-most-places : (n : ℕ) → Claim ℕ (AtMostPlaces n)
  pub check-schedule : (load : Load) (slots : List Slot) → Claim Checked (CheckSchedule load slots)
  pub check-array : (load : Load) (slots : List Slot) (n : ℕ)
      → Claim Checked (CheckArray load slots n)
  -- schedule_file
  pub check-room : (n room : ℕ) → Claim Checked (CheckRoom n room)
  pub head-record : (n : ℕ) → Claim (List ℕ) (HeadRecord n)
  pub slot-record : (row step start : ℕ) → Claim (List ℕ) (SlotRecord row step start)
  pub write-schedule : (slots : List Slot) (out : List ℕ)
      → Claim (Wrote Checked) (Writes (WriteSchedule slots out))
  pub write-array : (slots : List Slot) (n : ℕ) (out : List ℕ)
      → Claim (Wrote Checked) (Writes (WriteArray slots n out))
