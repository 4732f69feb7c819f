-- Any two results that meet a call's relation are equal.
use Prim.Native.Nat.{ℕ}
use mathlib.Core.List.{List}
use mathlib.Core.Path.{◌≡◌, sym, ◌∙◌}
use Rattle.refusals.specs.Checked.{Checked}
use Rattle.refusals.proofs.CallLaws.{Given-unique-finding, Given-unique-output}
use Rattle.rules.specs.declared.Slot.{Slot}
use Rattle.schedule.specs.Calls.{first_slots}
use Rattle.schedule_file.specs.ScheduleFile.{slots_fault, schedule_bytes}
use Rattle.schedule_file.specs.Calls.{CheckRoom, HeadRecord, SlotRecord, WriteSchedule, WriteArray}

pub CheckRoom-unique : (n room : ℕ) (r s : Checked) → CheckRoom n room r → CheckRoom n room s → r ≡ s
CheckRoom-unique n room r s p q = p ∙ sym q

pub HeadRecord-unique : (n : ℕ) (r s : List ℕ) → HeadRecord n r → HeadRecord n s → r ≡ s
HeadRecord-unique n r s p q = p ∙ sym q

pub SlotRecord-unique : (row step start : ℕ) (r s : List ℕ) → SlotRecord row step start r → SlotRecord row step start s
    → r ≡ s
SlotRecord-unique row step start r s p q = p ∙ sym q

pub WriteSchedule-unique : (slots : List Slot) (out : List ℕ) (r s : Checked) (after later : List ℕ)
    → WriteSchedule slots out r after → WriteSchedule slots out s later → (r ≡ s) × (after ≡ later)
WriteSchedule-unique slots out r s after later p q = (
  Given-unique-finding (slots_fault slots) (schedule_bytes slots) out r s after later p q,
  Given-unique-output (slots_fault slots) (schedule_bytes slots) out r s after later p q,
)

pub WriteArray-unique : (slots : List Slot) (n : ℕ) (out : List ℕ) (r s : Checked) (after later : List ℕ)
    → WriteArray slots n out r after → WriteArray slots n out s later → (r ≡ s) × (after ≡ later)
WriteArray-unique slots n = WriteSchedule-unique (first_slots slots n)
