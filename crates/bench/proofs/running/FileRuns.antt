-- The run of a file, written: its load passes its check, as the file was read, so that what is written is the schedule
-- file of the load that the file spells; and a file that is refused leaves the output as it was.
use Prim.Native.Nat.{ℕ, ◌≤◌}
use mathlib.Core.List.{List, ◌++◌}
use mathlib.Core.Path.{◌≡◌, ap, ap₂, sym, ◌∙◌, subst}
use native.Mathlib.Omega.{arith}
use borrow.Author.Tests.{le-ltb}
use lib.ListN.{length, take}
use lib.Seq.{sets, take_all}
use Rattle.counting.specs.Lists.{join_in}
use Rattle.words.proofs.OverwriteLaws.{sets_more}
use Rattle.refusals.specs.declared.Refusal.{Refusal}
use Rattle.refusals.specs.Checked.{Checked}
use Rattle.std.specs.Prelude.{Ok, Err}
use Rattle.refusals.specs.Given.{Given}
use Rattle.refusals.proofs.GivenLaws.{refused-given}
use Rattle.load.specs.declared.Load.{Load}
use Rattle.load.specs.View.{view_of}
use Rattle.load.specs.Check.{check_load}
use Rattle.load_file.specs.Reading.{file_for_bench}
use Rattle.load_file.specs.Calls.{ReadLoad}
use Rattle.load_file.proofs.CallLaws.{ReadLoad-refused, ReadLoad-good, ReadLoad-load}
use Rattle.rules.specs.declared.Slot.{Slot}
use Rattle.rules.specs.Slots.{most_slots}
use Rattle.rules.specs.Run.{schedule}
use Rattle.schedule_file.specs.ScheduleFile.{header_size, slot_place, head_bytes, slot_record, schedule_bytes}
use Rattle.schedule_file.specs.ScheduleFile.{count_fault, room_fault}
use Rattle.schedule_file.proofs.FileLaws.{head-length, file-is, schedule_bytes-length}
use Rattle.schedule_file.proofs.RecordLaws.{records_of}
use Rattle.schedule_file.proofs.RoomLaws.{room-refused, room-written}
use Rattle.bench.specs.Calls.{WriteRun}
use Rattle.bench.proofs.running.RunsLaws.{schedule-most}

-- the head, and then the records of all slots
file-written : (slots : List Slot) (n : ℕ) (out after-head after : List ℕ) → n ≡ length slots
    → after-head ≡ sets out 0 (head_bytes n) → after ≡ sets after-head header_size (records_of slots n)
    → after ≡ sets out 0 (schedule_bytes slots)
file-written slots n out after-head after e p q =
    let all : take n slots ≡ slots = take_all n slots (omega (arith, e)) in
    sets_more out after-head after 0 header_size (head_bytes n) (records_of slots n) (omega (arith, head-length n)) p q
    ∙ ap (sets out 0) (ap₂ (λ k l. head_bytes k ++ join_in slot_record l) e all ∙ file-is slots)

-- what the code writes of a file that is refused
pub unread-run : (bs out : List ℕ) (refusal : Refusal) → ReadLoad bs (Err refusal) → WriteRun bs out (Err refusal) out
unread-run bs out refusal read = refused-given (file_for_bench bs) _ out refusal (ReadLoad-refused bs refusal read)

-- and of one whose load was read
module _ (bs out : List ℕ) (load : Load) (read : ReadLoad bs (Ok load)) (accepted : check_load load ≡ Ok tt) (n : ℕ)
    (counted : n ≡ length (schedule (view_of load))) where
  abbrev slots : List Slot
  slots = schedule (view_of load)

  long : n ≤ most_slots → length (schedule_bytes slots) ≡ slot_place n
  long few = schedule_bytes-length slots ∙ ap slot_place (sym counted)

  as-file : (found : Checked) (after : List ℕ) → Given (count_fault n) (schedule_bytes slots) out found after
      → WriteRun bs out found after
  as-file found after g =
      let few : count_fault n ≡ Ok tt =
      rw (le-ltb most_slots n (omega (arith, counted, schedule-most load accepted))) in
      subst (λ of-file. Given (file_for_bench bs) (schedule_bytes (schedule (view_of of-file))) out found after)
      (ReadLoad-load bs load read)
      (subst (λ finding. Given finding (schedule_bytes slots) out found after) (few ∙ sym (ReadLoad-good bs load read))
      g)

  pub short-run : (refusal : Refusal) → room_fault n (length out) ≡ Err refusal → WriteRun bs out (Err refusal) out
  short-run refusal e = as-file (Err refusal) out (room-refused n (schedule_bytes slots) out long refusal e)

  pub written-run : (after-head after : List ℕ) (k : ℕ) → room_fault n (length out) ≡ Ok tt → k ≡ n
      → after-head ≡ sets out 0 (head_bytes n) → after ≡ sets after-head header_size (records_of slots k)
      → WriteRun bs out (Ok tt) after
  written-run after-head after k e all p q =
      as-file (Ok tt) after
      (room-written n (schedule_bytes slots) out long after e
      (file-written slots n out after-head after counted p
      (q ∙ ap (λ m. sets after-head header_size (records_of slots m)) all)))
