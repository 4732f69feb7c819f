-- `schedule_file::write_schedule` writes one record a turn: after k turns the records of the first k slots stand behind
-- the head, and what stood past them is still there.
use Rattle.std.proofs.Common.{◌≡◌, ◌≤◌, length}
use Rattle.std.proofs.lemmas.List.Edits.{sets}
use Rattle.rules.specs.Slots.{most_slots}
use Rattle.schedule_file.specs.ScheduleFile.{header_size}
use Rattle.schedule_file.proofs.RecordLaws.{records_of}
use Rattle.schedule_file.proofs.write.write_schedule.Given as goal

abbrev pub invariant-loop-k : goal.invariant-loop-k
invariant-loop-k l =
    record {
      few : length l.slots ≤ most_slots;
      room : length l.out ≡ length l.initial.out;
      so_far : l.out ≡ sets l.initial.out header_size (records_of l.slots l.k);
    }
