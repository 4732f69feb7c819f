-- `write_run` looks the rows up as they were read, asks for the room, and then makes one start a turn: after k turns
-- the records of the first k slots of the schedule stand behind the head, and what stood past them is still there.
use Prim.Native.Nat.{◌-◌, ◌≤◌}
use mathlib.Core.Path.{◌≡◌}
use lib.Seq.{sets}
use lib.ListN.{length}
use Rattle.load.specs.View.{view_of}
use Rattle.rules.specs.Run.{schedule}
use Rattle.schedule_file.specs.ScheduleFile.{header_size}
use Rattle.schedule_file.proofs.RecordLaws.{records_of}
use Rattle.bench.proofs.running.RunningLaws.{Running}
use Rattle.bench.proofs.files.write_run.Given as goal

abbrev pub invariant-loop-k : goal.invariant-loop-k
invariant-loop-k l =
    (l.k ≤ l.steps)
    × (length l.out ≡ length l.initial.out)
    × (l.out ≡ sets l.initial.out header_size (records_of (schedule (view_of l.load)) l.k))
    × Running l.load l.board l.clock l.k

abbrev pub decreases-loop-k : goal.decreases-loop-k
decreases-loop-k l =
    l.steps - l.k
