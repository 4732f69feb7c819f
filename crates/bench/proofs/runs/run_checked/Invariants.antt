-- `run_checked` makes one start a turn. What holds at every turn is `Running`: the slots so far are the first of the
-- schedule, and with fewer than the schedule has, work is left and there is a next start.
use Prim.Native.Nat.{◌-◌, ◌≤◌}
use mathlib.Core.Path.{◌≡◌}
use lib.ListN.{length}
use Rattle.counting.specs.Lists.{filled}
use Rattle.load.specs.View.{view_of}
use Rattle.rules.specs.Slots.{no_slot, slot_places, slot_at}
use Rattle.rules.specs.Run.{schedule}
use Rattle.bench.proofs.running.RunningLaws.{Running}
use Rattle.bench.proofs.runs.run_checked.Given as goal

abbrev pub invariant-loop-k : goal.invariant-loop-k
invariant-loop-k l =
    (l.k ≤ l.steps)
    × (l.steps ≡ length (schedule (view_of l.load)))
    × Running l.load l.board l.clock l.k
    × (l.slots ≡ filled (slot_at (schedule (view_of l.load))) l.k slot_places no_slot)

abbrev pub decreases-loop-k : goal.decreases-loop-k
decreases-loop-k l =
    l.steps - l.k
