-- `schedule::check_schedule` asks one slot a turn: what is found of those that are left, behind what was seen of those
-- asked so far, is what the rules find of them all.
use Rattle.std.proofs.Common.{◌≡◌, length}
use Rattle.refusals.specs.FirstMet.{first_fault_to}
use Rattle.load.specs.View.{view_of}
use Rattle.rules.specs.Check.{slot_fault}
use Rattle.schedule.proofs.walks.CheckFold.{found_from}
use Rattle.schedule.proofs.check.check_schedule.Given as goal

abbrev pub invariant-loop-slot : goal.invariant-loop-slot
invariant-loop-slot l =
    found_from l.load l.slots l.slot-index l.seen
    ≡ first_fault_to (slot_fault (view_of l.load) l.slots) (length l.slots)
