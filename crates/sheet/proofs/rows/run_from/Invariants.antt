-- `run_from` counts one line a turn: before each turn the row goes on for so many lines, up to the next place. It ends
-- where the sheet does, or with another identifier.
use Prim.Native.Nat.{◌-◌}
use lib.ListN.{length}
use Rattle.sheet.proofs.walk.RunLaws.{RunSoFar}
use Rattle.sheet.proofs.rows.run_from.Given as goal

abbrev pub invariant-loop-next : goal.invariant-loop-next
invariant-loop-next l = RunSoFar l.bytes l.at l.first.line l.steps l.next

abbrev pub decreases-loop-next : goal.decreases-loop-next
decreases-loop-next l = length l.bytes - l.next
