-- `check_lines` checks one line a turn beside the one before it: before each turn no fault is found in the lines before
-- the place. A line that is refused decides; behind the last line the end does.
use Prim.Native.Nat.{◌-◌}
use lib.ListN.{length}
use Rattle.sheet.proofs.walk.LineWalk.{Walked}
use Rattle.sheet.proofs.lines.check_lines.Given as goal

abbrev pub invariant-loop-at : goal.invariant-loop-at
invariant-loop-at l = Walked l.bytes l.at l.before

abbrev pub decreases-loop-at : goal.decreases-loop-at
decreases-loop-at l = length l.bytes - l.at
