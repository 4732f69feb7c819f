-- `numbers_of` marks the lowest unfinished step, and then that of one open row a turn: what is marked stays so.
use Rattle.plan.specs.inner.Searching.{NumbersIn}
use Rattle.plan.proofs.numbers.numbers_of.Given as goal

abbrev pub invariant-loop-i : goal.invariant-loop-i
invariant-loop-i l = NumbersIn l.board.finished l.board.opened l.lowest l.i l.numbers
