-- `none_open` asks one row a turn: it knows whether one of those asked so far has an open window.
use Rattle.std.proofs.Common.{◌≡◌}
use Rattle.counting.specs.Lists.{is_marked}
use Rattle.counting.specs.Sums.{any_to}
use Rattle.plan.proofs.numbers.none_open.Given as goal

abbrev pub invariant-loop-opened : goal.invariant-loop-opened
invariant-loop-opened l = l.any ≡ any_to (is_marked l.board.opened) l.opened-index
