-- `steps_of` adds one row's steps a turn: at i it has those of the first i rows.
use Rattle.std.proofs.Common.{◌≡◌, ◌≤◌, ◌*◌}
use Rattle.counting.specs.Sums.{sum_to}
use Rattle.counting.specs.Lists.{member_at}
use Rattle.bench.proofs.boards.steps_of.Given as goal

abbrev pub invariant-loop-steps : goal.invariant-loop-steps
invariant-loop-steps l =
    (l.sum ≡ sum_to (member_at l.board.steps) l.steps-index) × (l.sum ≤ l.steps-index * 8)
