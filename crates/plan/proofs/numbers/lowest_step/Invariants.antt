-- `lowest_step` asks one row a turn: at k it has the lowest unfinished step of the first k rows.
use Rattle.std.proofs.Common.{ℕ, ◌≡◌, ◌≤◌, leb}
use Rattle.counting.specs.Sums.{all_to}
use Rattle.plan.specs.inner.Searching.{below_by}
use Rattle.plan.proofs.numbers.lowest_step.Given as goal

abbrev pub invariant-loop-i : goal.invariant-loop-i
invariant-loop-i l =
    (l.lowest ≤ 8)
    × ((j : ℕ) → j ≤ 8 → all_to (below_by l.board.finished l.board.steps j) l.i ≡ leb j l.lowest)
