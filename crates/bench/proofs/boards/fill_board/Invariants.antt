-- `fill_board` looks one row up a turn: the board shows the first i rows. The shape of the bench says that no number
-- counts as less.
use Rattle.std.proofs.Common.{ℕ, ◌≡◌, ◌<◌, length}
use Rattle.load.specs.Load.{most_rows}
use Rattle.plan.proofs.BoardLaws.{Placed}
use Rattle.bench.specs.inner.Boards.{ClassesOf}
use Rattle.bench.proofs.shown.ShownRows.{Shown}
use Rattle.bench.proofs.boards.fill_board.Given as goal

abbrev pub invariant-loop-i : goal.invariant-loop-i
invariant-loop-i l =
    Placed l.board
    × ((k : ℕ) → k < l.i → Shown l.fn.load l.bench l.board k)
    × (length l.classes ≡ most_rows)
    × ClassesOf l.fn.load l.i l.classes
