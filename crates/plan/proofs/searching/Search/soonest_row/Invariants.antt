-- `soonest_row` keeps a row that is tried.
use Rattle.std.proofs.Common.{IfSome, ◌<◌}
use Rattle.plan.specs.inner.Searching.{TriedRow}
use Rattle.plan.proofs.searching.Search.soonest_row.Given as goal

abbrev pub invariant-loop-i : goal.invariant-loop-i
invariant-loop-i l =
    IfSome l.row (λ row. (row < l.self.rows)
    × TriedRow l.self.board.now.finished l.self.board.now.steps l.self.board.now.opened
    l.self.lowest row)
