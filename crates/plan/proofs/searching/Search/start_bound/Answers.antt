-- `start_bound` asks one row that is tried for its first moment: at that moment it is a candidate and passes.
use Rattle.plan.proofs.SweptLaws.{starts_first}
use Rattle.plan.proofs.searching.Search.start_bound.Goals as goal

pub returns : goal.returns
returns c =
    let row = c.in-Some.ensures in
    starts_first c.args.self.now.board.now _ _ _
    c.requires _ row.0 _ _ c.row_from-from.ensures c.first_passing-moment.ensures _
    c.args.self.now.lowest_is row.1
