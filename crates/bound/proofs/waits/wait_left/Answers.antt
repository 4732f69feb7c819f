-- `wait_left` takes row i's mark away and asks for the r smallest costs of the rows that are left.
use Rattle.std.proofs.Common.{◌+◌, ◌≡◌, ◌∙◌, arith, set}
use Rattle.std.specs.Prelude.{false}
use Rattle.counting.specs.Lists.{is_marked}
use Rattle.counting.proofs.sorting.PairLaws.{pairs_smallest}
use Rattle.bound.specs.inner.Marks.{cost_at, is_other}
use Rattle.bound.proofs.MarkLaws.{Costed-others, pairs_smallest-others}
use Rattle.bound.proofs.waits.wait_left.Goals as goal
use Rattle.bound.proofs.waits.wait_left.Goals.{After-smallest_sum-given}

pub smallest_sum-given-requires : goal.smallest_sum-given-requires
smallest_sum-given-requires c =
    let a = c.args in Costed-others a.pairs.now a.i a.load.now a.n a.j c.requires.0

given_is : (c : After-smallest_sum-given)
    → let a = c.args in
    c.smallest_sum-given.result
    ≡ pairs_smallest (cost_at a.load.now a.j) (cost_at a.load.now (a.j + 1)) (is_other a.pairs.now a.i) a.n
given_is c =
    let a = c.args in
    ◌∙◌
    {b = pairs_smallest (cost_at a.load.now a.j) (cost_at a.load.now (a.j + 1))
    (is_marked (set a.pairs.now a.i false)) a.n}
    c.smallest_sum-given.ensures (pairs_smallest-others a.pairs.now a.i _ _ a.n)

pub returns : goal.returns
returns c = omega (arith, c.saturating_sub.ensures, given_is (goal.at.returns c).After-smallest_sum-given)
