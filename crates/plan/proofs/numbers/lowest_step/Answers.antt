-- `lowest_step` asks one row a turn: at k it has the lowest unfinished step of the first k rows.
use Rattle.std.proofs.Common.{arith, ◌&&◌, ◌<◌, ap, sym, ◌∙◌, length-take}
use borrow.Author.Tests.{le-leb}
use lib.Seq.{get_or-take}
use Rattle.counting.proofs.tests.TestLaws.{all_to-zero, all_to-next}
use Rattle.plan.specs.inner.Searching.{below_by}
use Rattle.plan.proofs.numbers.lowest_step.Goals as goal

pub loop-i-init : goal.loop-i-init
loop-i-init c = (omega arith, λ j l. all_to-zero _ ∙ sym (le-leb j 8 l))

pub loop-i-preserved : goal.loop-i-preserved
loop-i-preserved c =
    let board = c.args.board.now in
    let i = c.loop-i.i in
    let l : i < c.args.rows = omega (arith, c.loop-i-test.true, length-take c.args.rows board.finished) in
    let here = get_or-take c.args.rows board.finished i 0 l in (
      omega (arith, c.lower_step-lowest.ensures.0, c.loop-i.invariant.0),
      λ j h. all_to-next _ _
          ∙ ap (λ b. b && below_by board.finished board.steps j i) (c.loop-i.invariant.1 j h)
          ∙ rw here at (c.lower_step-lowest.ensures.1 j),
    )
