-- `steps_of` adds one row's steps a turn: at i it has those of the first i rows.
use Rattle.std.proofs.Common.{arith, ◌≡◌, ◌≤◌, ◌<◌, ◌+◌, sym, ◌∙◌, take, get_or, length-take}
use mathlib.Core.Path.{ap₂}
use lib.Seq.{get_or-take}
use Rattle.counting.specs.Lists.{member_at}
use Rattle.counting.proofs.sums.SumLaws.{sum_to-zero, sum_to-next}
use Rattle.bench.proofs.boards.steps_of.Goals as goal
use Rattle.bench.proofs.boards.steps_of.Goals.{In-loop-steps}

-- what a turn adds
module _ (c : In-loop-steps) where
  below : c.loop-steps.steps-index < c.args.rows
  below = omega (arith, c.loop-steps-test.true, length-take c.args.rows c.args.board.now.steps)

  here-is : get_or (take c.args.rows c.args.board.now.steps) c.loop-steps.steps-index 0
      ≡ member_at c.args.board.now.steps c.loop-steps.steps-index
  here-is = get_or-take c.args.rows c.args.board.now.steps c.loop-steps.steps-index 0 below

  here-most : member_at c.args.board.now.steps c.loop-steps.steps-index ≤ 8
  here-most = c.requires.1 c.loop-steps.steps-index below

pub loop-steps-init : goal.loop-steps-init
loop-steps-init c = (sym (sum_to-zero _), omega arith)

pub loop-steps-preserved : goal.loop-steps-preserved
loop-steps-preserved c =
    let at = (goal.at.loop-steps-preserved c).In-loop-steps in
    let inv = c.loop-steps.invariant in
    (ap₂ ◌+◌ inv.0 (here-is at) ∙ sym (sum_to-next _ _), omega (arith, here-is at, here-most at, inv.1))
