-- `check_lines` checks one line a turn beside the one before it: before each turn no fault is found in the lines before
-- the place. A line that is refused decides; behind the last line the end does.
use mathlib.Core.Path.{sym, ◌∙◌}
use native.Mathlib.Omega.{arith}
use Rattle.refusals.proofs.PassedOn.{passed_on}
use Rattle.sheet.proofs.walk.LineWalk.{walked_none, none-decides, line-decides, next-behind, walked_next, end-decides}
use Rattle.sheet.proofs.lines.check_lines.Goals as goal

pub loop-at-init : goal.loop-at-init
loop-at-init c = walked_none c.args.bytes.now _ c.no_line-before.ensures

pub returns-in_default : goal.returns-in_default
returns-in_default c = sym (none-decides c.loop-at.invariant c.loop-at-test.true c.in_default.ensures)

pub returns-in_err-check_line : goal.returns-in_err-check_line
returns-in_err-check_line c =
    let decided = line-decides c.loop-at.invariant c.loop-at-test.true _ c.in-Some.ensures _
    c.goes_on_from-goes_on.ensures _ c.in_err-check_line.ensures in
    passed_on _ _ c.from_residual.ensures.1 ∙ sym decided

pub loop-at-smaller : goal.loop-at-smaller
loop-at-smaller c =
    let behind = next-behind c.loop-at.invariant c.loop-at-test.true _ c.in-Some.ensures _
    c.goes_on_from-goes_on.ensures in
    omega arith

pub loop-at-preserved : goal.loop-at-preserved
loop-at-preserved c =
    walked_next c.loop-at.invariant c.loop-at-test.true _ c.in-Some.ensures _ c.goes_on_from-goes_on.ensures
    c.in_ok-check_line.ensures

pub returns : goal.returns
returns c = end-decides c.loop-at.invariant c.loop-at-test.false _ c.check_end.ensures
