-- `row_shaped` asks the steps, the end and the opening in turn.
use borrow.Author.Tests.{le-leb, lt-leb}
use Rattle.plan.specs.Looks.{view_alike, state_alike}
use Rattle.plan.proofs.LookLaws.{is_open-last}
use Rattle.bench.proofs.shape.row_shaped.Goals as goal

pub returns-then-row-finished : goal.returns-then-row-finished
returns-then-row-finished c = rw (lt-leb _ _ c.if-row-finished.true)

pub returns-then-latest_end-end : goal.returns-then-latest_end-end
returns-then-latest_end-end c =
    rw (le-leb _ _ c.if-row-finished.false, ← c.latest_end.ensures, lt-leb _ _ c.if-latest_end-end.true)

pub returns : goal.returns
returns c =
    let L = view_alike c.args.row in
    let s = state_alike c.args.clock c.args.finished c.args.end c.args.opening in
    rw (
      le-leb _ _ c.if-row-finished.false,
      ← c.latest_end.ensures,
      le-leb _ _ c.if-latest_end-end.false,
      is_open-last L s 0,
      c.latest_opening.ensures,
      c.open_window-window.ensures,
    )
