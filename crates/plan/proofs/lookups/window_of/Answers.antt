-- `window_of` asks one window a turn: until one is open, the first open one is to be found among those from here on.
use Rattle.std.proofs.Common.{arith, length, ◌≡◌, ◌∙◌, ◌<◌, sym, length-take}
use mathlib.Core.Bool.{and-false}
use lib.Seq.{get_or-take}
use borrow.Author.Rules.{rules}
use borrow.Author.Tests.{le-leb, lt-leb, lt-ltb, le-ltb}
use Rattle.counting.proofs.searches.FirstInLaws.{first_in-from, first_in-past}
use Rattle.load.specs.Load.{no_window}
use Rattle.load.specs.View.{open_with, open_at}
use Rattle.plan.proofs.lookups.window_of.Goals as goal
use Rattle.plan.proofs.lookups.window_of.Goals.{
  else-window-finished-via-then-window-finished+else-finished-window,
  else-window-finished-via-else-window-finished,
}

pub returns-then-finished-window : goal.returns-then-finished-window
unfolding open_at
returns-then-finished-window c =
    let row = c.args.row.now in
    let finished = c.args.finished in
    let k = c.loop-window.window-index in
    let l : k < c.min-windows.result =
    omega (arith, c.loop-window-test.true, length-take c.min-windows.result row.window) in
    let here = get_or-take c.min-windows.result row.window k no_window l in
    rw here
    (sym
    (c.loop-window.invariant
    ∙ first_in-from (open_with finished) no_window row.window row.windows k
    (omega (arith, c.loop-window-test.true, length-take c.min-windows.result row.window))
    (omega (arith, c.min-windows.ensures))
    ∙ rw (le-leb _ _ (rw here at c.if-window-finished.true), lt-ltb _ _ (rw here at c.if-finished-window.true))))

pub loop-window-preserved : goal.loop-window-preserved
loop-window-preserved c =
    let row = c.args.row.now in
    let finished = c.args.finished in
    let k = c.loop-window.window-index in
    let l : k < c.min-windows.result =
    omega (arith, c.loop-window-test.true, length-take c.min-windows.result row.window) in
    let here = get_or-take c.min-windows.result row.window k no_window l in
    c.loop-window.invariant
    ∙ first_in-from (open_with finished) no_window row.window row.windows k
    (omega (arith, c.loop-window-test.true, length-take c.min-windows.result row.window))
    (omega (arith, c.min-windows.ensures))
    ∙ elim c.else-window-finished.branch [
      | else-window-finished-via-then-window-finished+else-finished-window w ↦
          rw (le-ltb _ _ (rw here at w.if-finished-window.false), and-false) cc
      | else-window-finished-via-else-window-finished w ↦ rw (lt-leb _ _ (rw here at w.if-window-finished.false)) cc
    ]

pub returns : goal.returns
unfolding open_at
returns c =
    let row = c.args.row.now in
    let long : length row.window ≡ 4 = search rules in
    sym
    (c.loop-window.invariant
    ∙ first_in-past (open_with c.args.finished) no_window row.window row.windows c.loop-window.window-index
    (omega (arith, c.loop-window-test.false, c.min-windows.ensures, length-take c.min-windows.result row.window)))
