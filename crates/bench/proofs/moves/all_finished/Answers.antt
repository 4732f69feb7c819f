-- `all_finished` asks one row a turn: the first i rows are finished, and the first that is not ends the search.
use Rattle.std.proofs.Common.{arith, ◌<◌, sym, length-take}
use borrow.Author.Tests.{le-leb, lt-leb}
use lib.Seq.{get_or-take}
use Rattle.counting.proofs.tests.TestLaws.{all_to-zero, all_to-next, false-all_to}
use Rattle.bench.proofs.moves.all_finished.Goals as goal

pub loop-i-init : goal.loop-i-init
loop-i-init c = all_to-zero _

pub returns-then-finished-board : goal.returns-then-finished-board
returns-then-finished-board c =
    let finished = c.args.board.now.finished in
    let l : c.loop-i.i < c.args.rows = omega (arith, c.loop-i-test.true, length-take c.args.rows finished) in
    let here = get_or-take c.args.rows finished c.loop-i.i 0 l in
    sym (false-all_to _ c.args.rows c.loop-i.i l (lt-leb _ _ (rw here at c.if-finished-board.true)))

pub loop-i-preserved : goal.loop-i-preserved
loop-i-preserved c =
    let finished = c.args.board.now.finished in
    let l : c.loop-i.i < c.args.rows = omega (arith, c.loop-i-test.true, length-take c.args.rows finished) in
    let here = get_or-take c.args.rows finished c.loop-i.i 0 l in
    rw (all_to-next, c.loop-i.invariant, le-leb _ _ (rw here at c.if-finished-board.false))
