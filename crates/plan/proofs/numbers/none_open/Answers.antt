-- `none_open` asks one row a turn: it knows whether one of those asked so far has an open window.
use Rattle.std.proofs.Common.{arith, ◌<◌, sym, ◌∙◌, length-take}
use mathlib.Core.Bool.{false, ◌||◌}
use mathlib.Core.Path.{ap₂}
use lib.Seq.{get_or-take}
use Rattle.counting.specs.Lists.{is_marked}
use Rattle.counting.proofs.tests.TestLaws.{any_to-zero, any_to-next}
use Rattle.plan.proofs.numbers.none_open.Goals as goal

pub loop-opened-init : goal.loop-opened-init
loop-opened-init c = sym (any_to-zero _)

pub loop-opened-preserved : goal.loop-opened-preserved
loop-opened-preserved c =
    let opened = c.args.board.now.opened in
    let k = c.loop-opened.opened-index in
    let l : k < c.args.rows = omega (arith, c.loop-opened-test.true, length-take c.args.rows opened) in
    ap₂ ◌||◌ c.loop-opened.invariant (get_or-take c.args.rows opened k false l)
    ∙ sym (any_to-next (is_marked opened) k)
