-- `rows_shaped` asks one row a turn: the first i rows have their shape, and the first that has not ends the search.
use Rattle.std.proofs.Common.{arith, ◌≡◌, ◌<◌, ap, sym, ◌∙◌, length-take}
use lib.Seq.{get_or-take}
use Rattle.counting.specs.Sums.{all_to}
use Rattle.counting.proofs.tests.TestLaws.{all_to-zero, all_to-next, false-all_to}
use Rattle.load.specs.Load.{no_row}
use Rattle.load.specs.View.{view_of}
use Rattle.rules.specs.State.{row_shaped}
use Rattle.bench.specs.Held.{state_of}
use Rattle.bench.proofs.shown.LookLaws.{shape-of-row}
use Rattle.bench.proofs.shown.CheckedLaws.{checked-rows}
use Rattle.bench.proofs.shape.rows_shaped.Goals as goal
use Rattle.bench.proofs.shape.rows_shaped.Goals.{After-row_shaped-fits}

pub shared_ref_as_front-row-items : goal.shared_ref_as_front-row-items
shared_ref_as_front-row-items c = checked-rows c.args.load c.requires

pub loop-i-init : goal.loop-i-init
loop-i-init c = all_to-zero _

-- a row of the load
module _ (c : After-row_shaped-fits) where
  below : c.loop-i.i < c.args.load.rows
  below = omega (arith, c.loop-i-test.true, length-take c.args.load.rows c.args.load.row)

  asked : c.row_shaped-fits.result ≡ row_shaped (view_of c.args.load) (state_of c.args.bench) c.loop-i.i
  asked =
      let here = get_or-take c.args.load.rows c.args.load.row c.loop-i.i no_row below in
      rw here at c.row_shaped-fits.ensures ∙ shape-of-row c.args.load c.args.bench c.loop-i.i

pub returns-then-not-fits : goal.returns-then-not-fits
returns-then-not-fits c =
    let at = (goal.at.returns-then-not-fits c).After-row_shaped-fits in
    sym
    (false-all_to (row_shaped (view_of c.args.load) (state_of c.args.bench)) c.args.load.rows c.loop-i.i (below at)
    (sym (asked at) ∙ c.if-not-fits.true))

pub loop-i-preserved : goal.loop-i-preserved
loop-i-preserved c =
    let at = (goal.at.loop-i-preserved c).After-row_shaped-fits in
    let here = sym (asked at) ∙ c.if-not-fits.false in
    rw (all_to-next, c.loop-i.invariant, here)

pub returns : goal.returns
returns c =
    let load = c.args.load in
    let e : load.rows ≡ c.loop-i.i =
    omega (arith, c.loop-i-test.false, checked-rows load c.requires, length-take load.rows load.row) in
    sym (ap (all_to (row_shaped (view_of load) (state_of c.args.bench))) e ∙ c.loop-i.invariant)
