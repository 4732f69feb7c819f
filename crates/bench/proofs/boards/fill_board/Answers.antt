-- `fill_board` looks one row up a turn: the board shows the first i rows. The shape of the bench says that no number
-- counts as less.
use Rattle.std.proofs.Common.{arith, ℕ, ◌≤◌, ◌<◌, ◌∙◌, refl, length-take, length-set}
use lib.Seq.{get_or-take}
use Rattle.load.specs.declared.Load.{Load}
use Rattle.load.specs.Load.{no_row}
use Rattle.load.specs.View.{view_of}
use Rattle.bench.specs.Held.{state_of}
use Rattle.bench.proofs.shown.CheckedLaws.{checked-rows, checked-steps, shaped-clock, shaped_row}
use Rattle.bench.proofs.shown.ShownRows.{shown-next, shows-all, row-looked, row-steps, row-opening}
use Rattle.bench.proofs.shown.ShownRows.{classes-next}
use Rattle.bench.proofs.shown.PutLaws.{placed-wide, put-renewed, after-placed}
use Rattle.bench.proofs.boards.fill_board.Goals as goal
use Rattle.bench.proofs.boards.fill_board.Goals.{In-loop-i}

rows_are : (load : Load) (i : ℕ) → i < load.rows → i < (view_of load).rows
unfolding view_of
rows_are load i l = l

-- a row of the load
module _ (c : In-loop-i) where
  below : c.loop-i.i < c.args.load.now.rows
  below = omega (arith, c.loop-i-test.true, length-take c.args.load.now.rows c.args.load.now.row)

  place : c.loop-i.i < 24
  place = omega (arith, below, checked-rows c.args.load.now c.requires.load_value)

pub shared_ref_as_front-row-items : goal.shared_ref_as_front-row-items
shared_ref_as_front-row-items c = checked-rows c.args.load.now c.requires.load_value

pub bounds-bench-i : goal.bounds-bench-i
bounds-bench-i c = place (goal.at.bounds-bench-i c).In-loop-i

pub bounds-bench-i-in-loop-i : goal.bounds-bench-i-in-loop-i
bounds-bench-i-in-loop-i c = place (goal.at.bounds-bench-i-in-loop-i c).In-loop-i

pub bounds-bench-i-in-loop-i-2 : goal.bounds-bench-i-in-loop-i-2
bounds-bench-i-in-loop-i-2 c = place (goal.at.bounds-bench-i-in-loop-i-2 c).In-loop-i

pub bounds-classes-i : goal.bounds-classes-i
bounds-classes-i c = place (goal.at.bounds-classes-i c).In-loop-i

pub loop-i-preserved : goal.loop-i-preserved
loop-i-preserved c =
    let at = (goal.at.loop-i-preserved c).In-loop-i in
    let load = c.args.load.now in
    let bench = c.args.bench.now in
    let inv = c.loop-i.invariant in
    let i = c.loop-i.i in
    let here = get_or-take load.rows load.row i no_row (below at) in
    let steps = checked-steps load c.requires.load_value i (below at) in
    let shape = shaped_row (view_of load) (state_of bench) c.requires.bench_value i (rows_are load i (below at)) in
    let clock = shaped-clock (view_of load) (state_of bench) c.requires.bench_value in
    let put = c.put_look.ensures in (
      after-placed _ i c.look_of-look.result _ put (place at) inv.0,
      shown-next load bench _ _ i c.look_of-look.result (place at)
          (put-renewed _ i c.look_of-look.result _ put (place at) inv.0 c.look_of-look.result refl)
          inv.1
          (rw here at c.look_of-look.ensures ∙ row-looked load bench i steps shape clock)
          (row-steps load bench i steps shape clock) (row-opening load bench i steps shape clock),
      length-set c.loop-i.classes i _ ∙ inv.2,
      rw here (classes-next load c.loop-i.classes i (omega (arith, place at, inv.2)) inv.3),
    )

pub returns : goal.returns
returns c =
    let load = c.args.load.now in
    let inv = c.loop-i.invariant in
    let all : load.rows ≤ c.loop-i.i =
    omega (arith, c.loop-i-test.false, checked-rows load c.requires.load_value, length-take load.rows load.row) in
    record {
      shows = shows-all _ _ _ (placed-wide _ inv.0) (λ k l. inv.1 k (omega (arith, all)));
      classes_of = λ k l. inv.3 k (omega (arith, all));
    }
