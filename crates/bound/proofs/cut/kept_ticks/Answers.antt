-- `kept_ticks` adds what one row keeps a turn, each at most 1,048,560.
use Rattle.std.proofs.Common.{◌<◌, ◌≡◌, ◌∙◌, ap, arith, get_or, length, rules, sym, take}
use Rattle.std.proofs.lemmas.List.{get_or-take, length-take}
use Rattle.counting.specs.Sums.{sum_to}
use Rattle.counting.proofs.sums.SumLaws.{sum_to-zero, sum_to-next}
use Rattle.load.specs.declared.Row.{Row}
use Rattle.load.specs.Load.{row_at, no_row}
use Rattle.bound.specs.inner.CutTerms.{ticks_of}
use Rattle.bound.proofs.AcceptedLaws.{accepted-few, accepted-steps}
use Rattle.bound.proofs.KeptLaws.{kept_ticks-is, no_row-ticks}
use Rattle.counting.proofs.sums.PastLaws.{sum_to-past}
use Rattle.bound.proofs.cut.kept_ticks.Goals as goal
use Rattle.bound.proofs.cut.kept_ticks.Goals.{In-loop-row}
use Rattle.bound.proofs.cut.kept_ticks.Invariants.{ticks_at}

in-load : (c : In-loop-row) → c.loop-row.row-index < c.args.load.now.rows
in-load c = omega (arith, length-take c.args.load.now.rows c.args.load.now.row)

read : (c : In-loop-row)
    → let load = c.args.load.now in
    get_or (take load.rows load.row) c.loop-row.row-index no_row ≡ row_at load c.loop-row.row-index
read c = let load = c.args.load.now in get_or-take load.rows load.row c.loop-row.row-index no_row (in-load c)

pub shared_ref_as_front-row-items : goal.shared_ref_as_front-row-items
shared_ref_as_front-row-items c = accepted-few c.args.load.now c.requires.0

pub row_ticks-sum-requires : goal.row_ticks-sum-requires
row_ticks-sum-requires c =
    let turn = (goal.at.row_ticks-sum-requires c).In-loop-row in
    let steps = accepted-steps c.args.load.now c.requires.0 c.loop-row.row-index (in-load turn) in
    rw (read turn) (c.requires.1, steps.0, steps.1)

pub loop-row-init : goal.loop-row-init
loop-row-init c = record { so_far = sym (sum_to-zero _); few = omega arith }

pub loop-row-preserved : goal.loop-row-preserved
loop-row-preserved c =
    let turn = (goal.at.loop-row-preserved c).In-loop-row in
    let ticks = ticks_at c.args.load.now c.args.m in
    let row = ap (λ (row : Row). ticks_of row c.args.m) (read turn) in
    record {
      so_far =
          omega (
            arith,
            row,
            c.row_ticks-sum.ensures.0,
            sum_to-next ticks c.loop-row.row-index,
            c.loop-row.invariant.so_far,
          );
      few = search rules;
    }

pub returns : goal.returns
returns c =
    let load = c.args.load.now in
    let e : c.loop-row.row-index ≡ length (take load.rows load.row) = omega arith in
    c.loop-row.invariant.so_far
    ∙ ap (sum_to (ticks_at load c.args.m)) e
    ∙ sum_to-past (λ (row : Row). ticks_of row c.args.m) no_row (no_row-ticks c.args.m) load.row load.rows
    ∙ kept_ticks-is load c.args.m
