-- `write_rows` writes row by row: after so many turns the lines of the first rows stand at the output's front, and the
-- place is the one behind them. A checked load has at most 24 rows of at most 8 steps, so it fits.
use Rattle.std.proofs.Common.{◌≤◌, ◌∙◌, ap, arith, length, length-append}
use Rattle.counting.proofs.lists.ListLaws.{join_to-zero, join_to-next}
use Rattle.words.proofs.OverwriteLaws.{sets-joined-zero, sets-joined-next}
use Rattle.load.specs.Load.{row_at}
use Rattle.load.proofs.CheckLaws.{check_load-good, fields-steps-le}
use Rattle.load_records.proofs.WritingLaws.{rows-le, next-counts, next-is, all-counted}
use Rattle.sheet.specs.Writing.{sheet_bytes}
use Rattle.sheet.proofs.writing.write_rows.Goals as goal
use Rattle.sheet.proofs.writing.write_rows.Invariants.{row, rows}

pub shared_ref_as_front-row-items : goal.shared_ref_as_front-row-items
shared_ref_as_front-row-items c = rows-le _ c.requires

pub loop-row-init : goal.loop-row-init
loop-row-init c =
    let e = ap length (join_to-zero (row c.args.load)) in
    record { next = omega arith; few = omega arith; so_far = sets-joined-zero _ _ _ }

pub write_row-at-requires : goal.write_row-at-requires
write_row-at-requires c =
    let load = c.args.load in
    let i = c.loop-row.row-index in
    let l = next-counts load i c.loop-row-test.true in
    let good = (check_load-good load c.requires).each-row-good i l in (
      omega (arith, c.loop-row.invariant.few, rows-le load c.requires),
      rw (next-is load i c.loop-row-test.true) (fields-steps-le (row_at load i) good.fields-good),
    )

pub loop-row-preserved : goal.loop-row-preserved
loop-row-preserved c =
    let load = c.args.load in
    let i = c.loop-row.row-index in
    let is = next-is load i c.loop-row-test.true in
    let e = ap length (join_to-next (row load) i) ∙ length-append (rows load i) (row load i) in
    let value = rw is at c.write_row-at.ensures.value in
    let inv = c.loop-row.invariant in
    record {
      next = omega (arith, value.0, inv.next);
      few = omega (arith, value.1, inv.few);
      so_far =
          sets-joined-next (row load) _ _ _ 0 _ i (omega (arith, inv.next)) inv.so_far
          (rw is at c.write_row-at.ensures.out_after);
    }

pub returns : goal.returns
unfolding sheet_bytes
returns c =
    let load = c.args.load in
    let places : load.rows ≤ length load.row = omega (arith, rows-le load c.requires) in
    let e = all-counted load c.loop-row.row-index places c.loop-row.auto.row-index-end c.loop-row-test.false in
    record { value = rw e at c.loop-row.invariant.next; out_after = rw e at c.loop-row.invariant.so_far }
