-- `load_records::writing::whole_size` adds row by row. A checked load has few enough rows, steps and windows that the
-- sum fits.
use Rattle.std.proofs.Common.{◌≡◌, ◌≤◌, ◌∙◌, ap, arith, length}
use Rattle.load.specs.Load.{row_at}
use Rattle.load_records.specs.Writing.{row_bytes}
use Rattle.load_records.proofs.WritingLaws.{rows_bytes-length-zero, rows_bytes-length-next, rows_bytes-length-le}
use Rattle.load_records.proofs.WritingLaws.{row_bytes-length-le, load_bytes-length-rows, rows-le}
use Rattle.load_records.proofs.WritingLaws.{next-counts, next-is, all-counted}
use Rattle.load_records.proofs.writing.whole_size.Goals as goal
use Rattle.load_records.proofs.writing.whole_size.Goals.{After-row_length-size}

-- the size of the row in hand
row-size : (c : After-row_length-size)
    → c.row_length-size.result ≡ length (row_bytes c.args.version (row_at c.args.load c.loop-row.row-index))
row-size c =
    c.row_length-size.ensures
    ∙ ap (λ row. length (row_bytes c.args.version row)) (next-is c.args.load c.loop-row.row-index c.loop-row-test.true)

pub shared_ref_as_front-row-items : goal.shared_ref_as_front-row-items
shared_ref_as_front-row-items c = rows-le _ c.requires

pub loop-row-init : goal.loop-row-init
loop-row-init c = omega (arith, rows_bytes-length-zero c.args.version c.args.load)

pub overflow_add-size-in-loop-row : goal.overflow_add-size-in-loop-row
overflow_add-size-in-loop-row c =
    let load = c.args.load in
    let i = c.loop-row.row-index in
    let l = next-counts load i c.loop-row-test.true in
    let few = rows-le load c.requires in
    let so_far = rows_bytes-length-le load c.requires c.args.version i (omega arith) in
    let row = row_bytes-length-le load c.requires i l c.args.version in
    omega (arith, row-size c, c.loop-row.invariant)

pub loop-row-preserved : goal.loop-row-preserved
loop-row-preserved c =
    omega (
      arith,
      row-size c,
      rows_bytes-length-next c.args.version c.args.load c.loop-row.row-index,
      c.loop-row.invariant,
    )

pub returns : goal.returns
returns c =
    let load = c.args.load in
    let places : load.rows ≤ length load.row = omega (arith, rows-le load c.requires) in
    let e = all-counted load c.loop-row.row-index places c.loop-row.auto.row-index-end c.loop-row-test.false in
    let size = rw e at c.loop-row.invariant in
    omega (arith, size, load_bytes-length-rows c.args.version load)
