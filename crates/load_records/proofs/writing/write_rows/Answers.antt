-- `load_records::writing::write_rows` writes row by row. The rows of a checked load are written as they are, and so few
-- and so short that the place fits.
use Rattle.std.proofs.Common.{◌≤◌, ◌≡◌, ◌∙◌, ap, arith, length, take}
use Rattle.std.proofs.lemmas.List.Edits.{sets}
use Rattle.words.proofs.OverwriteLaws.{sets-joined-zero, sets-joined-next}
use Rattle.load.specs.declared.Row.{Row}
use Rattle.load.specs.Load.{row_at}
use Rattle.load_records.specs.Writing.{row_bytes, counted_row}
use Rattle.load_records.specs.Calls.{records_holding}
use Rattle.load_records.proofs.RowLaws.{records-length, records-inside, records-taken}
use Rattle.load_records.proofs.WritingLaws.{rows_bytes-length-zero, rows_bytes-length-next, rows_bytes-length-le}
use Rattle.load_records.proofs.WritingLaws.{row_bytes-length-le, rows-le, counted_same}
use Rattle.load_records.proofs.WritingLaws.{next-counts, next-is, all-counted}
use Rattle.load_records.proofs.writing.write_rows.Goals as goal
use Rattle.load_records.proofs.writing.write_rows.Goals.{After-records_in-records}

-- the records of the row in hand, which is written as it is
module _ (c : After-records_in-records) where
  abbrev row : Row
  row = row_at c.args.load c.loop-row.row-index

  same : counted_row row ≡ row
  same =
      counted_same c.args.load c.requires c.loop-row.row-index
      (next-counts c.args.load c.loop-row.row-index c.loop-row-test.true)

  held : c.records_in-records.result ≡ records_holding (row_bytes c.args.version (counted_row row))
  held =
      c.records_in-records.ensures
      ∙ ap (λ row. records_holding (row_bytes c.args.version (counted_row row)))
      (next-is c.args.load c.loop-row.row-index c.loop-row-test.true)

  there : c.records_in-records.result.length ≤ length c.records_in-records.result.bytes
  there = records-inside _ _ _ held

  size : c.records_in-records.result.length ≡ length (row_bytes c.args.version row)
  size = records-length _ _ _ held ∙ ap (λ row. length (row_bytes c.args.version row)) same

  taken : take c.records_in-records.result.length c.records_in-records.result.bytes ≡ row_bytes c.args.version row
  taken = records-taken _ _ _ held ∙ ap (row_bytes c.args.version) same

pub shared_ref_as_front-row-items : goal.shared_ref_as_front-row-items
shared_ref_as_front-row-items c = rows-le _ c.requires

pub loop-row-init : goal.loop-row-init
loop-row-init c =
    record {
      next = omega (arith, rows_bytes-length-zero c.args.version c.args.load);
      so_far = sets-joined-zero _ _ _;
    }

pub overflow_add-at : goal.overflow_add-at
overflow_add-at c =
    let load = c.args.load in
    let i = c.loop-row.row-index in
    let l = next-counts load i c.loop-row-test.true in
    let few = rows-le load c.requires in
    let so_far = rows_bytes-length-le load c.requires c.args.version i (omega arith) in
    let row = row_bytes-length-le load c.requires i l c.args.version in
    omega (arith, size (goal.at.overflow_add-at c).After-records_in-records, c.loop-row.invariant.next)

pub loop-row-preserved : goal.loop-row-preserved
loop-row-preserved c =
    let here = (goal.at.loop-row-preserved c).After-records_in-records in
    let load = c.args.load in
    let v = c.args.version in
    let i = c.loop-row.row-index in
    record {
      next = omega (arith, size here, rows_bytes-length-next v load i, c.loop-row.invariant.next);
      so_far =
          sets-joined-next (λ i. row_bytes v (row_at load i)) _ _ _ 4 c.loop-row.at i
          c.loop-row.invariant.next c.loop-row.invariant.so_far
          (c.overwrite.ensures ∙ ap (sets _ c.loop-row.at) (taken here));
    }

pub returns : goal.returns
returns c =
    let load = c.args.load in
    let places : load.rows ≤ length load.row = omega (arith, rows-le load c.requires) in
    let e = all-counted load c.loop-row.row-index places c.loop-row.auto.row-index-end c.loop-row-test.false in
    record { value = rw e at c.loop-row.invariant.next; out_after = rw e at c.loop-row.invariant.so_far }
