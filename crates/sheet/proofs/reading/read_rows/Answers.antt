-- `read_rows` finds too many rows by the bytes behind the last that is kept; else the load that is kept is checked, and
-- its check finds what that of the sheet's load does.
use Rattle.std.proofs.Common.{◌≡◌, ◌≤◌, ◌∙◌, ap, ap₂, arith, refl, sym}
use Rattle.std.proofs.lemmas.List.{set-get_or}
use Rattle.refusals.proofs.PassedOn.{passed_on}
use Rattle.load.specs.Load.{most_rows, no_row}
use Rattle.sheet.specs.inner.Narrow.{kept_load}
use Rattle.sheet.proofs.walk.SheetWalk.{rows_none, row-stands-next, rows_next, rows-lt, kept-load}
use Rattle.sheet.proofs.walk.SheetWalk.{rows-refused, load-refused, load-good}
use Rattle.sheet.proofs.reading.read_rows.Goals as goal
use Rattle.sheet.proofs.reading.read_rows.Goals.{Else-next-bytes}
use Rattle.sheet.proofs.reading.read_rows.Goals.{else-loop-kept-test, then-loop-kept-test+then-bytes-next}

pub loop-kept-init : goal.loop-kept-init
loop-kept-init c = record { count = refl; rows = rows_none c.args.bytes.now _ c.zero_row-row.ensures }

pub row_from-read-requires : goal.row_from-read-requires
row_from-read-requires c = row-stands-next c.loop-kept.invariant.rows c.if-bytes-next.false c.requires

pub loop-kept-preserved : goal.loop-kept-preserved
loop-kept-preserved c =
    record {
      count = omega (arith, c.loop-kept.invariant.count);
      rows =
          rows_next c.loop-kept.invariant.rows c.if-bytes-next.false _ _
          (ap (λ read. read.row) c.row_from-read.ensures)
          (ap (λ read. read.next) c.row_from-read.ensures)
          (omega arith);
    }

pub returns-then-next-bytes : goal.returns-then-next-bytes
returns-then-next-bytes c =
    let full : most_rows ≤ c.loop-kept.kept-index =
    elim c.loop-kept-test.branch [
      | else-loop-kept-test w ↦ w.loop-kept-test.false
      | then-loop-kept-test+then-bytes-next w ↦ absurd (omega (arith, w.if-bytes-next.true, c.if-next-bytes.true))
    ] in
    sym
    (rows-refused c.args.bytes.now c.requires
    (omega (arith, rows-lt c.loop-kept.invariant.rows c.if-next-bytes.true)))

-- the load of the rows that are kept
kept : (c : Else-next-bytes)
    → record { rows = c.loop-kept.rows; row = c.loop-kept-test.row } ≡ kept_load c.args.bytes.now
kept c =
    let inv = c.loop-kept.invariant in
    let row-is : c.loop-kept-test.row ≡ c.loop-kept.kept-items =
    elim c.loop-kept-test.branch [
      | else-loop-kept-test w ↦ w.row-is
      | then-loop-kept-test+then-bytes-next w ↦
          w.row-is ∙ set-get_or c.loop-kept.kept-items c.loop-kept.kept-index no_row
    ] in
    ap₂ (λ rows row. record { rows = rows; row = row }) inv.count row-is ∙ kept-load inv.rows c.if-next-bytes.false

pub returns-in_err-check_load : goal.returns-in_err-check_load
returns-in_err-check_load c =
    let here = (goal.at.returns-in_err-check_load c).Else-next-bytes in
    passed_on _ _ c.from_residual.ensures.1
    ∙ sym (load-refused c.args.bytes.now c.requires _ (kept here) _ (sym c.in_err-check_load.ensures))

pub returns : goal.returns
returns c =
    load-good c.args.bytes.now c.requires _ (kept (goal.at.returns c).Else-next-bytes) (sym c.in_ok-check_load.ensures)
