-- `read_load` finds the faults of the header, and behind one that has none, which announces at most 24 rows, those of
-- the rows and of the end record.
use Rattle.std.proofs.Common.{◌∙◌, sym}
use Rattle.refusals.proofs.PassedOn.{passed_on}
use Rattle.load_file.proofs.faults.ReadingRowsLaws.{read_load-header, read_load-rows, header-rows-le}
use Rattle.load_file.proofs.read.read_load.Goals as goal

pub returns-in_err-check_header : goal.returns-in_err-check_header
returns-in_err-check_header c =
    passed_on _ _ c.from_residual.ensures.1 ∙ read_load-header _ _ (sym c.in_err-check_header.ensures)

pub read_rows-requires : goal.read_rows-requires
read_rows-requires c = (
  c.byte_at.ensures,
  c.byte_at-2.ensures,
  rw c.byte_at-2.ensures (header-rows-le _ (sym c.in_ok-check_header.ensures)),
)

pub returns : goal.returns
returns c = c.read_rows.ensures ∙ read_load-rows _ (sym c.in_ok-check_header.ensures)
