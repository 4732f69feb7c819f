-- `load_records::writing::whole_size` adds row by row: the size is that of the header, of the end record and of the
-- rows so far.
use Rattle.std.proofs.Common.{◌+◌, ◌≡◌, length}
use Rattle.load_records.proofs.WritingLaws.{rows_bytes}
use Rattle.load_records.proofs.writing.whole_size.Given as goal

abbrev pub invariant-loop-row : goal.invariant-loop-row
invariant-loop-row l = l.size ≡ 8 + length (rows_bytes l.version l.fn.load l.row-index)
