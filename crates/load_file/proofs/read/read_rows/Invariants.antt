-- `read_rows` reads one row a turn: before turn i the rows before row i are read, and the next record stands at the
-- place.
use Rattle.load_file.proofs.faults.ReadingRowsLaws.{RowsRead}
use Rattle.load_file.proofs.read.read_rows.Given as goal

abbrev pub invariant-loop-i : goal.invariant-loop-i
invariant-loop-i l = RowsRead l.bytes l.i l.identifiers l.boxes l.kept l.at l.steps
