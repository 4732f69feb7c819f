-- `read_rows` keeps one row a turn: before each turn so many rows are kept, and the next begins at a place. It ends
-- where every place is taken, or where the sheet does.
use Rattle.std.proofs.Common.{◌≡◌}
use Rattle.sheet.proofs.walk.SheetWalk.{RowsKept}
use Rattle.sheet.proofs.reading.read_rows.Given as goal

abbrev pub invariant-loop-kept : goal.invariant-loop-kept
invariant-loop-kept l =
    record { count : l.rows ≡ l.kept-index; rows : RowsKept l.bytes l.kept-items l.kept-index l.next }
