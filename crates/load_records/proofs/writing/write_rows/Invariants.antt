-- `load_records::writing::write_rows` writes row by row: those so far stand behind the header's place, and the place is
-- the one behind them.
use Rattle.std.proofs.Common.{◌+◌, ◌≡◌, length}
use Rattle.std.proofs.lemmas.List.Edits.{sets}
use Rattle.load_records.proofs.WritingLaws.{rows_bytes}
use Rattle.load_records.proofs.writing.write_rows.Given as goal

abbrev pub invariant-loop-row : goal.invariant-loop-row
invariant-loop-row l =
    record {
      next : l.at ≡ 4 + length (rows_bytes l.version l.fn.load l.row-index);
      so_far : l.out ≡ sets l.initial.out 4 (rows_bytes l.version l.fn.load l.row-index);
    }
