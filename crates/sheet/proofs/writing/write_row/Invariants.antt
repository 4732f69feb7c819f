-- `write_row` writes line by line: after j turns the first j lines stand from the place on, and the place is the one
-- behind them. A line has at most 63 bytes, so the place fits.
use Rattle.std.proofs.Common.{◌≡◌, ◌+◌, ◌*◌, ◌≤◌, length, ℕ, List}
use Rattle.std.proofs.lemmas.List.Edits.{sets}
use Rattle.counting.specs.Lists.{join_to}
use Rattle.load.specs.declared.Row.{Row}
use Rattle.sheet_line.specs.LineText.{line_of, line_bytes}
use Rattle.sheet.proofs.writing.write_row.Given as goal

-- the line of step j, and the first n lines
abbrev pub line : Row → ℕ → List ℕ
line row j = line_bytes (line_of row j)

abbrev pub lines : Row → ℕ → List ℕ
lines row n = join_to (line row) n

abbrev pub invariant-loop-j : goal.invariant-loop-j
invariant-loop-j l =
    record {
      next : l.place ≡ l.at + length (lines l.row l.j);
      few : l.place ≤ l.at + 63 * l.j;
      so_far : l.out ≡ sets l.initial.out l.at (lines l.row l.j);
    }
