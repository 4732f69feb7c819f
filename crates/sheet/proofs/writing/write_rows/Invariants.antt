-- `write_rows` writes row by row: after so many turns the lines of the first rows stand at the output's front, and the
-- place is the one behind them. A checked load has at most 24 rows of at most 8 steps, so it fits.
use Rattle.std.proofs.Common.{◌≡◌, ◌*◌, ◌≤◌, length, ℕ, List}
use Rattle.std.proofs.lemmas.List.Edits.{sets}
use Rattle.counting.specs.Lists.{join_to}
use Rattle.load.specs.declared.Load.{Load}
use Rattle.load.specs.Load.{row_at}
use Rattle.sheet.specs.Writing.{row_lines}
use Rattle.sheet.proofs.writing.write_rows.Given as goal

-- the lines of row i, and those of the first n rows
abbrev pub row : Load → ℕ → List ℕ
row load i = row_lines (row_at load i)

abbrev pub rows : Load → ℕ → List ℕ
rows load n = join_to (row load) n

abbrev pub invariant-loop-row : goal.invariant-loop-row
invariant-loop-row l =
    record {
      next : l.at ≡ length (rows l.fn.load l.row-index);
      few : l.at ≤ 504 * l.row-index;
      so_far : l.out ≡ sets l.initial.out 0 (rows l.fn.load l.row-index);
    }
