-- "Write one out": the lines of each row in the order of its steps, row by row. To be read after
-- sheet_line's LineText.
use Rattle.std.specs.Prelude.{ℕ, List}
use Rattle.counting.specs.Lists.{join_to}
use Rattle.load.specs.declared.Row.{Row}
use Rattle.load.specs.declared.Load.{Load}
use Rattle.load.specs.Load.{row_at}
use Rattle.sheet_line.specs.LineText.{line_of, line_bytes}

-- the lines of a row
unfoldable pub row_lines : Row → List ℕ
row_lines row = join_to (λ j. line_bytes (line_of row j)) row.steps

-- the sheet of a load
unfoldable pub sheet_bytes : Load → List ℕ
sheet_bytes load = join_to (λ i. row_lines (row_at load i)) load.rows

-- the most bytes that the sheet of an accepted load has: 24 rows of 397
abbrev pub most_sheet_bytes : ℕ
most_sheet_bytes = 9528
