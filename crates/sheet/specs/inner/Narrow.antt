-- What the parts of the code give: lines that 18 to 20 do not refuse, and rows whose numbers are
-- cut to the fields that hold them.
use Rattle.std.specs.Prelude.{ℕ, suc, ◌<◌, min, true, false, cond, ◌||◌, List, map, ◌≡◌, leb}
use Rattle.counting.specs.Lists.{filled}
use Rattle.load.specs.declared.Step.{Step}
use Rattle.load.specs.declared.Window.{Window}
use Rattle.load.specs.declared.Row.{Row}
use Rattle.load.specs.declared.Load.{Load}
use Rattle.load.specs.Load.{most_rows, most_steps, zero_row}
use Rattle.sheet_line.specs.declared.Mark.{Mark}
use Rattle.sheet_line.specs.declared.Line.{Line}
use Rattle.sheet.specs.Lines.{line_from}
use Rattle.sheet.specs.LineFaults.{is_dash, is_limit}
use Rattle.sheet.specs.SheetRows.{steps_from, row_of, row_place, rows_in}

-- the marks of a row that 20 does not refuse
pub record Marked (mark : ℕ → Mark) (steps : ℕ) : Type 0 where
  -- its first line has no dash
  pub first-none : 0 < steps → is_dash (mark 0) ≡ false
  -- before a dash stands a limit or a dash
  pub window-before : (j : ℕ) → suc j < steps → is_dash (mark (suc j)) ≡ true
      → (is_limit (mark j) || is_dash (mark j)) ≡ true
  -- behind a limit stands a dash
  pub dash-behind : (j : ℕ) → j < steps → is_limit (mark j) ≡ true
      → (suc j < steps) × (is_dash (mark (suc j)) ≡ true)

-- the lines of a row that neither 19 nor 20 refuses
pub record RowLines (line : ℕ → Line) (steps : ℕ) : Type 0 where
  pub same-identifier : (j : ℕ) → j < steps → (line j).identifier ≡ (line 0).identifier
  pub same-box : (j : ℕ) → j < steps → (line j).box_number ≡ (line 0).box_number
  pub same-phase : (j : ℕ) → j < steps → (line j).phase ≡ (line 0).phase
  pub same-deadline : (j : ℕ) → j < steps → (line j).deadline ≡ (line 0).deadline
  pub marked : Marked (λ j. (line j).mark) steps

-- the largest number that a field of 32 bits holds
abbrev pub most32 : ℕ
most32 = 4294967295

-- the largest number that a field of 16 bits holds
abbrev pub most16 : ℕ
most16 = 65535

-- a number whose range begins with 1, and 0 where it is wider than its field
abbrev pub or_zero : ℕ → ℕ → ℕ
or_zero most n = cond (leb n most) n 0

-- a step: too long a wait is the longest that fits, for its range begins with 0
abbrev pub narrow_step : Step → Step
narrow_step s = record { cost = or_zero most16 s.cost; wait = min s.wait most16 }

-- a window
abbrev pub narrow_window : Window → Window
narrow_window w = record { first = w.first; last = w.last; limit = or_zero most16 w.limit }

-- a row
unfoldable pub narrow_row : Row → Row
narrow_row row =
    record {
      identifier = record { 0 = or_zero most32 row.identifier.0 };
      box_number = record { 0 = or_zero most32 row.box_number.0 };
      phase = min row.phase most32;
      deadline = or_zero most32 row.deadline;
      steps = row.steps;
      windows = row.windows;
      class = row.class;
      head = row.head;
      step = map narrow_step row.step;
      window = map narrow_window row.window;
    }

-- a row of so many lines as it is kept: one of more than eight is refused with 3 for them, and a
-- row of zeros is refused with 3 too
unfoldable pub kept_row : (ℕ → Line) → ℕ → Row
kept_row line steps = cond (leb steps most_steps) (narrow_row (row_of line steps)) zero_row

-- the row that begins at a place, as it is kept
abbrev pub kept_from : List ℕ → ℕ → Row
kept_from bs at = kept_row (line_from bs at) (steps_from bs at)

-- the load that a sheet spells, as it is kept
unfoldable pub kept_load : List ℕ → Load
kept_load bs =
    record {
      rows = rows_in bs;
      row = filled (λ i. kept_from bs (row_place bs i)) (rows_in bs) most_rows zero_row;
    }
