-- What the walk over a sheet's lines asks and gives: the lines that stand from a place on, how many
-- of them are a row's, and the parts of the row that they spell, cut to their fields.
use Rattle.std.specs.Prelude.{ℕ, ◌<◌, Bool, true, not, ◌||◌, ◌&&◌, List, map, ◌≡◌, ltb, length}
use Rattle.counting.specs.Lists.{filled}
use Rattle.counting.specs.Searches.{first_to}
use Rattle.load.specs.declared.Step.{Step}
use Rattle.load.specs.declared.Window.{Window}
use Rattle.load.specs.Load.{most_steps, no_step}
use Rattle.sheet_line.specs.declared.Mark.{Mark}
use Rattle.sheet_line.specs.declared.Line.{Line}
use Rattle.sheet_line.specs.Line.{is_line}
use Rattle.sheet.specs.Lines.{line_place, line_from}
use Rattle.sheet.specs.LineFaults.{is_dash, is_limit, is_same_row}
use Rattle.sheet.specs.SheetRows.{steps_from, step_of, windows_of}
use Rattle.sheet.specs.inner.Narrow.{RowLines, narrow_step, narrow_window}

-- so many lines stand from a place on
pub record LinesStand (bs : List ℕ) (at count : ℕ) : Type 0 where
  pub are-lines : (n : ℕ) → n < count → is_line bs (line_place bs at n) ≡ true

-- a row begins at a place; each line from there on is one, and neither 19 nor 20 refuses the row's
pub record RowStands (bs : List ℕ) (at : ℕ) : Type 0 where
  pub inside : at < length bs
  pub are-lines : (n : ℕ) → line_place bs at n < length bs → is_line bs (line_place bs at n) ≡ true
  pub row-lines : RowLines (line_from bs at) (steps_from bs at)

-- the mark of a window's step, which a dash may follow
abbrev pub is_window_mark : Mark → Bool
is_window_mark mark = is_limit mark || is_dash mark

-- a dash, and no window directly before it in its row
abbrev pub dash_alone : Bool → Mark → Mark → Bool
dash_alone goes_on before mark = is_dash mark && not (goes_on && is_window_mark before)

-- a window that the line before began, and this one does not go on with
abbrev pub limit_alone : Bool → Mark → Mark → Bool
limit_alone goes_on before mark = is_limit before && not (goes_on && is_dash mark)

-- the line at a place goes on with the row of the line before; none stands before the first
abbrev pub goes_on_from : ℕ → Line → Line → Bool
goes_on_from at before line = ltb 0 at && is_same_row line before

-- the step that a line says, cut to its fields
abbrev pub kept_step : Line → Step
kept_step line = narrow_step (step_of line)

-- the steps of so many lines, and zeros in the places behind them
abbrev pub kept_steps : List ℕ → ℕ → ℕ → List Step
kept_steps bs at count = filled (λ j. kept_step (line_from bs at j)) count most_steps no_step

-- how many of so many lines from a place on have a dash, before the first that has none
abbrev pub dashes_from : List ℕ → ℕ → ℕ → ℕ
dashes_from bs at left = first_to (λ k. not (is_dash (line_from bs at k).mark)) left

-- the windows of so many lines, cut to their fields
unfoldable pub kept_windows : List ℕ → ℕ → ℕ → List Window
kept_windows bs at count = map narrow_window (windows_of (λ j. (line_from bs at j).mark) count)
