-- "Lines of one row are adjacent; a new identifier begins a row." The load that a sheet spells: its
-- numbers are those of the lines, also where they are wider than a load's fields. "Version 1 files
-- and sheets go on being read, as class 0 and head 1" (2026-05). To be read after LineFaults. Rests
-- on D87, D88 and D92.
use Rattle.std.specs.Prelude.{ℕ, zero, suc, ◌+◌, ◌-◌, Bool, not, ◌||◌, List, [], ◌∷◌, ◌++◌, leb}
use Rattle.std.specs.Prelude.{length, replicate}
use Rattle.counting.specs.Lists.{join_to, filled}
use Rattle.counting.specs.Searches.{first_to}
use Rattle.load.specs.declared.Step.{Step}
use Rattle.load.specs.declared.Window.{Window}
use Rattle.load.specs.declared.Row.{Row}
use Rattle.load.specs.declared.Load.{Load}
use Rattle.load.specs.Load.{most_rows, most_steps, most_windows, only_head, shown}
use Rattle.load.specs.Load.{no_step, no_window, zero_row}
use Rattle.sheet_line.specs.declared.Mark.{Mark}
use Rattle.sheet_line.specs.declared.Mark.TheVariants.{Nothing, Dash, Limit}
use Rattle.sheet_line.specs.declared.Line.{Line}
use Rattle.sheet.specs.Lines.{line_place, line_from, reaches_end}
use Rattle.sheet.specs.LineFaults.{is_dash, is_same_row}

-- the row that begins at a place has ended where the sheet has, or where a new identifier begins
-- another
abbrev pub row_ends : List ℕ → ℕ → ℕ → Bool
row_ends bs at n = reaches_end bs at n || not (is_same_row (line_from bs at n) (line_from bs at 0))

-- how many lines, one a step, the row has that begins at a place
unfoldable pub steps_from : List ℕ → ℕ → ℕ
steps_from bs at = suc (first_to (λ n. row_ends bs at (suc n)) (length bs))

-- how many dashes stand directly behind step j, of so many steps with these marks
unfoldable pub dashes_behind : (ℕ → Mark) → ℕ → ℕ → ℕ
dashes_behind mark steps j = first_to (λ k. not (is_dash (mark (suc j + k)))) (steps - suc j)

-- the window that begins at step j and has so many steps behind it, where its mark is a limit
abbrev pub window_by : Mark → ℕ → ℕ → List Window
window_by Nothing j behind = []
window_by Dash j behind = []
window_by (Limit limit) j behind =
    record { first = shown j; last = shown j + behind; limit = limit } ∷ []

-- the windows that the marks of so many steps spell: each begins with a limit, and goes on as long
-- as dashes follow
unfoldable pub windows_of : (ℕ → Mark) → ℕ → List Window
windows_of mark steps = join_to (λ j. window_by (mark j) j (dashes_behind mark steps j)) steps

-- the step that a line says
abbrev pub step_of : Line → Step
step_of line = record { cost = line.cost; wait = line.wait }

-- windows in their order, and zeros in the places behind them
abbrev pub window_places : List Window → List Window
window_places windows = windows ++ replicate (most_windows - length windows) no_window

-- a row by its first line, with so many steps and with these windows, of class 0 and head 1; unused
-- places are zero
abbrev pub row_with : Line → ℕ → List Step → List Window → Row
row_with first steps step windows =
    record {
      identifier = record { 0 = first.identifier };
      box_number = record { 0 = first.box_number };
      phase = first.phase;
      deadline = first.deadline;
      steps = steps;
      windows = length windows;
      class = 0;
      head = only_head;
      step = step;
      window = window_places windows;
    }

-- the row of so many lines
unfoldable pub row_of : (ℕ → Line) → ℕ → Row
row_of line steps =
    row_with
    (line 0)
    steps
    (filled (λ j. step_of (line j)) steps most_steps no_step)
    (windows_of (λ j. (line j).mark) steps)

-- the row that begins at a place
abbrev pub row_from : List ℕ → ℕ → Row
row_from bs at = row_of (line_from bs at) (steps_from bs at)

-- where row i begins: the first with the sheet, each other behind the lines of the one before
unfoldable pub row_place : List ℕ → ℕ → ℕ
row_place bs zero = 0
row_place bs (suc i) = line_place bs (row_place bs i) (steps_from bs (row_place bs i))

-- how many rows a sheet has
unfoldable pub rows_in : List ℕ → ℕ
rows_in bs = first_to (λ i. leb (length bs) (row_place bs i)) (length bs)

-- the load that a sheet spells; unused places are zero
unfoldable pub load_in_sheet : List ℕ → Load
load_in_sheet bs =
    record {
      rows = rows_in bs;
      row = filled (λ i. row_from bs (row_place bs i)) (rows_in bs) most_rows zero_row;
    }
