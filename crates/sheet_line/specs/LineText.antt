-- "Route sheets as text": "One line per step: identifier, box, phase, deadline, cost, wait, window
-- limit. The limit stands on a window's first step, `-` on its other steps, nothing elsewhere."
-- "Plain decimal without leading zeros, no quoting, CR LF at each end, no header." Rests on D86.
use Rattle.std.specs.Prelude.{ℕ, cond, List, [], ◌∷◌, ◌++◌, eqb}
use Rattle.words.specs.Decimal.{decimal}
use Rattle.load.specs.declared.Window.{Window}
use Rattle.load.specs.declared.Row.{Row}
use Rattle.load.specs.Load.{shown, step_at}
use Rattle.load.specs.View.{row_windows, in_window}
use Rattle.sheet_line.specs.declared.Mark.{Mark}
use Rattle.sheet_line.specs.declared.Mark.TheVariants.{Nothing, Dash, Limit}
use Rattle.sheet_line.specs.declared.Line.{Line}

-- what stands in the last field of step j, by the first of these windows that it is in: the limit
-- on its first step, a dash on its other steps; nothing where it is in none
unfoldable pub mark_among : ℕ → List Window → Mark
mark_among j [] = Nothing
mark_among j (w ∷ rest) =
    cond
    (in_window (shown j) w)
    (cond (eqb (shown j) w.first) (Limit w.limit) Dash)
    (mark_among j rest)

-- what the line of step j of a row says
unfoldable pub line_of : Row → ℕ → Line
line_of row j =
    record {
      identifier = row.identifier.0;
      box_number = row.box_number.0;
      phase = row.phase;
      deadline = row.deadline;
      cost = (step_at row j).cost;
      wait = (step_at row j).wait;
      mark = mark_among j (row_windows row);
    }

-- a comma
abbrev pub comma : ℕ
comma = 44

-- a dash
abbrev pub dash : ℕ
dash = 45

-- CR, behind which LF ends a line
abbrev pub return : ℕ
return = 13

-- LF
abbrev pub feed : ℕ
feed = 10

-- the text of a mark
unfoldable pub mark_bytes : Mark → List ℕ
mark_bytes Nothing = []
mark_bytes Dash = dash ∷ []
mark_bytes (Limit limit) = decimal limit

-- a number, and the comma behind it
abbrev pub field_bytes : ℕ → List ℕ
field_bytes n = decimal n ++ comma ∷ []

-- the text of a line
unfoldable pub line_bytes : Line → List ℕ
line_bytes line =
    field_bytes line.identifier
    ++ field_bytes line.box_number
    ++ field_bytes line.phase
    ++ field_bytes line.deadline
    ++ field_bytes line.cost
    ++ field_bytes line.wait
    ++ mark_bytes line.mark
    ++ return ∷ feed ∷ []
