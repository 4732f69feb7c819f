-- What each public call's contract says: one relation a call, over what it takes and what it gives.
-- To be read after Line.
use Rattle.std.specs.Prelude.{ℕ, ◌-◌, cond, List, ◌++◌, ◌≡◌, length, replicate}
use Rattle.std.specs.Prelude.{Option, Some, None}
use Rattle.load.specs.declared.Row.{Row}
use Rattle.sheet_line.specs.declared.Mark.TheVariants.{Nothing}
use Rattle.sheet_line.specs.declared.Line.{Line}
use Rattle.sheet_line.specs.declared.LineRead.{LineRead}
use Rattle.sheet_line.specs.declared.LineText.{LineText}
use Rattle.sheet_line.specs.LineText.{line_of, line_bytes}
use Rattle.sheet_line.specs.Line.{is_line, line_in, next_line}

-- what stands for a line where there is none
abbrev pub no_line : Line
no_line =
    record {
      identifier = 0;
      box_number = 0;
      phase = 0;
      deadline = 0;
      cost = 0;
      wait = 0;
      mark = Nothing;
    }

-- line_at(bs, at): the line at a place, where one stands there: what it says, and where the next
-- one stands
abbrev pub LineAt : List ℕ → ℕ → Option LineRead → Type 0
LineAt bs at r =
    r
    ≡ cond
    (is_line bs at)
    (Some (record { line = line_in bs at; next = next_line bs at }))
    None

-- the most bytes that the line of a row in memory has: four numbers of ten digits, a cost, a wait
-- and a limit of five, six commas, CR LF
abbrev pub most_line_bytes : ℕ
most_line_bytes = 63

-- line_of(row, j): the text of the line of step j: how many bytes, the bytes, and 0 in the places
-- behind them
abbrev pub LineOf : Row → ℕ → LineText → Type 0
LineOf row j r =
    let bs = line_bytes (line_of row j) in
    r ≡ record { length = length bs; bytes = bs ++ replicate (most_line_bytes - length bs) 0 }
