-- "Route sheets as text", as a line is read: six numbers, each with a comma behind it; a limit, a
-- dash or nothing; CR LF. Its fields stand one behind the other. To be read after LineText. Rests
-- on D86.
use Rattle.std.specs.Prelude.{ℕ, zero, suc, ◌+◌, Bool, cond, ◌&&◌, List, eqb, ltb}
use Rattle.counting.specs.Sums.{all_to}
use Rattle.words.specs.LittleEndian.{byte_at}
use Rattle.words.specs.PlainDecimal.{plain_at, plain_value}
use Rattle.sheet_line.specs.declared.Mark.{Mark}
use Rattle.sheet_line.specs.declared.Mark.TheVariants.{Nothing, Dash, Limit}
use Rattle.sheet_line.specs.declared.Line.{Line}
use Rattle.sheet_line.specs.LineText.{comma, dash, return, feed}

-- the place behind the digits of the number at a place
abbrev pub behind_digits : List ℕ → ℕ → ℕ
behind_digits bs place = place + plain_at bs place

-- where field k of the line at a place stands: each behind the one before it and its comma
unfoldable pub field_place : List ℕ → ℕ → ℕ → ℕ
field_place bs at zero = at
field_place bs at (suc k) = behind_digits bs (field_place bs at k) + 1

-- the number in field k
abbrev pub field_in : List ℕ → ℕ → ℕ → ℕ
field_in bs at k = plain_value bs (field_place bs at k)

-- a number stands at a place, and a comma behind it
abbrev pub is_field_at : List ℕ → ℕ → Bool
is_field_at bs place =
    ltb 0 (plain_at bs place) && eqb (byte_at bs (behind_digits bs place)) comma

-- how many numbers a line has with a comma behind them
abbrev pub numbers : ℕ
numbers = 6

-- where the mark stands: behind the numbers
abbrev pub mark_place : List ℕ → ℕ → ℕ
mark_place bs at = field_place bs at numbers

-- the mark that stands at a place
unfoldable pub mark_at : List ℕ → ℕ → Mark
mark_at bs place =
    cond
    (eqb (byte_at bs place) dash)
    Dash
    (cond (ltb 0 (plain_at bs place)) (Limit (plain_value bs place)) Nothing)

-- the place behind it
unfoldable pub behind_mark : List ℕ → ℕ → ℕ
behind_mark bs place = cond (eqb (byte_at bs place) dash) (place + 1) (behind_digits bs place)

-- where the line at a place ends, before its CR LF
abbrev pub line_end : List ℕ → ℕ → ℕ
line_end bs at = behind_mark bs (mark_place bs at)

-- a line stands at a place
unfoldable pub is_line : List ℕ → ℕ → Bool
is_line bs at =
    all_to (λ k. is_field_at bs (field_place bs at k)) numbers
    && eqb (byte_at bs (line_end bs at)) return
    && eqb (byte_at bs (line_end bs at + 1)) feed

-- what the line at a place says
unfoldable pub line_in : List ℕ → ℕ → Line
line_in bs at =
    record {
      identifier = field_in bs at 0;
      box_number = field_in bs at 1;
      phase = field_in bs at 2;
      deadline = field_in bs at 3;
      cost = field_in bs at 4;
      wait = field_in bs at 5;
      mark = mark_at bs (mark_place bs at);
    }

-- where the next line stands: behind the CR LF
unfoldable pub next_line : List ℕ → ℕ → ℕ
next_line bs at = line_end bs at + 2
