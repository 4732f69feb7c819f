-- "Route sheets as text": a sheet is lines one behind the other, from its first byte to its last.
-- Rests on D86.
use Rattle.std.specs.Prelude.{ℕ, zero, suc, Bool, List, leb, length}
use Rattle.counting.specs.Searches.{first_to}
use Rattle.sheet_line.specs.declared.Line.{Line}
use Rattle.sheet_line.specs.Line.{line_in, next_line}

-- where the n-th line behind the one at a place stands
unfoldable pub line_place : List ℕ → ℕ → ℕ → ℕ
line_place bs at zero = at
line_place bs at (suc n) = next_line bs (line_place bs at n)

-- what it says
abbrev pub line_from : List ℕ → ℕ → ℕ → Line
line_from bs at n = line_in bs (line_place bs at n)

-- so many lines from a place on reach the sheet's end
abbrev pub reaches_end : List ℕ → ℕ → ℕ → Bool
reaches_end bs at n = leb (length bs) (line_place bs at n)

-- how many lines a sheet has; behind one that is no line its places mean nothing, and 18 has been
-- given before them
unfoldable pub lines_in : List ℕ → ℕ
lines_in bs = first_to (reaches_end bs 0) (length bs)
