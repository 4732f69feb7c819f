-- "One move of the bench", the state: a clock, and per row the steps finished, the moment the last
-- of them ended, and the start of an open window's first step; its shape (10). Rests on D10 and
-- D11.
use Rattle.std.specs.Prelude.{ℕ, Bool, cond, ◌&&◌, eqb, leb}
use Rattle.counting.specs.Sums.{all_to, all_from}
use Rattle.load.specs.declared.Window.{Window}
use Rattle.load.specs.Load.{last_moment, most_rows}
use Rattle.load.specs.View.{View, opens_at, open_at}

-- a bench state, as functions of the row
pub record State : Type 0 where
  pub clock : ℕ
  -- steps finished
  pub finished : ℕ → ℕ
  -- the moment the last of them ended
  pub end : ℕ → ℕ
  -- the start of an open window's first step
  pub opening : ℕ → ℕ

-- fresh is all zero
unfoldable pub fresh : State
fresh = record { clock = 0; finished = λ i. 0; end = λ i. 0; opening = λ i. 0 }

-- row i has an open window
abbrev pub is_open : View → State → ℕ → Bool
is_open L s i = opens_at L i (s.finished i)

-- the window of row i that is open
abbrev pub open_window : View → State → ℕ → Window
open_window L s i = open_at L i (s.finished i)

-- a row's end is at most the clock, and 0 if nothing is finished
abbrev pub end_fits : State → ℕ → Bool
end_fits s i = leb (s.end i) (cond (eqb (s.finished i) 0) 0 s.clock)

-- a row's opening is at most the end while a window is open, else 0
abbrev pub opening_fits : View → State → ℕ → Bool
opening_fits L s i = leb (s.opening i) (cond (is_open L s i) (s.end i) 0)

-- steps finished at most the row's steps, and end and opening as they should be
abbrev pub row_shaped : View → State → ℕ → Bool
row_shaped L s i = leb (s.finished i) (L.steps i) && end_fits s i && opening_fits L s i

-- the places of a row that the load does not have are 0
abbrev pub row_unused : State → ℕ → Bool
row_unused s i = eqb (s.finished i) 0 && eqb (s.end i) 0 && eqb (s.opening i) 0

-- a state has the load's shape
unfoldable pub shaped : View → State → Bool
shaped L s =
    leb s.clock last_moment
    && all_to (row_shaped L s) L.rows
    && all_from (row_unused s) L.rows most_rows
