-- "A load": free and embedded steps and waits, chains, and which window is open, over the view of a
-- load that the rules use: functions of row and step, counted from 0. The view holds no identifier,
-- no box number and no head. To be read after Load. Rests on D10 and D30.
use Rattle.std.specs.Prelude.{ℕ, suc, ◌+◌, ◌-◌, Bool, ◌&&◌, not, List, eqb, leb, ltb, take}
use Rattle.counting.specs.Sums.{sum_from, sum_to}
use Rattle.counting.specs.Lists.{any_in, first_in}
use Rattle.load.specs.declared.Window.{Window}
use Rattle.load.specs.declared.Row.{Row}
use Rattle.load.specs.declared.Load.{Load}
use Rattle.load.specs.Load.{row_at, step_at, no_window, shown}

-- a load, as functions of row and step
pub record View : Type 0 where
  -- how many rows there are
  pub rows : ℕ
  -- the phase and the deadline of a row
  pub phase : ℕ → ℕ
  pub deadline : ℕ → ℕ
  -- how many steps a row has
  pub steps : ℕ → ℕ
  -- the cost of a row's step, and the wait that follows it
  pub cost : ℕ → ℕ → ℕ
  pub wait : ℕ → ℕ → ℕ
  -- the windows of a row, whose steps are counted from 1
  pub windows : ℕ → List Window
  -- the class of a row
  pub class : ℕ → ℕ

-- the windows that a row has
abbrev pub row_windows : Row → List Window
row_windows row = take row.windows row.window

-- the view of a load in memory
unfoldable pub view_of : Load → View
view_of load =
    record {
      rows = load.rows;
      phase = λ i. (row_at load i).phase;
      deadline = λ i. (row_at load i).deadline;
      steps = λ i. (row_at load i).steps;
      cost = λ i j. (step_at (row_at load i) j).cost;
      wait = λ i j. (step_at (row_at load i) j).wait;
      windows = λ i. row_windows (row_at load i);
      class = λ i. (row_at load i).class;
    }

-- costs, and the waits between them, of the steps from place a on and below place b
unfoldable pub chain : (ℕ → ℕ) → (ℕ → ℕ) → ℕ → ℕ → ℕ
chain cost wait a b = sum_from cost a b + sum_from wait a (b - 1)

-- the same of the steps of a row in memory
abbrev pub chain_between : Row → ℕ → ℕ → ℕ
chain_between row a b = chain (λ j. (step_at row j).cost) (λ j. (step_at row j).wait) a b

-- a step, counted from 1, is in a window
abbrev pub in_window : ℕ → Window → Bool
in_window step window = leb window.first step && leb step window.last

-- a step is in a window, but not its first
abbrev pub embedded_in : ℕ → Window → Bool
embedded_in step window = in_window step window && not (eqb step window.first)

-- step j is in some of the windows, but not its first
abbrev pub embedded_among : ℕ → List Window → Bool
embedded_among j windows = any_in (embedded_in (shown j)) windows

-- step j of row i is embedded: in some window, but not its first
unfoldable pub embedded : View → ℕ → ℕ → Bool
embedded L i j = embedded_among j (L.windows i)

-- every other step is free
abbrev pub is_free : View → ℕ → ℕ → Bool
is_free L i j = ltb j (L.steps i) && not (embedded L i j)

-- the wait after step j of row i is free as the step after it is
abbrev pub free_wait : View → ℕ → ℕ → Bool
free_wait L i j = is_free L i (suc j)

-- the wait after step j of row i is embedded as the step after it is
abbrev pub embedded_wait : View → ℕ → ℕ → Bool
embedded_wait L i j = embedded L i (suc j)

-- a window is open after its first step and until its last
abbrev pub open_with : ℕ → Window → Bool
open_with finished window = leb window.first finished && ltb finished window.last

-- row i has an open window once so many of its steps are finished
unfoldable pub opens_at : View → ℕ → ℕ → Bool
opens_at L i finished = any_in (open_with finished) (L.windows i)

-- the window of row i that is open then
unfoldable pub open_at : View → ℕ → ℕ → Window
open_at L i finished = first_in (open_with finished) no_window (L.windows i)

-- the steps in the whole load
abbrev pub steps_in_all : View → ℕ
steps_in_all L = sum_to L.steps L.rows
