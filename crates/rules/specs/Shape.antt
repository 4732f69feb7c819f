-- "Shape: clock at most 1,000,000; steps finished at most the row's steps; end at most the clock,
-- and 0 if nothing is finished; opening at most the end while a window is open, else 0." In plain
-- facts, and so are the moments of 10 and 11; `shaped` is the test of them. To be read after State.
-- Rests on D10, D11 and D14.
use Rattle.std.specs.Prelude.{ℕ, ◌≤◌, ◌<◌, ◌≡◌, length}
use Rattle.load.specs.Load.{last_moment, most_rows}
use Rattle.load.specs.View.{View}
use Rattle.load.specs.Acceptable.{window_of, EveryRow}
use Rattle.rules.specs.State.{State}

-- row i has a window that is open: after its first step and until its last
pub record HasOpen (L : View) (s : State) (i : ℕ) : Type 0 where
  pub place : ℕ
  pub there : place < length (L.windows i)
  pub begun : (window_of L i place).first ≤ s.finished i
  pub going : s.finished i < (window_of L i place).last

-- the places of row i are 0
pub record Unused (s : State) (i : ℕ) : Type 0 where
  pub no_steps : s.finished i ≡ 0
  pub no_end : s.end i ≡ 0
  pub no-opening : s.opening i ≡ 0

-- a state has the load's shape
pub record Shape (L : View) (s : State) : Type 0 where
  -- clock at most 1,000,000
  pub clock-most : s.clock ≤ last_moment
  -- steps finished at most the row's steps
  pub finished-most : EveryRow L (λ i. s.finished i ≤ L.steps i)
  -- end at most the clock, and 0 if nothing is finished
  pub end-most : EveryRow L (λ i. s.end i ≤ s.clock)
  pub end_none : EveryRow L (λ i. s.finished i ≡ 0 → s.end i ≡ 0)
  -- opening at most the end while a window is open, else 0
  pub opening-most : EveryRow L (λ i. HasOpen L s i → s.opening i ≤ s.end i)
  pub opening-none : EveryRow L (λ i. ¬ HasOpen L s i → s.opening i ≡ 0)
  -- places for rows the load does not have are 0
  pub unused : (i : ℕ) → L.rows ≤ i → i < most_rows → Unused s i

-- a step is not finished
pub record StepLeft (L : View) (s : State) : Type 0 where
  pub row : ℕ
  pub there : row < L.rows
  pub left : s.finished row < L.steps row

-- the clock is at 1,000,000 with work left
pub record ClockSpent (L : View) (s : State) : Type 0 where
  pub shape : Shape L s
  pub clock-full : s.clock ≡ last_moment
  pub work-left : StepLeft L s
