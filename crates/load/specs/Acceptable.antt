-- "A load", as facts: what holds of a load that its check does not refuse. The first record is of
-- the view, and is all that the rules need; the other two are of what the view does not hold. To be
-- read after Check. Rests on D91.
use Rattle.std.specs.Prelude.{ℕ, ◌-◌, ◌≤◌, ◌<◌, true, ◌≢◌, ◌≡◌, length, get_or}
use Rattle.load.specs.declared.Window.{Window}
use Rattle.load.specs.declared.Load.{Load}
use Rattle.load.specs.Load.{most_rows, most_steps, most_windows, most_class, only_head}
use Rattle.load.specs.Load.{largest_number, factory_identifier, latest_phase, last_moment}
use Rattle.load.specs.Load.{largest_cost, largest_wait, largest_limit, shown}
use Rattle.load.specs.Load.{no_window, row_at, step_at, window_at}
use Rattle.load.specs.View.{View, chain}
use Rattle.load.specs.Check.{is_zero_step, is_zero_window, is_zero_row}

-- the window at place p of row i
abbrev pub window_of : View → ℕ → ℕ → Window
window_of L i p = get_or (L.windows i) p no_window

-- the chain of a window of row i: all its costs and the waits between them
abbrev pub chain_in : View → ℕ → Window → ℕ
chain_in L i w = chain (L.cost i) (L.wait i) (w.first - 1) w.last

-- something holds of every row
abbrev pub EveryRow : View → (ℕ → Type 0) → Type 0
EveryRow L P = (i : ℕ) → i < L.rows → P i

-- something holds of every step: its row, and its place there
abbrev pub EveryStep : View → (ℕ → ℕ → Type 0) → Type 0
EveryStep L P = (i j : ℕ) → i < L.rows → j < L.steps i → P i j

-- something holds of every window: its row, and its place there
abbrev pub EveryWindow : View → (ℕ → ℕ → Type 0) → Type 0
EveryWindow L P = (i p : ℕ) → i < L.rows → p < length (L.windows i) → P i p

-- a load that the rules accept
pub record Acceptable (L : View) : Type 0 where
  -- 0 to 24 rows
  pub rows-most : L.rows ≤ most_rows
  -- a phase, 0 to 86,400
  pub phase-most : EveryRow L (λ i. L.phase i ≤ latest_phase)
  -- a deadline, 1 to 1,000,000
  pub deadline-least : EveryRow L (λ i. 1 ≤ L.deadline i)
  pub deadline-most : EveryRow L (λ i. L.deadline i ≤ last_moment)
  -- 1 to 8 steps
  pub steps-least : EveryRow L (λ i. 1 ≤ L.steps i)
  pub steps-most : EveryRow L (λ i. L.steps i ≤ most_steps)
  -- 0 to 4 windows
  pub windows-most : EveryRow L (λ i. length (L.windows i) ≤ most_windows)
  -- a class, 0 to 3
  pub class-most : EveryRow L (λ i. L.class i ≤ most_class)
  -- a cost, 1 to 600
  pub cost-least : EveryStep L (λ i j. 1 ≤ L.cost i j)
  pub cost-most : EveryStep L (λ i j. L.cost i j ≤ largest_cost)
  -- a wait, 0 to 3,600
  pub wait-most : EveryStep L (λ i j. L.wait i j ≤ largest_wait)
  -- the last step's wait is 0
  pub wait-last : EveryStep L (λ i j. shown j ≡ L.steps i → L.wait i j ≡ 0)
  -- a first step, and a later last step
  pub first-least : EveryWindow L (λ i p. 1 ≤ (window_of L i p).first)
  pub first-last : EveryWindow L (λ i p. (window_of L i p).first < (window_of L i p).last)
  pub last-most : EveryWindow L (λ i p. (window_of L i p).last ≤ L.steps i)
  -- a limit, 1 to 65,535
  pub limit-least : EveryWindow L (λ i p. 1 ≤ (window_of L i p).limit)
  pub limit-most : EveryWindow L (λ i p. (window_of L i p).limit ≤ largest_limit)
  -- windows stand in ascending order and share no step
  pub ascending :
      EveryWindow L (λ i q. (p : ℕ) → p < q → (window_of L i p).last < (window_of L i q).first)
  -- the limit is at least the chain
  pub limit-chain : EveryWindow L (λ i p. chain_in L i (window_of L i p) ≤ (window_of L i p).limit)

-- no row has the factory identifier
abbrev pub WithoutFactory : Load → Type 0
WithoutFactory load =
    (i : ℕ) → i < load.rows → (row_at load i).identifier.0 ≢ factory_identifier

-- identifiers and box numbers, which come from separate registers
pub record Registered (load : Load) : Type 0 where
  -- an identifier, 1 to 4,294,967,295, and a box number in the same range
  pub identifier-least : (i : ℕ) → i < load.rows → 1 ≤ (row_at load i).identifier.0
  pub identifier-most : (i : ℕ) → i < load.rows → (row_at load i).identifier.0 ≤ largest_number
  pub box-least : (i : ℕ) → i < load.rows → 1 ≤ (row_at load i).box_number.0
  pub box-most : (i : ℕ) → i < load.rows → (row_at load i).box_number.0 ≤ largest_number
  -- no identifier is the factory's, so that no two racks of the archive meet under it (2026-04)
  pub not-factory : WithoutFactory load
  -- identifiers differ between rows; so do box numbers
  pub identifiers-differ : (i k : ℕ) → i < k → k < load.rows
      → (row_at load i).identifier.0 ≡ (row_at load k).identifier.0 → ⊥
  pub boxes-differ : (i k : ℕ) → i < k → k < load.rows
      → (row_at load i).box_number.0 ≡ (row_at load k).box_number.0 → ⊥

-- the places of a load held in memory, and its heads
pub record Placed (load : Load) : Type 0 where
  -- every window of a row stands in a place
  pub windows-there : (i : ℕ) → i < load.rows
      → (row_at load i).windows ≤ length (row_at load i).window
  -- a head, 1 for now
  pub head-only : (i : ℕ) → i < load.rows → (row_at load i).head ≡ only_head
  -- unused places are zero
  pub rows-unused : (i : ℕ) → load.rows ≤ i → i < most_rows → is_zero_row (row_at load i) ≡ true
  pub steps-unused : (i j : ℕ) → i < load.rows → (row_at load i).steps ≤ j → j < most_steps
      → is_zero_step (step_at (row_at load i) j) ≡ true
  pub windows-unused : (i p : ℕ) → i < load.rows → (row_at load i).windows ≤ p → p < most_windows
      → is_zero_window (window_at (row_at load i) p) ≡ true
