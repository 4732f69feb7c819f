-- "Identifiers and box numbers come from separate registers": loads that differ in nothing else.
-- The rules see neither, so two such loads have one bound, one verdict, the same margins and moves.
use Rattle.std.specs.Prelude.{ℕ, ◌≡◌}
use Rattle.load.specs.declared.Row.{Row}
use Rattle.load.specs.declared.Load.{Load}
use Rattle.load.specs.Load.{row_at}

-- two rows that differ only in identifier and box number
pub record SameRow (a b : Row) : Type 0 where
  pub phase : a.phase ≡ b.phase
  pub deadline : a.deadline ≡ b.deadline
  pub steps : a.steps ≡ b.steps
  pub windows : a.windows ≡ b.windows
  pub class : a.class ≡ b.class
  pub head : a.head ≡ b.head
  pub step : a.step ≡ b.step
  pub window : a.window ≡ b.window

-- two loads that differ only in identifiers and box numbers
pub record SameLoad (a b : Load) : Type 0 where
  pub rows : a.rows ≡ b.rows
  pub row : (i : ℕ) → SameRow (row_at a i) (row_at b i)
