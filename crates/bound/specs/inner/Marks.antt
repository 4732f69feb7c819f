-- The rows marked at a place: those that have a free step there, and those whose costs there are
-- taken; and what is left of the waits there.
use Rattle.std.specs.Prelude.{ℕ, ◌-◌, ◌≤◌, ◌<◌, Bool, true, false, cond, ◌&&◌, not, List, ◌≡◌, eqb}
use Rattle.std.specs.Prelude.{ltb}
use Rattle.counting.specs.Sums.{max_to}
use Rattle.counting.specs.Lists.{filled, is_marked}
use Rattle.counting.specs.Searches.{first_largest}
use Rattle.load.specs.declared.Row.{Row}
use Rattle.load.specs.declared.Load.{Load}
use Rattle.load.specs.Load.{most_rows, largest_cost, row_at, step_at}
use Rattle.load.specs.View.{row_windows, embedded_among}
use Rattle.rules.specs.declared.LargestW.{LargestW}
use Rattle.rules.specs.Bound.{most_places}

-- whether a row other than i is marked
abbrev pub is_other : List Bool → ℕ → ℕ → Bool
is_other marks i k = not (eqb k i) && is_marked marks k

-- the cost of row k's step at place j
abbrev pub cost_at : Load → ℕ → ℕ → ℕ
cost_at load j k = (step_at (row_at load k) j).cost

-- the wait after row k's step at place j
abbrev pub wait_at : Load → ℕ → ℕ → ℕ
wait_at load j k = (step_at (row_at load k) j).wait

-- at most 24 rows, and a place, where each row that is marked has a cost within its range
pub record Costed (load : Load) (n j : ℕ) (marks : List Bool) : Type 0 where
  pub few : n ≤ most_rows
  pub between : j < most_places
  pub small : (k : ℕ) → k < n → is_marked marks k ≡ true → cost_at load j k ≤ largest_cost

-- a row has a step at place j, and it is free
abbrev pub free_in : Row → ℕ → Bool
free_in row j = ltb j row.steps && not (embedded_among j (row_windows row))

-- the rows of a load that have a free step at place j
abbrev pub frees_at : Load → ℕ → List Bool
frees_at load j = filled (λ i. free_in (row_at load i) j) load.rows most_rows false

-- what is left of the wait of row i, where it is free, once what the others give is taken off; out
-- of the waits of a place, and the marks of those that are free
abbrev pub left_in : (ℕ → ℕ) → (ℕ → ℕ) → List Bool → ℕ → ℕ
left_in given waits frees i = cond (is_marked frees i) (waits i - given i) 0

-- the largest of f 0 .. f (n - 1), and where it stands first
abbrev pub largest_to : (ℕ → ℕ) → ℕ → LargestW
largest_to f n = record { left = max_to f n; row = first_largest f n }
