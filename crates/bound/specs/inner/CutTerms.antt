-- The terms of the bound of a load that is cut, as the code adds them up: the costs and embedded
-- waits that a row keeps, and the largest W's of the places.
use Rattle.std.specs.Prelude.{ℕ, suc, ◌+◌, ◌-◌, min, cond, not, List, get_or}
use Rattle.counting.specs.Sums.{sum_to}
use Rattle.counting.specs.Searches.{first_to}
use Rattle.load.specs.declared.Row.{Row}
use Rattle.load.specs.Load.{step_at}
use Rattle.load.specs.View.{View, row_windows, embedded_among}
use Rattle.rules.specs.declared.LargestW.{LargestW}
use Rattle.rules.specs.Cut.{cut}
use Rattle.rules.specs.Bound.{bound}
use Rattle.rules.specs.Blame.{none_left}

-- how many steps a row keeps that keeps its first ones for certain
unfoldable pub kept_from : Row → ℕ → ℕ
kept_from row first =
    first + first_to (λ d. not (embedded_among (first + d) (row_windows row))) (row.steps - first)

-- how many steps a row keeps when the load is cut at m
abbrev pub kept_of : Row → ℕ → ℕ
kept_of row m = kept_from row (min m row.steps)

-- the wait after step j of a row, where it is embedded
abbrev pub wait_in : Row → ℕ → ℕ
wait_in row j = cond (embedded_among (suc j) (row_windows row)) (step_at row j).wait 0

-- the costs that a row keeps when the load is cut at m, and the embedded waits between them
abbrev pub ticks_of : Row → ℕ → ℕ
ticks_of row m =
    sum_to (λ j. (step_at row j).cost) (kept_of row m) + sum_to (wait_in row) (kept_of row m - 1)

-- the largest W at a place of a list, with its row
abbrev pub place_in : List LargestW → ℕ → LargestW
place_in places j = get_or places j none_left

-- the W's of the first k places of a list, added
abbrev pub waits_below : List LargestW → ℕ → ℕ
waits_below places k = sum_to (λ j. (place_in places j).left) k

-- the bound of the load cut at k + 1
abbrev pub bound_at : View → ℕ → ℕ
bound_at L k = bound (cut L (k + 1))
