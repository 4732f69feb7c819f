-- "The bound and the margins", the four terms. What the other rows give while a wait lasts is a
-- parameter: here it is the r smallest of their 2r costs. To be read after Cut. Rests on D17 to
-- D20 and D35.
use Rattle.std.specs.Prelude.{ℕ, suc, ◌+◌, ◌-◌, Bool, cond, ◌&&◌, not, List, [], ◌∷◌, eqb, leb}
use Rattle.std.specs.Prelude.{length, take}
use Rattle.counting.specs.Sums.{sum_to, max_to}
use Rattle.counting.specs.Lists.{join_in, numbers_where, sum_in}
use Rattle.counting.specs.Sorting.{sorted}
use Rattle.load.specs.Load.{most_steps}
use Rattle.load.specs.View.{View, is_free, free_wait, embedded_wait}

-- all costs
unfoldable pub all_costs : View → ℕ
all_costs L = sum_to (λ i. sum_to (L.cost i) (L.steps i)) L.rows

-- the largest phase
unfoldable pub largest_phase : View → ℕ
largest_phase L = max_to L.phase L.rows

-- the wait after step j of row i, where it is embedded
abbrev pub embedded_wait_at : View → ℕ → ℕ → ℕ
embedded_wait_at L i j = cond (embedded_wait L i j) (L.wait i j) 0

-- all embedded waits: those between two of a row's steps
unfoldable pub all_embedded_waits : View → ℕ
all_embedded_waits L = sum_to (λ i. sum_to (embedded_wait_at L i) (L.steps i - 1)) L.rows

-- what is left of the wait after step j of row i, where it is free: the wait less what the others
-- give, or 0
abbrev pub wait_left : (View → ℕ → ℕ → ℕ) → View → ℕ → ℕ → ℕ
wait_left gives L j i = cond (free_wait L i j) (L.wait i j - gives L j i) 0

-- the largest W at place j, and 0 where no row has a free wait there
unfoldable pub largest_w : (View → ℕ → ℕ → ℕ) → View → ℕ → ℕ
largest_w gives L j = max_to (wait_left gives L j) L.rows

-- a place lies between two steps, so there are seven
abbrev pub most_places : ℕ
most_places = most_steps - 1

-- the four terms, over what the others give at place j to row i
unfoldable pub bound_by : (View → ℕ → ℕ → ℕ) → View → ℕ
bound_by gives L =
    all_costs L + largest_phase L + all_embedded_waits L + sum_to (largest_w gives L) most_places

-- another row k whose steps j and j + 1 both exist and are free
abbrev pub is_partner : View → ℕ → ℕ → ℕ → Bool
is_partner L j i k = not (eqb k i) && is_free L k j && is_free L k (suc j)

-- the r other rows whose steps j and j + 1 both exist and are free
unfoldable pub partners : View → ℕ → ℕ → List ℕ
partners L j i = numbers_where (is_partner L j i) L.rows

-- the 2r costs that they give
unfoldable pub pair_costs : View → ℕ → ℕ → List ℕ
pair_costs L j i = join_in (λ k. L.cost k j ∷ L.cost k (suc j) ∷ []) (partners L j i)

-- the sum of the r smallest
unfoldable pub smallest_costs : View → ℕ → ℕ → ℕ
smallest_costs L j i = sum_in (take (length (partners L j i)) (sorted leb (pair_costs L j i)))

-- the bound of a load
unfoldable pub bound : View → ℕ
bound L = bound_by smallest_costs L
