-- A bound that is at most the bound: for each other row whose next step is free it takes off the smaller of two costs,
-- where document 01 takes the r smallest of 2r. It holds of every view, with no premise.
use Prim.Native.Nat.{ℕ, suc, ◌-◌, ◌≤◌, min}
use mathlib.Core.Bool.{Bool, true, false, cond, ◌&&◌, not}
use native.Mathlib.Omega.{arith}
use lib.Dec.{eqb}
use Rattle.counting.specs.Sums.{sum_to}
use Rattle.counting.proofs.sums.SumLaws.{sum_to-mono}
use Rattle.counting.proofs.sums.MaxLaws.{max_to-mono}
use Rattle.counting.proofs.lists.NumbersLaws.{total_in-numbers_where}
use Rattle.counting.proofs.sorting.SmallestLaws.{pairs-smallest-min}
use Rattle.load.specs.Load.{most_steps}
use Rattle.load.specs.View.{View, is_free, free_wait}
use Rattle.rules.specs.Bound.{
  wait_left,
  largest_w,
  bound_by,
  is_partner,
  partners,
  pair_costs,
  smallest_costs,
  bound,
}

-- the smaller of the costs of steps j and j + 1, over the rows other than i whose step j + 1 exists and is free
unfoldable pub minima : View → ℕ → ℕ → ℕ
minima L j i =
    sum_to (λ k. cond (not (eqb k i) && is_free L k (suc j)) (min (L.cost k j) (L.cost k (suc j))) 0) L.rows

-- the bound that takes off the smaller cost of each row
abbrev pub tight_bound : View → ℕ
tight_bound L = bound_by minima L

pub smallest_costs-le : (L : View) (j i : ℕ) → smallest_costs L j i ≤ minima L j i
unfolding smallest_costs pair_costs partners minima
smallest_costs-le L j i =
    omega (
      arith,
      pairs-smallest-min (λ k. L.cost k j) (λ k. L.cost k (suc j)) (partners L j i),
      total_in-numbers_where smaller (is_partner L j i) L.rows,
      sum_to-mono (λ k. cond (is_partner L j i k) (smaller k) 0)
          (λ k. cond (not (eqb k i) && is_free L k (suc j)) (smaller k) 0) L.rows
          (λ k l. each (not (eqb k i)) (is_free L k j) (is_free L k (suc j)) (smaller k)),
    )
  where
    smaller : ℕ → ℕ
    smaller k = min (L.cost k j) (L.cost k (suc j))

    -- a partner is such a row
    each : (other here next : Bool) (c : ℕ) → cond (other && here && next) c 0 ≤ cond (other && next) c 0
    each true true next c = omega arith
    each true false next c = omega arith
    each false here next c = omega arith

-- the more the others give, the less is left
pub largest_w-mono : (more less : View → ℕ → ℕ → ℕ) (L : View) (j : ℕ) → ((i : ℕ) → less L j i ≤ more L j i)
    → largest_w more L j ≤ largest_w less L j
unfolding largest_w
largest_w-mono more less L j h =
    max_to-mono (wait_left more L j) (wait_left less L j) L.rows (λ i l. each i (free_wait L i j))
  where
    each : (i : ℕ) (b : Bool) → cond b (L.wait i j - more L j i) 0 ≤ cond b (L.wait i j - less L j i) 0
    each i true = omega (arith, h i)
    each i false = omega arith

pub bound_by-mono : (more less : View → ℕ → ℕ → ℕ) (L : View) → ((j i : ℕ) → less L j i ≤ more L j i)
    → bound_by more L ≤ bound_by less L
unfolding bound_by
bound_by-mono more less L h =
    omega (
      arith,
      sum_to-mono (largest_w more L) (largest_w less L) (most_steps - 1) (λ j l. largest_w-mono more less L j (h j)),
    )

pub tight_bound-le : (L : View) → tight_bound L ≤ bound L
unfolding bound
tight_bound-le L = bound_by-mono minima smallest_costs L (smallest_costs-le L)
