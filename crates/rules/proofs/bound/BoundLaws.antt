-- The bound of a load within its ranges is at most 806,400. The idea: at a place each row has an embedded wait or a
-- free one and never both, so that all embedded waits and the largest W of each place together are at most 3,600 for
-- each row and each of 7 places.
use Prim.Native.Nat.{ℕ, suc, ◌+◌, ◌-◌, ◌≤◌, ◌<◌}
use mathlib.Core.Bool.{Bool, true, false, cond, ◌&&◌, not}
use mathlib.Core.Path.{◌≡◌, refl, ap}
use native.Mathlib.Omega.{arith}
use borrow.Author.Tests.{ltb-true}
use lib.Dec.{ltb}
use Rattle.counting.specs.Sums.{sum_to, max_to}
use Rattle.counting.proofs.sums.SumLaws.{sum_to-add, sum_to-le, sum_to-split, sum_to-mono, max_to-le}
use Rattle.counting.proofs.sums.MaxLaws.{max_to-sum_to-le, sum_to-swap}
use Rattle.counting.proofs.tests.TestLaws.{and_left}
use Rattle.load.specs.Load.{most_rows, most_steps, largest_cost, largest_wait, latest_phase}
use Rattle.load.specs.View.{View, free_wait, embedded_wait}
use Rattle.rules.specs.Bound.{
  all_costs,
  largest_phase,
  embedded_wait_at,
  all_embedded_waits,
  wait_left,
  largest_w,
  bound_by,
  smallest_costs,
  bound,
}

-- the largest bound: 24 rows of 8 steps of 600, a phase of 86,400, and 24 times 7 waits of 3,600
abbrev pub largest_bound : ℕ
largest_bound = 806400

-- a load within the ranges that the bound needs
pub record Ranged (L : View) : Type 0 where
  pub rows-most : L.rows ≤ most_rows
  pub steps-most : (i : ℕ) → i < L.rows → L.steps i ≤ most_steps
  pub phase-most : (i : ℕ) → i < L.rows → L.phase i ≤ latest_phase
  pub cost-most : (i j : ℕ) → i < L.rows → j < L.steps i → L.cost i j ≤ largest_cost
  pub wait-most : (i j : ℕ) → i < L.rows → suc j < L.steps i → L.wait i j ≤ largest_wait

module _ (L : View) (ranged : Ranged L) where
  all_costs-le : all_costs L ≤ 115200
  unfolding all_costs
  all_costs-le =
      omega (
        arith,
        ranged.rows-most,
        sum_to-le (λ i. sum_to (L.cost i) (L.steps i)) L.rows 4800
            (λ i l. omega (
              arith,
              ranged.steps-most i l,
              sum_to-le (L.cost i) (L.steps i) 600 (λ j h. ranged.cost-most i j l h),
            )),
      )

  largest_phase-le : largest_phase L ≤ 86400
  unfolding largest_phase
  largest_phase-le = max_to-le L.phase _ 86400 (λ i l. ranged.phase-most i (omega arith))

  module _ (gives : View → ℕ → ℕ → ℕ) where
    wait_left-le : (i j : ℕ) → i < L.rows → wait_left gives L j i ≤ 3600
    wait_left-le i j l = go (free_wait L i j) refl
      where
        go : (b : Bool) → free_wait L i j ≡ b → cond b (L.wait i j - gives L j i) 0 ≤ 3600
        go false e = omega arith
        go true e =
            omega (
              arith,
              ranged.wait-most i j l
                  (ltb-true (suc j) (L.steps i) (and_left (ltb (suc j) (L.steps i)) (not (embedded_wait L i j)) e)),
            )

    -- a wait is embedded or free
    wait-once : (b c : Bool) (w g : ℕ) → cond b w 0 + cond (c && not b) (w - g) 0 ≤ w
    wait-once true true w g = omega arith
    wait-once true false w g = omega arith
    wait-once false true w g = omega arith
    wait-once false false w g = omega arith

    -- the embedded waits of a row, and what is left of its free ones at 7 places
    row_waits-le : (i : ℕ) → i < L.rows
        → sum_to (embedded_wait_at L i) (L.steps i - 1) + sum_to (λ j. wait_left gives L j i) 7 ≤ 25200
    row_waits-le i l =
        let n : ℕ = L.steps i - 1 in
        let few : n ≤ 7 = omega (arith, ranged.steps-most i l) in
        let e : n + (7 - n) ≡ 7 = omega arith in
        omega (
          arith,
          sum_to-add (embedded_wait_at L i) (λ j. wait_left gives L j i) n,
          sum_to-le (λ j. embedded_wait_at L i j + wait_left gives L j i) n 3600
              (λ j h. omega (
                arith,
                wait-once (embedded_wait L i j) (ltb (suc j) (L.steps i)) (L.wait i j) (gives L j i),
                ranged.wait-most i j l (omega arith),
              )),
          sum_to-split (λ j. wait_left gives L j i) n (7 - n),
          sum_to-le (λ k. wait_left gives L (n + k) i) (7 - n) 3600 (λ k h. wait_left-le i (n + k) l),
          ap (sum_to (λ j. wait_left gives L j i)) e,
        )

    all_waits-le : all_embedded_waits L + sum_to (largest_w gives L) 7 ≤ 604800
    unfolding all_embedded_waits largest_w
    all_waits-le =
        omega (
          arith,
          ranged.rows-most,
          sum_to-mono (λ j. max_to (wait_left gives L j) L.rows) (λ j. sum_to (wait_left gives L j) L.rows) 7
              (λ j h. max_to-sum_to-le (wait_left gives L j) L.rows),
          sum_to-swap (λ j. wait_left gives L j) 7 L.rows,
          sum_to-add (λ i. sum_to (embedded_wait_at L i) (L.steps i - 1))
              (λ i. sum_to (λ j. wait_left gives L j i) 7) L.rows,
          sum_to-le
              (λ i. sum_to (embedded_wait_at L i) (L.steps i - 1) + sum_to (λ j. wait_left gives L j i) 7)
              L.rows 25200 row_waits-le,
        )

    -- whatever the others give
    pub bound_by-le : bound_by gives L ≤ largest_bound
    unfolding bound_by
    bound_by-le = omega (arith, all_costs-le, largest_phase-le, all_waits-le)

pub bound-le : (L : View) → Ranged L → bound L ≤ largest_bound
unfolding bound
bound-le L ranged = bound_by-le L ranged smallest_costs
