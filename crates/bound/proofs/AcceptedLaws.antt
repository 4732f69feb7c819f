-- The bound of an acceptable load: it is within the ranges, so each of its terms fits, and the load cut at 8 steps, of
-- which no row has more, has the bound of the load.
use Prim.Native.Nat.{ℕ, ◌+◌, ◌-◌, ◌≤◌, ◌<◌}
use mathlib.Core.Path.{◌≡◌, ap, ap₂, ◌∙◌}
use native.Mathlib.Omega.{arith}
use Rattle.counting.specs.Sums.{sum_to}
use Rattle.counting.proofs.sums.SumLaws.{sum_to-ext}
use Rattle.counting.proofs.sorting.SortLaws.{at-Every}
use Rattle.load.specs.declared.Load.{Load}
use Rattle.load.specs.Load.{most_rows, most_steps, last_moment, no_window, row_at}
use Rattle.load.specs.View.{View, view_of}
use Rattle.load.specs.Acceptable.{Acceptable}
use Rattle.rules.specs.Cut.{kept, cut}
use Rattle.rules.specs.Bound.{
  all_costs,
  largest_phase,
  embedded_wait_at,
  all_embedded_waits,
  largest_w,
  bound_by,
  smallest_costs,
  bound,
}
use Rattle.rules.proofs.cut.CutLaws.{Within, first_kept-le, kept-le}
use Rattle.rules.proofs.cut.CutBound.{kept_costs, kept_waits, bound-of-cut}
use Rattle.rules.proofs.bound.BoundLaws.{Ranged, largest_bound, bound-le}
use Rattle.rules.proofs.bound.MarginLaws.{ranged-of-cut}

module _ (L : View) (ok : Acceptable L) where
  pub accepted-ranged : Ranged L
  accepted-ranged =
      record {
        rows-most = ok.rows-most;
        steps-most = ok.steps-most;
        phase-most = ok.phase-most;
        cost-most = ok.cost-most;
        wait-most = λ i j l h. ok.wait-most i j l (omega arith);
      }

  pub accepted-within : (i : ℕ) → i < L.rows → Within L i
  accepted-within i l =
      at-Every (λ w. w.last ≤ L.steps i) (L.windows i) no_window (λ p h. ok.last-most i p l h)

  -- the four terms of the load cut at m
  pub cut-bound-is : (m : ℕ) → m ≤ most_steps
      → bound (cut L m) ≡ kept_costs L m + largest_phase L + kept_waits L m
      + sum_to (largest_w smallest_costs L) (m - 1)
  cut-bound-is m h = bound-of-cut L m accepted-within h

  pub cut-bound-le : (m : ℕ) → bound (cut L m) ≤ largest_bound
  cut-bound-le m = bound-le (cut L m) (ranged-of-cut L m accepted-ranged)

  -- at 8 every row keeps all its steps
  kept-all : (i : ℕ) → i < L.rows → kept L most_steps i ≡ L.steps i
  kept-all i l = omega (arith, kept-le L most_steps i, first_kept-le L most_steps i, ok.steps-most i l)

  pub bound-uncut : bound (cut L most_steps) ≡ bound L
  unfolding bound bound_by all_costs all_embedded_waits
  bound-uncut =
      bound-of-cut L most_steps accepted-within (omega arith)
      ∙ ap₂ (λ costs waits. costs + largest_phase L + waits + sum_to (largest_w smallest_costs L) (most_steps - 1))
      (sum_to-ext (λ i. sum_to (L.cost i) (kept L most_steps i)) (λ i. sum_to (L.cost i) (L.steps i)) L.rows
      (λ i l. ap (sum_to (L.cost i)) (kept-all i l)))
      (sum_to-ext (λ i. sum_to (embedded_wait_at L i) (kept L most_steps i - 1))
      (λ i. sum_to (embedded_wait_at L i) (L.steps i - 1)) L.rows
      (λ i l. ap (λ n. sum_to (embedded_wait_at L i) (n - 1)) (kept-all i l)))

-- a load in memory that is accepted
module _ (load : Load) (ok : Acceptable (view_of load)) where
  pub accepted-few : load.rows ≤ most_rows
  unfolding view_of
  accepted-few = ok.rows-most

  pub accepted-steps : (i : ℕ) → i < load.rows → (1 ≤ (row_at load i).steps) × ((row_at load i).steps ≤ most_steps)
  unfolding view_of
  accepted-steps i l = (ok.steps-least i l, ok.steps-most i l)

  pub accepted-deadline : (i : ℕ) → i < load.rows → (row_at load i).deadline ≤ last_moment
  unfolding view_of
  accepted-deadline i l = ok.deadline-most i l
