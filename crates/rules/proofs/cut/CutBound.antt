-- The bound of the cut load, over the load itself: the costs and the embedded waits that are kept, the largest phase,
-- and the load's own W of each place between two of the first m steps. The largest W of the cut load is the load's
-- there and 0 elsewhere, since a free step of the cut load lies below m. The premise is that the rows' windows end
-- within their steps.
use Prim.Native.Nat.{ℕ, suc, ◌+◌, ◌-◌, ◌≤◌, ◌<◌}
use mathlib.Core.Bool.{Bool, true, false, cond, not}
use mathlib.Core.Path.{◌≡◌, refl, ap, ap₂, ◌∙◌}
use native.Mathlib.Omega.{arith}
use borrow.Author.Tests.{ltb-true}
use lib.Dec.{ltb}
use Rattle.counting.specs.Sums.{sum_to}
use Rattle.counting.proofs.sums.SumLaws.{sum_to-ext, max_to-ext}
use Rattle.counting.proofs.sums.MaxLaws.{max_to-none, sum_to-shorter}
use Rattle.counting.proofs.tests.TestLaws.{and_left}
use Rattle.load.specs.Load.{most_steps}
use Rattle.load.specs.View.{View, free_wait, embedded_wait}
use Rattle.rules.specs.Cut.{kept, cut}
use Rattle.rules.specs.Bound.{
  all_costs,
  largest_phase,
  embedded_wait_at,
  all_embedded_waits,
  wait_left,
  largest_w,
  bound_by,
  smallest_costs,
  bound,
}
use Rattle.rules.proofs.bound.TightBound.{minima, tight_bound}
use Rattle.rules.proofs.cut.CutLaws.{
  Within,
  first_kept-le,
  embedded-kept,
  is_free-of-cut,
  is_free-past,
  wait-of-cut,
}
use Rattle.rules.proofs.cut.CutCosts.{smallest_costs-of-cut, minima-of-cut}

-- all costs that are kept
abbrev pub kept_costs : View → ℕ → ℕ
kept_costs L m = sum_to (λ i. sum_to (L.cost i) (kept L m i)) L.rows

-- all embedded waits that are kept
abbrev pub kept_waits : View → ℕ → ℕ
kept_waits L m = sum_to (λ i. sum_to (embedded_wait_at L i) (kept L m i - 1)) L.rows

module _ (L : View) (m : ℕ) (within : (i : ℕ) → i < L.rows → Within L i) where
  pub all_embedded_waits-of-cut : all_embedded_waits (cut L m) ≡ kept_waits L m
  unfolding all_embedded_waits cut
  all_embedded_waits-of-cut =
      sum_to-ext (λ i. sum_to (embedded_wait_at (cut L m) i) (kept L m i - 1))
      (λ i. sum_to (embedded_wait_at L i) (kept L m i - 1)) L.rows
      (λ i l. sum_to-ext (embedded_wait_at (cut L m) i) (embedded_wait_at L i) (kept L m i - 1)
      (λ j h.
      ap₂ (λ b w. cond b w 0) (embedded-kept L m i (suc j) (within i l) (omega arith))
      (wait-of-cut L m i j (omega arith))))

  -- whatever the others give: no wait of the cut load from place m - 1 on is free
  pub largest_w-past : (gives : View → ℕ → ℕ → ℕ) (j : ℕ) → m ≤ suc j → largest_w gives (cut L m) j ≡ 0
  unfolding largest_w cut
  largest_w-past gives j h =
      max_to-none (wait_left gives (cut L m) j) L.rows
      (λ i l. ap (λ b. cond b ((cut L m).wait i j - gives (cut L m) j i) 0) (is_free-past L m i (suc j) (within i l) h))

  -- the others give what they give in the load
  module _ (gives : View → ℕ → ℕ → ℕ) (same : (j i : ℕ) → suc j < m → gives (cut L m) j i ≡ gives L j i) where
    pub wait_left-of-cut : (j i : ℕ) → suc j < m → i < L.rows → wait_left gives (cut L m) j i ≡ wait_left gives L j i
    wait_left-of-cut j i h l =
        ap (λ b. cond b ((cut L m).wait i j - gives (cut L m) j i) 0) (is_free-of-cut L m i (suc j) (within i l) h)
        ∙ go (free_wait L i j) refl
      where
        go : (b : Bool) → free_wait L i j ≡ b
            → cond b ((cut L m).wait i j - gives (cut L m) j i) 0 ≡ cond b (L.wait i j - gives L j i) 0
        go false e = refl
        go true e =
            let next = and_left (ltb (suc j) (L.steps i)) (not (embedded_wait L i j)) e in
            let there = ltb-true (suc j) (L.steps i) next in
            ap₂ ◌-◌ (wait-of-cut L m i j (omega (arith, first_kept-le L m i))) (same j i h)

    pub largest_w-of-cut : (j : ℕ) → suc j < m → largest_w gives (cut L m) j ≡ largest_w gives L j
    unfolding largest_w cut
    largest_w-of-cut j h =
        max_to-ext (wait_left gives (cut L m) j) (wait_left gives L j) L.rows (λ i l. wait_left-of-cut j i h l)

    pub bound_by-of-cut : m ≤ most_steps
        → bound_by gives (cut L m) ≡ kept_costs L m + largest_phase L + kept_waits L m
        + sum_to (largest_w gives L) (m - 1)
    unfolding bound_by all_costs largest_phase cut
    bound_by-of-cut h =
        ap₂ (λ a b. kept_costs L m + largest_phase L + a + b) all_embedded_waits-of-cut
        (sum_to-shorter (largest_w gives (cut L m)) (largest_w gives L) (m - 1) (most_steps - 1) (omega arith)
        (λ j l. largest_w-of-cut j (omega arith)) (λ j l b. largest_w-past gives j (omega arith)))

  pub bound-of-cut : m ≤ most_steps
      → bound (cut L m)
      ≡ kept_costs L m + largest_phase L + kept_waits L m + sum_to (largest_w smallest_costs L) (m - 1)
  unfolding bound
  bound-of-cut h = bound_by-of-cut smallest_costs (smallest_costs-of-cut L m within) h

  pub tight_bound-of-cut : m ≤ most_steps
      → tight_bound (cut L m)
      ≡ kept_costs L m + largest_phase L + kept_waits L m + sum_to (largest_w minima L) (m - 1)
  tight_bound-of-cut h = bound_by-of-cut minima (minima-of-cut L m within) h
