-- The blame of the cut load, over the load itself: the place and row with the largest W among the load's own places
-- between the first m steps. So eight blames serve all rows. The premise is that the rows' windows end within their
-- steps.
use Prim.Native.Nat.{ℕ, suc, ◌-◌, ◌≤◌, ◌<◌}
use mathlib.Core.Path.{◌≡◌, ap₂}
use native.Mathlib.Omega.{arith}
use Rattle.counting.proofs.searches.LargestLaws.{first_largest-ext}
use Rattle.load.specs.Load.{most_steps}
use Rattle.load.specs.View.{View}
use Rattle.rules.specs.Cut.{cut}
use Rattle.rules.specs.Bound.{wait_left, most_places, smallest_costs}
use Rattle.rules.specs.Blame.{worst_row, largest_at, blame_among}
use Rattle.rules.proofs.bound.BlameLaws.{blame_among-shorter}
use Rattle.rules.proofs.cut.CutLaws.{Within}
use Rattle.rules.proofs.cut.CutCosts.{smallest_costs-of-cut}
use Rattle.rules.proofs.cut.CutBound.{wait_left-of-cut, largest_w-of-cut, largest_w-past}

module _
    (L : View)
    (m : ℕ)
    (within : (i : ℕ) → i < L.rows → Within L i)
    (gives : View → ℕ → ℕ → ℕ)
    (same : (j i : ℕ) → suc j < m → gives (cut L m) j i ≡ gives L j i)
  where
    -- at a place between two of the first m steps the row is the load's
    worst_row-of-cut : (j : ℕ) → suc j < m → worst_row gives (cut L m) j ≡ worst_row gives L j
    unfolding cut
    worst_row-of-cut j h =
        first_largest-ext (wait_left gives (cut L m) j) (wait_left gives L j) L.rows
        (λ i l. wait_left-of-cut L m within gives same j i h l)

    -- and so is the largest W with it
    largest_at-of-cut : (j : ℕ) → suc j < m → largest_at gives (cut L m) j ≡ largest_at gives L j
    largest_at-of-cut j h =
        ap₂ (λ left row. record { left = left; row = row }) (largest_w-of-cut L m within gives same j h)
        (worst_row-of-cut j h)

    blame_among-of-cut : m ≤ most_steps
        → blame_among (largest_at gives (cut L m)) most_places ≡ blame_among (largest_at gives L) (m - 1)
    blame_among-of-cut h =
        blame_among-shorter (largest_at gives (cut L m)) (largest_at gives L) (m - 1)
        (λ j l. largest_at-of-cut j (omega arith)) most_places (omega arith)
        (λ j l b. largest_w-past L m within gives j (omega arith))

pub blame-of-cut : (L : View) (m : ℕ) → ((i : ℕ) → i < L.rows → Within L i) → m ≤ most_steps
    → blame_among (largest_at smallest_costs (cut L m)) most_places ≡ blame_among (largest_at smallest_costs L) (m - 1)
blame-of-cut L m within h = blame_among-of-cut L m within smallest_costs (smallest_costs-of-cut L m within) h
