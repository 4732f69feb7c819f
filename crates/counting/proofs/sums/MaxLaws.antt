-- Laws of maxima and of sums of sums: pointwise order, a maximum is at most the sum, rows may be summed before or
-- after columns, and terms that are 0 may be left out.
use Prim.Native.Nat.{ℕ, zero, suc, ◌+◌, ◌-◌, ◌≤◌, ◌<◌}
use mathlib.Core.Path.{◌≡◌, refl, ap}
use native.Mathlib.Omega.{arith}
use Rattle.counting.specs.Sums.{sum_to, max_to}
use Rattle.counting.proofs.sums.SumLaws.{sum_to-none, sum_to-ext, sum_to-add, sum_to-split, max_to-le}

pub max_to-mono : (f g : ℕ → ℕ) (n : ℕ) → ((i : ℕ) → i < n → f i ≤ g i) → max_to f n ≤ max_to g n
unfolding max_to
max_to-mono f g zero h = omega arith
max_to-mono f g (suc n) h = omega (arith, max_to-mono f g n (λ i l. h i (omega arith)), h n (omega arith))

-- the largest is at most the sum
pub max_to-sum_to-le : (f : ℕ → ℕ) (n : ℕ) → max_to f n ≤ sum_to f n
unfolding max_to sum_to
max_to-sum_to-le f zero = omega arith
max_to-sum_to-le f (suc n) = omega (arith, max_to-sum_to-le f n)

-- rows first, or columns first
pub sum_to-swap : (f : ℕ → ℕ → ℕ) (n m : ℕ) → sum_to (λ i. sum_to (f i) m) n ≡ sum_to (λ j. sum_to (λ i. f i j) n) m
unfolding sum_to
sum_to-swap f zero m = omega (arith, sum_to-none (λ j. 0) m (λ j l. refl))
sum_to-swap f (suc n) m = omega (arith, sum_to-swap f n m, sum_to-add (λ j. sum_to (λ i. f i j) n) (f n) m)

-- a sum whose terms from n on are 0
pub sum_to-shorter : (f g : ℕ → ℕ) (n k : ℕ) → n ≤ k → ((j : ℕ) → j < n → f j ≡ g j)
    → ((j : ℕ) → n ≤ j → j < k → f j ≡ 0) → sum_to f k ≡ sum_to g n
sum_to-shorter f g n k h same zeros =
    let e : n + (k - n) ≡ k = omega arith in
    omega (
      arith,
      ap (sum_to f) e,
      sum_to-split f n (k - n),
      sum_to-ext f g n same,
      sum_to-none (λ d. f (n + d)) (k - n) (λ d l. zeros (n + d) (omega arith) (omega arith)),
    )

pub max_to-none : (f : ℕ → ℕ) (n : ℕ) → ((i : ℕ) → i < n → f i ≡ 0) → max_to f n ≡ 0
max_to-none f n h = omega (arith, max_to-le f n 0 (λ i l. omega (arith, h i l)))
