-- "Add", "the largest", "every row": sums, maxima, counts and tests over the numbers 0 .. n - 1.
use Rattle.std.specs.Prelude.{ℕ, zero, suc, ◌+◌, ◌-◌, max, Bool, true, false, ◌&&◌, ◌||◌}

-- f 0 + f 1 + .. + f (n - 1)
unfoldable pub sum_to : (ℕ → ℕ) → ℕ → ℕ
sum_to f zero = 0
sum_to f (suc n) = sum_to f n + f n

-- f a + f (a + 1) + .. + f (b - 1)
abbrev pub sum_from : (ℕ → ℕ) → ℕ → ℕ → ℕ
sum_from f a b = sum_to (λ k. f (a + k)) (b - a)

-- the largest of f 0 .. f (n - 1), and 0 where there is none
unfoldable pub max_to : (ℕ → ℕ) → ℕ → ℕ
max_to f zero = 0
max_to f (suc n) = max (max_to f n) (f n)

-- 1 for true, 0 for false
abbrev pub bit : Bool → ℕ
bit true = 1
bit false = 0

-- how many of the numbers below n have p
abbrev pub count_to : (ℕ → Bool) → ℕ → ℕ
count_to p n = sum_to (λ i. bit (p i)) n

-- every number below n has p
unfoldable pub all_to : (ℕ → Bool) → ℕ → Bool
all_to p zero = true
all_to p (suc n) = all_to p n && p n

-- every number from a on and below b has p
abbrev pub all_from : (ℕ → Bool) → ℕ → ℕ → Bool
all_from p a b = all_to (λ k. p (a + k)) (b - a)

-- some number below n has p
unfoldable pub any_to : (ℕ → Bool) → ℕ → Bool
any_to p zero = false
any_to p (suc n) = any_to p n || p n
