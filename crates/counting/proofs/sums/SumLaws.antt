-- Laws of finite sums and maxima: the equations at 0 and at n + 1, pointwise order, one term, and a bound of each.
use Prim.Native.Nat.{ℕ, zero, suc, ◌+◌, ◌-◌, ◌*◌, ◌≤◌, ◌<◌, max}
use mathlib.Core.Path.{◌≡◌, refl, ap}
use native.Mathlib.Decide.{ℕ_discrete}
use native.Mathlib.Nat.{add-zero, add-suc}
use native.Mathlib.Numerals.{add-one}
use native.Mathlib.Omega.{arith}
use Rattle.counting.specs.Sums.{sum_to, sum_from, max_to}

pub sum_to-zero : (f : ℕ → ℕ) → sum_to f 0 ≡ 0
unfolding sum_to
sum_to-zero f = refl

pub sum_to-next : (f : ℕ → ℕ) (n : ℕ) → sum_to f (n + 1) ≡ sum_to f n + f n
unfolding sum_to
sum_to-next f n = rw add-one

-- a sum of nothing but 0
pub sum_to-none : (f : ℕ → ℕ) (n : ℕ) → ((i : ℕ) → i < n → f i ≡ 0) → sum_to f n ≡ 0
unfolding sum_to
sum_to-none f zero h = refl
sum_to-none f (suc n) h = omega (arith, sum_to-none f n (λ i l. h i (omega arith)), h n (omega arith))

pub sum_to-ext : (f g : ℕ → ℕ) (n : ℕ) → ((i : ℕ) → i < n → f i ≡ g i) → sum_to f n ≡ sum_to g n
unfolding sum_to
sum_to-ext f g zero h = refl
sum_to-ext f g (suc n) h = omega (arith, sum_to-ext f g n (λ i l. h i (omega arith)), h n (omega arith))

pub sum_to-mono : (f g : ℕ → ℕ) (n : ℕ) → ((i : ℕ) → i < n → f i ≤ g i) → sum_to f n ≤ sum_to g n
unfolding sum_to
sum_to-mono f g zero h = omega arith
sum_to-mono f g (suc n) h = omega (arith, sum_to-mono f g n (λ i l. h i (omega arith)), h n (omega arith))

pub sum_to-add : (f g : ℕ → ℕ) (n : ℕ) → sum_to (λ i. f i + g i) n ≡ sum_to f n + sum_to g n
unfolding sum_to
sum_to-add f g zero = refl
sum_to-add f g (suc n) = omega (arith, sum_to-add f g n)

-- a term of the sum is at most the sum
pub term-le-sum_to : (f : ℕ → ℕ) (n k : ℕ) → k < n → f k ≤ sum_to f n
unfolding sum_to
term-le-sum_to f zero k l = omega arith
term-le-sum_to f (suc n) k l =
    elim (ℕ_discrete k n) [ yes e ↦ omega (arith, ap f e) | no e ↦ omega (arith, term-le-sum_to f n k (omega arith)) ]

-- n terms of at most c
pub sum_to-le : (f : ℕ → ℕ) (n c : ℕ) → ((i : ℕ) → i < n → f i ≤ c) → sum_to f n ≤ n * c
unfolding sum_to
sum_to-le f zero c h = omega arith
sum_to-le f (suc n) c h = omega (arith, sum_to-le f n c (λ i l. h i (omega arith)), h n (omega arith))

pub sum_to-split : (f : ℕ → ℕ) (n m : ℕ) → sum_to f (n + m) ≡ sum_to f n + sum_to (λ k. f (n + k)) m
unfolding sum_to
sum_to-split f n zero = rw (add-zero n) (omega arith)
sum_to-split f n (suc m) = rw add-suc (omega (arith, sum_to-split f n m))

pub max_to-zero : (f : ℕ → ℕ) → max_to f 0 ≡ 0
unfolding max_to
max_to-zero f = refl

pub max_to-next : (f : ℕ → ℕ) (n : ℕ) → max_to f (n + 1) ≡ max (max_to f n) (f n)
unfolding max_to
max_to-next f n = rw add-one

-- a value is at most the largest
pub value-le-max_to : (f : ℕ → ℕ) (n k : ℕ) → k < n → f k ≤ max_to f n
unfolding max_to
value-le-max_to f zero k l = omega arith
value-le-max_to f (suc n) k l =
    elim (ℕ_discrete k n) [ yes e ↦ omega (arith, ap f e) | no e ↦ omega (arith, value-le-max_to f n k (omega arith)) ]

-- the largest of values of at most c
pub max_to-le : (f : ℕ → ℕ) (n c : ℕ) → ((i : ℕ) → i < n → f i ≤ c) → max_to f n ≤ c
unfolding max_to
max_to-le f zero c h = omega arith
max_to-le f (suc n) c h = omega (arith, max_to-le f n c (λ i l. h i (omega arith)), h n (omega arith))

pub max_to-ext : (f g : ℕ → ℕ) (n : ℕ) → ((i : ℕ) → i < n → f i ≡ g i) → max_to f n ≡ max_to g n
unfolding max_to
max_to-ext f g zero h = refl
max_to-ext f g (suc n) h = omega (arith, max_to-ext f g n (λ i l. h i (omega arith)), h n (omega arith))

pub sum_from-none : (f : ℕ → ℕ) (a b : ℕ) → b ≤ a → sum_from f a b ≡ 0
unfolding sum_to
sum_from-none f a b h = let e : b - a ≡ 0 = omega arith in rw e

-- the first term, and those after it
pub sum_from-front : (f : ℕ → ℕ) (a b : ℕ) → a < b → sum_from f a b ≡ f a + sum_from f (suc a) b
unfolding sum_to
sum_from-front f a b h =
    let e : b - a ≡ 1 + (b - suc a) = omega arith in
    let first : f (a + 0) ≡ f a = ap f (omega arith) in
    let later : sum_to (λ k. f (a + (1 + k))) (b - suc a) ≡ sum_from f (suc a) b =
    sum_to-ext (λ k. f (a + (1 + k))) (λ k. f (suc a + k)) (b - suc a) (λ k l. ap f (omega arith)) in
    rw e (omega (arith, sum_to-split (λ k. f (a + k)) 1 (b - suc a)))

pub sum_from-ext : (f g : ℕ → ℕ) (a b : ℕ) → ((k : ℕ) → a ≤ k → k < b → f k ≡ g k) → sum_from f a b ≡ sum_from g a b
sum_from-ext f g a b h =
    sum_to-ext (λ k. f (a + k)) (λ k. g (a + k)) (b - a) (λ k l. h (a + k) (omega arith) (omega arith))
