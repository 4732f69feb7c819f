-- What a change at one number does: to a function, and to a sum, whose other terms may only shrink or only grow. Sums
-- with more terms, and terms under a test.
use Prim.Native.Nat.{ℕ, zero, suc, ◌+◌, ◌≤◌, ◌<◌}
use mathlib.Core.Bool.{Bool, true, false, cond}
use mathlib.Core.Logic.{◌≢◌}
use mathlib.Core.Path.{◌≡◌, refl, sym, subst}
use native.Mathlib.Decide.{ℕ_discrete}
use native.Mathlib.Omega.{arith}
use borrow.Author.Tests.{eq-eqb, ne_eqb}
use Rattle.counting.specs.Sums.{sum_to}
use Rattle.counting.specs.Lists.{changed}
use Rattle.counting.proofs.sums.SumLaws.{sum_to-mono}

pub changed-same : (f : ℕ → ℕ) (k v : ℕ) → changed f k v k ≡ v
unfolding changed
changed-same f k v = rw (eq-eqb k k refl)

pub changed-other : (f : ℕ → ℕ) (k v i : ℕ) → i ≢ k → changed f k v i ≡ f i
unfolding changed
changed-other f k v i h = rw (ne_eqb i k h)

-- only at k may f exceed g, by at most d
pub sum_to-change-le : (f g : ℕ → ℕ) (n k d : ℕ) → ((i : ℕ) → i < n → i ≢ k → f i ≤ g i) → (k < n → f k ≤ g k + d)
    → sum_to f n ≤ sum_to g n + d
unfolding sum_to
sum_to-change-le f g zero k d h at = omega arith
sum_to-change-le f g (suc n) k d h at =
    elim (ℕ_discrete n k) [
      | yes e ↦
          omega (
            arith,
            sum_to-mono f g n (λ i l. h i (omega arith) (omega arith)),
            subst (λ x. x < suc n → f x ≤ g x + d) (sym e) at (omega arith),
          )
      | no e ↦
          omega (
            arith,
            sum_to-change-le f g n k d (λ i l ne. h i (omega arith) ne) (λ l. at (omega arith)),
            h n (omega arith) e,
          )
    ]

-- at k, g exceeds f by at least d
pub sum_to-change-ge : (f g : ℕ → ℕ) (n k d : ℕ) → k < n → ((i : ℕ) → i < n → i ≢ k → f i ≤ g i) → f k + d ≤ g k
    → sum_to f n + d ≤ sum_to g n
unfolding sum_to
sum_to-change-ge f g zero k d l h at = omega arith
sum_to-change-ge f g (suc n) k d l h at =
    elim (ℕ_discrete n k) [
      | yes e ↦
          omega (
            arith,
            sum_to-mono f g n (λ i l. h i (omega arith) (omega arith)),
            subst (λ x. f x + d ≤ g x) (sym e) at,
          )
      | no e ↦
          omega (
            arith,
            sum_to-change-ge f g n k d (omega arith) (λ i l ne. h i (omega arith) ne) at,
            h n (omega arith) e,
          )
    ]

pub sum_to-change : (f g : ℕ → ℕ) (n k d : ℕ) → k < n → ((i : ℕ) → i < n → i ≢ k → f i ≡ g i) → f k + d ≡ g k
    → sum_to f n + d ≡ sum_to g n
sum_to-change f g n k d l h at =
    omega (
      arith,
      sum_to-change-ge f g n k d l (λ i li ne. omega (arith, h i li ne)) (omega arith),
      sum_to-change-le g f n k d (λ i li ne. omega (arith, h i li ne)) (λ _. omega arith),
    )

-- more terms
pub sum_to-more : (f : ℕ → ℕ) (m n : ℕ) → m ≤ n → sum_to f m ≤ sum_to f n
unfolding sum_to
sum_to-more f m zero h = rw (let z : m ≡ 0 = omega arith in z) (omega arith)
sum_to-more f m (suc n) h =
    elim (ℕ_discrete m (suc n)) [ yes e ↦ rw e (omega arith) | no e ↦ omega (arith, sum_to-more f m n (omega arith)) ]

pub sum_to-more-term : (f : ℕ → ℕ) (m n : ℕ) → m < n → sum_to f m + f m ≤ sum_to f n
unfolding sum_to
sum_to-more-term f m n h = sum_to-more f (suc m) n h

pub sum_to-suc : (f : ℕ → ℕ) (n : ℕ) → sum_to f (suc n) ≡ sum_to f n + f n
unfolding sum_to
sum_to-suc f n = refl

-- a term that counts only where a test holds
pub cond-le : (b : Bool) (x y d : ℕ) → (b ≡ true → x ≤ y + d) → cond b x 0 ≤ cond b y 0 + d
cond-le true x y d h = h refl
cond-le false x y d h = omega arith

pub cond-mono : (b : Bool) (x y : ℕ) → (b ≡ true → x ≤ y) → cond b x 0 ≤ cond b y 0
cond-mono true x y h = h refl
cond-mono false x y h = omega arith

pub cond-most : (b : Bool) (x y : ℕ) → (b ≡ true → x ≤ y) → cond b x 0 ≤ y
cond-most true x y h = h refl
cond-most false x y h = omega arith
