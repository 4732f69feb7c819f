-- Laws of tests over the numbers from a on and below b: a search that goes up takes the first off, and none are left
-- from b on.
use Prim.Native.Nat.{ℕ, zero, suc, ◌+◌, ◌-◌, ◌≤◌, ◌<◌}
use mathlib.Core.Bool.{Bool, true, ◌&&◌, and-true, and_assoc}
use mathlib.Core.Path.{◌≡◌, sym, ap, ap₂, ◌∙◌}
use native.Mathlib.Nat.{add-zero}
use native.Mathlib.Omega.{arith}
use Rattle.counting.specs.Sums.{all_to, all_from}
use Rattle.counting.proofs.tests.TestLaws.{all_to-ext}

-- the first number below n + 1, and the others
pub all_to-first : (p : ℕ → Bool) (n : ℕ) → all_to p (suc n) ≡ (p 0 && all_to (λ k. p (suc k)) n)
unfolding all_to
all_to-first p zero = sym (and-true (p 0))
all_to-first p (suc n) =
    ap (λ t. t && p (suc n)) (all_to-first p n) ∙ and_assoc (p 0) (all_to (λ k. p (suc k)) n) (p (suc n))

pub all_from-zero : (p : ℕ → Bool) (a b : ℕ) → b ≤ a → all_from p a b ≡ true
unfolding all_to
all_from-zero p a b h = let e : b - a ≡ 0 = omega arith in rw e

pub all_from-next : (p : ℕ → Bool) (a b : ℕ) → a < b → all_from p a b ≡ (p a && all_from p (a + 1) b)
all_from-next p a b h =
    let e : b - a ≡ suc (b - (a + 1)) = omega arith in
    ap (all_to (λ k. p (a + k))) e
    ∙ all_to-first (λ k. p (a + k)) (b - (a + 1))
    ∙ ap₂ ◌&&◌ (ap p (add-zero a))
    (all_to-ext (λ k. p (a + suc k)) (λ k. p (a + 1 + k)) (b - (a + 1)) (λ k l. ap p (omega arith)))
