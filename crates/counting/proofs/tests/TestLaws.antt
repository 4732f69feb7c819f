-- Laws of tests over the numbers below n: from a test to the fact at each number and back, and the equations at n + 1.
use Prim.Native.Nat.{ℕ, zero, suc, ◌+◌, ◌-◌, ◌≤◌, ◌<◌}
use mathlib.Core.Bool.{Bool, true, false, ◌&&◌, ◌||◌}
use mathlib.Core.Path.{◌≡◌, refl, ap₂, sym}
use native.Mathlib.Decide.{ℕ_discrete}
use native.Mathlib.Numerals.{add-one}
use native.Mathlib.Omega.{arith}
use Rattle.counting.specs.Sums.{all_to, all_from, any_to}

pub and_left : (a b : Bool) → (a && b) ≡ true → a ≡ true
and_left true b e = refl
and_left false b e = e

pub and_right : (a b : Bool) → (a && b) ≡ true → b ≡ true
and_right true b e = e
and_right false b e = cc

pub and_both : (a b : Bool) → a ≡ true → b ≡ true → (a && b) ≡ true
and_both a b p q = rw (p, q)

-- what is false beside a true test
not-and : (a : Bool) → (a && true) ≡ false → a ≡ false
not-and true e = e
not-and false e = refl

pub or_left : (a b : Bool) → (a || b) ≡ false → a ≡ false
or_left true b e = cc
or_left false b e = refl

pub or_right : (a b : Bool) → (a || b) ≡ false → b ≡ false
or_right true b e = cc
or_right false b e = e

pub or-neither : (a b : Bool) → a ≡ false → b ≡ false → (a || b) ≡ false
or-neither a b p q = rw (p, q)

-- a test is not both
pub true-false : (b : Bool) → b ≡ true → b ≡ false → ⊥
true-false b p q = let z : ◌≡◌ {A = ℕ} 0 1 = cc in omega arith

-- a test that cannot be met
pub never_true : (b : Bool) → (b ≡ true → ⊥) → b ≡ false
never_true true h = absurd (h refl)
never_true false h = refl

pub all_to-zero : (p : ℕ → Bool) → all_to p 0 ≡ true
unfolding all_to
all_to-zero p = refl

pub all_to-next : (p : ℕ → Bool) (n : ℕ) → all_to p (n + 1) ≡ (all_to p n && p n)
unfolding all_to
all_to-next p n = rw add-one

pub all_to-true : (p : ℕ → Bool) (n : ℕ) → all_to p n ≡ true → (i : ℕ) → i < n → p i ≡ true
unfolding all_to
all_to-true p zero h i l = absurd (omega arith)
all_to-true p (suc n) h i l =
    elim (ℕ_discrete i n) [
      | yes e ↦ rw e (and_right (all_to p n) (p n) h)
      | no e ↦ all_to-true p n (and_left (all_to p n) (p n) h) i (omega arith)
    ]

pub true-all_to : (p : ℕ → Bool) (n : ℕ) → ((i : ℕ) → i < n → p i ≡ true) → all_to p n ≡ true
unfolding all_to
true-all_to p zero h = refl
true-all_to p (suc n) h = and_both (all_to p n) (p n) (true-all_to p n (λ i l. h i (omega arith))) (h n (omega arith))

-- one number that has not p is enough
pub false-all_to : (p : ℕ → Bool) (n k : ℕ) → k < n → p k ≡ false → all_to p n ≡ false
false-all_to p n k l h = go (all_to p n) refl
  where
    go : (t : Bool) → all_to p n ≡ t → t ≡ false
    go true e = absurd (true-false (p k) (all_to-true p n e k l) h)
    go false e = refl

-- a number below n that has not p
pub record Fails (p : ℕ → Bool) (n : ℕ) : Type 0 where
  pub place : ℕ
  pub below : place < n
  pub fails : p place ≡ false

pub all_to-false : (p : ℕ → Bool) (n : ℕ) → all_to p n ≡ false → Fails p n
unfolding all_to
all_to-false p zero h = absurd (true-false true refl h)
all_to-false p (suc n) h = go (p n) refl h (all_to-false p n)
  where
    go : (b : Bool) → p n ≡ b → (all_to p n && b) ≡ false → (all_to p n ≡ false → Fails p n) → Fails p (suc n)
    go false e q lower = record { place = n; below = omega arith; fails = e }
    go true e q lower =
        let f = lower (not-and (all_to p n) q) in
        record { place = f.place; below = omega (arith, f.below); fails = f.fails }

pub all_to-ext : (p q : ℕ → Bool) (n : ℕ) → ((i : ℕ) → i < n → p i ≡ q i) → all_to p n ≡ all_to q n
unfolding all_to
all_to-ext p q zero h = refl
all_to-ext p q (suc n) h = ap₂ ◌&&◌ (all_to-ext p q n (λ i l. h i (omega arith))) (h n (omega arith))

pub any_to-zero : (p : ℕ → Bool) → any_to p 0 ≡ false
unfolding any_to
any_to-zero p = refl

pub any_to-next : (p : ℕ → Bool) (n : ℕ) → any_to p (n + 1) ≡ (any_to p n || p n)
unfolding any_to
any_to-next p n = rw add-one

pub any_to-false : (p : ℕ → Bool) (n : ℕ) → any_to p n ≡ false → (i : ℕ) → i < n → p i ≡ false
unfolding any_to
any_to-false p zero h i l = absurd (omega arith)
any_to-false p (suc n) h i l =
    elim (ℕ_discrete i n) [
      | yes e ↦ rw e (or_right (any_to p n) (p n) h)
      | no e ↦ any_to-false p n (or_left (any_to p n) (p n) h) i (omega arith)
    ]

pub false-any_to : (p : ℕ → Bool) (n : ℕ) → ((i : ℕ) → i < n → p i ≡ false) → any_to p n ≡ false
unfolding any_to
false-any_to p zero h = refl
false-any_to p (suc n) h =
    or-neither (any_to p n) (p n) (false-any_to p n (λ i l. h i (omega arith))) (h n (omega arith))

-- one number that has p is enough
pub true-any_to : (p : ℕ → Bool) (n k : ℕ) → k < n → p k ≡ true → any_to p n ≡ true
unfolding any_to
true-any_to p zero k l h = absurd (omega arith)
true-any_to p (suc n) k l h =
    elim (ℕ_discrete k n) [
      | yes e ↦ last (any_to p n) (rw (← e) h)
      | no e ↦ rw (true-any_to p n k (omega arith) h)
    ]
  where
    last : (b : Bool) → p n ≡ true → (b || p n) ≡ true
    last true q = refl
    last false q = q

pub any_to-ext : (p q : ℕ → Bool) (n : ℕ) → ((i : ℕ) → i < n → p i ≡ q i) → any_to p n ≡ any_to q n
unfolding any_to
any_to-ext p q zero h = refl
any_to-ext p q (suc n) h = ap₂ ◌||◌ (any_to-ext p q n (λ i l. h i (omega arith))) (h n (omega arith))

pub all_from-true : (p : ℕ → Bool) (a b : ℕ) → all_from p a b ≡ true → (i : ℕ) → a ≤ i → i < b → p i ≡ true
all_from-true p a b h i from l =
    let e : a + (i - a) ≡ i = omega arith in
    rw e at (all_to-true (λ k. p (a + k)) (b - a) h (i - a) (omega arith))

pub true-all_from : (p : ℕ → Bool) (a b : ℕ) → ((i : ℕ) → a ≤ i → i < b → p i ≡ true) → all_from p a b ≡ true
true-all_from p a b h = true-all_to (λ k. p (a + k)) (b - a) (λ k l. h (a + k) (omega arith) (omega arith))

-- two tests that are met together are the same
pub test-ext : (a b : Bool) → (a ≡ true → b ≡ true) → (b ≡ true → a ≡ true) → a ≡ b
test-ext true b to from = sym (to refl)
test-ext false true to from = from refl
test-ext false false to from = refl
