-- The numbers below n that have p, as a list and sorted: each is there once and nothing else is, there are as many as
-- are counted, and a sum over them is a sum over the numbers below n.
use Prim.Native.Nat.{ℕ, zero, suc, ◌+◌, ◌<◌}
use mathlib.Core.Bool.{Bool, true, false, cond}
use mathlib.Core.List.{[], ◌∷◌}
use mathlib.Core.Path.{◌≡◌, refl, sym, ap, ◌∙◌}
use native.Mathlib.Decide.{ℕ_discrete, dec_lt}
use native.Mathlib.Omega.{arith}
use borrow.Author.Tests.{lt-ltb, le-ltb}
use lib.Dec.{ltb}
use lib.ListN.{length}
use Rattle.counting.specs.Sums.{sum_to, bit, count_to}
use Rattle.counting.specs.Lists.{join_to, numbers_where}
use Rattle.counting.proofs.sums.SumLaws.{sum_to-ext}
use Rattle.counting.proofs.sorting.SortLaws.{total_in, total_in-append, total_in-length}

-- a sum over the numbers below n that have p
pub total_in-numbers_where : (f : ℕ → ℕ) (p : ℕ → Bool) (n : ℕ)
    → total_in f (numbers_where p n) ≡ sum_to (λ i. cond (p i) (f i) 0) n
unfolding total_in join_to sum_to
total_in-numbers_where f p zero = refl
total_in-numbers_where f p (suc n) =
    total_in-append f (numbers_where p n) (cond (p n) (n ∷ []) [])
    ∙ omega (arith, total_in-numbers_where f p n, last (p n))
  where
    last : (b : Bool) → total_in f (cond b (n ∷ []) []) ≡ cond b (f n) 0
    last true = omega arith
    last false = refl

-- a sum with no term but that of i
pub sum_to-only : (f : ℕ → ℕ) (n i : ℕ) → ((k : ℕ) → k < n → (k ≡ i → ⊥) → f k ≡ 0)
    → sum_to f n ≡ cond (ltb i n) (f i) 0
unfolding sum_to
sum_to-only f zero i h = rw (le-ltb i 0 (omega arith))
sum_to-only f (suc n) i h = step (sum_to-only f n i (λ k l. h k (omega arith)))
  where
    step : sum_to f n ≡ cond (ltb i n) (f i) 0 → sum_to f n + f n ≡ cond (ltb i (suc n)) (f i) 0
    step ih =
        elim (ℕ_discrete n i) [
          | yes e ↦ rw (lt-ltb i (suc n) (omega arith), ih, le-ltb i n (omega arith)) (omega (arith, ap f e))
          | no e ↦
              elim (dec_lt i n) [
                | yes l ↦ rw (lt-ltb i (suc n) (omega arith), ih, lt-ltb i n l) (omega (arith, h n (omega arith) e))
                | no l ↦
                    rw (le-ltb i (suc n) (omega arith), ih, le-ltb i n (omega arith))
                    (omega (arith, h n (omega arith) e))
              ]
        ]

pub numbers_where-length : (p : ℕ → Bool) (n : ℕ) → length (numbers_where p n) ≡ count_to p n
numbers_where-length p n =
    sym (total_in-length (numbers_where p n))
    ∙ total_in-numbers_where (λ k. 1) p n
    ∙ sum_to-ext (λ k. cond (p k) 1 0) (λ k. bit (p k)) n (λ k l. one (p k))
  where
    one : (b : Bool) → cond b 1 0 ≡ bit b
    one true = refl
    one false = refl
