-- The r smallest of a list without sorting it: where at most r members are below t and at least r are at most t, their
-- sum is that of the members below t, and t for each that is still missing.
use Prim.Native.Nat.{ℕ, zero, suc, ◌+◌, ◌*◌, ◌≤◌, ◌<◌}
use mathlib.Core.Bool.{true, cond}
use mathlib.Core.List.{List, [], ◌∷◌}
use mathlib.Core.Path.{◌≡◌, refl}
use native.Mathlib.Decide.{ℕ_discrete, dec_lt}
use native.Mathlib.Nat.{suc-mul, zero-mul}
use native.Mathlib.Omega.{arith}
use borrow.Author.Tests.{leb-true, lt-ltb, le-ltb, le-leb, lt-leb}
use lib.Dec.{leb, ltb}
use lib.ListN.{take}
use Rattle.counting.specs.Sums.{bit}
use Rattle.counting.specs.Lists.{sum_in}
use Rattle.counting.specs.Sorting.{sorted}
use Rattle.counting.proofs.sorting.SortLaws.{
  total_in,
  total_in-sorted,
  Every,
  Every-map,
  InOrder,
  leb-order,
  sorted-in-order,
}
use Rattle.counting.proofs.sorting.SmallestLaws.{smallest_sum}

-- how many members are below t, how many are at most t, and the sum of those below
abbrev pub count_below : ℕ → List ℕ → ℕ
count_below t l = total_in (λ a. bit (ltb a t)) l

abbrev pub count_up_to : ℕ → List ℕ → ℕ
count_up_to t l = total_in (λ a. bit (leb a t)) l

abbrev pub sum_below : ℕ → List ℕ → ℕ
sum_below t l = total_in (λ a. cond (ltb a t) a 0) l

total_in-none : (f : ℕ → ℕ) (l : List ℕ) → Every (λ a. f a ≡ 0) l → total_in f l ≡ 0
unfolding total_in
total_in-none f [] e = refl
total_in-none f (a ∷ l) e = omega (arith, e.0, total_in-none f l e.1)

-- after a number that is not below t none is
module _ (a t : ℕ) (l : List ℕ) (o : InOrder leb (a ∷ l)) where
  later-below : t ≤ a → (count_below t l ≡ 0) × (sum_below t l ≡ 0)
  later-below h = (
    total_in-none (λ b. bit (ltb b t)) l
        (Every-map (λ b. leb a b ≡ true) (λ b. bit (ltb b t) ≡ 0) l
        (λ b e. rw (le-ltb b t (omega (arith, leb-true a b e)))) o.0),
    total_in-none (λ b. cond (ltb b t) b 0) l
        (Every-map (λ b. leb a b ≡ true) (λ b. cond (ltb b t) b 0 ≡ 0) l
        (λ b e. rw (le-ltb b t (omega (arith, leb-true a b e)))) o.0),
  )

  later-up_to : t < a → count_up_to t l ≡ 0
  later-up_to h =
      total_in-none (λ b. bit (leb b t)) l
      (Every-map (λ b. leb a b ≡ true) (λ b. bit (leb b t) ≡ 0) l
      (λ b e. rw (lt-leb b t (omega (arith, leb-true a b e)))) o.0)

in-order-threshold : (t r d : ℕ) (l : List ℕ) → InOrder leb l → r ≡ count_below t l + d → r ≤ count_up_to t l
    → sum_in (take r l) ≡ sum_below t l + d * t
unfolding total_in sum_in
in-order-threshold t zero d [] o e h = let z : d ≡ 0 = omega arith in rw (z, zero-mul t)
in-order-threshold t (suc r) d [] o e h = absurd (omega arith)
in-order-threshold t r d (a ∷ l) o e h =
    by (dec_lt a t) (ℕ_discrete a t) r d e h (λ r d. in-order-threshold t r d l o.1)
  where
    Law : ℕ → ℕ → List ℕ → Type 0
    Law r d l = r ≡ count_below t l + d → r ≤ count_up_to t l → sum_in (take r l) ≡ sum_below t l + d * t

    by : Dec (a < t) → Dec (a ≡ t) → (r d : ℕ) → r ≡ count_below t (a ∷ l) + d → r ≤ count_up_to t (a ∷ l)
        → ((r d : ℕ) → Law r d l) → sum_in (take r (a ∷ l)) ≡ sum_below t (a ∷ l) + d * t
    by (yes b) q zero d e h ih = absurd (omega (arith, rw (lt-ltb a t b) at e))
    by (yes b) q (suc r) d e h ih =
        rw (lt-ltb a t b)
        (omega (
          arith,
          ih r d (omega (arith, rw (lt-ltb a t b) at e)) (omega (arith, rw (le-leb a t (omega arith)) at h)),
        ))
    by (no b) (yes w) zero d e h ih =
        let z : d ≡ 0 = omega arith in
        rw (le-ltb a t (omega arith), z, zero-mul t) (omega (arith, (later-below a t l o (omega arith)).1))
    by (no b) (yes w) (suc r) zero e h ih =
        absurd (omega (arith, (later-below a t l o (omega arith)).0, rw (le-ltb a t (omega arith)) at e))
    by (no b) (yes w) (suc r) (suc d) e h ih =
        rw (le-ltb a t (omega arith), suc-mul d t)
        (omega (
          arith,
          ih r d (omega (arith, rw (le-ltb a t (omega arith)) at e))
              (omega (arith, rw (le-leb a t (omega arith)) at h)),
        ))
    by (no b) (no w) zero d e h ih =
        let z : d ≡ 0 = omega arith in
        rw (le-ltb a t (omega arith), z, zero-mul t) (omega (arith, (later-below a t l o (omega arith)).1))
    by (no b) (no w) (suc r) d e h ih =
        absurd (omega (arith, later-up_to a t l o (omega arith), rw (lt-leb a t (omega arith)) at h))

-- r is given by how many are missing
pub smallest_sum-threshold : (t d : ℕ) (l : List ℕ) → count_below t l + d ≤ count_up_to t l
    → smallest_sum (count_below t l + d) l ≡ sum_below t l + d * t
smallest_sum-threshold t d l h =
    omega (
      arith,
      total_in-sorted leb (λ a. cond (ltb a t) a 0) l,
      in-order-threshold t (count_below t l + d) d (sorted leb l) (sorted-in-order leb leb-order l)
          (omega (arith, total_in-sorted leb (λ a. bit (ltb a t)) l))
          (omega (arith, total_in-sorted leb (λ a. bit (leb a t)) l)),
    )
