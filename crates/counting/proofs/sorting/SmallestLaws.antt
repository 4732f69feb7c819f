-- The r smallest of a list add up to at most what any r of its members do, each picked from a place of its own. So
-- the r smallest of r pairs add up to at most what one of each pair does, and at most the smaller of each. The idea:
-- sorting in a number never raises the sum of the first r, and adds at most itself to that of the first r + 1.
use Prim.Native.Nat.{ℕ, zero, suc, ◌+◌, ◌≤◌, min}
use mathlib.Core.Bool.{Bool, true, false, cond}
use mathlib.Core.List.{List, [], ◌∷◌}
use mathlib.Core.Path.{◌≡◌, refl, ap}
use native.Mathlib.Omega.{arith}
use borrow.Author.Tests.{leb-true, leb-false}
use lib.Dec.{leb}
use lib.ListN.{length, take}
use Rattle.counting.specs.Lists.{join_in, sum_in}
use Rattle.counting.specs.Sorting.{inserted, sorted}
use Rattle.counting.proofs.sorting.SortLaws.{
  total_in,
  Every,
  Every-map,
  InOrder,
  leb-order,
  sorted-in-order,
  sorted-length,
  total_in-ext,
}

-- the sum of the r smallest
abbrev pub smallest_sum : ℕ → List ℕ → ℕ
smallest_sum r l = sum_in (take r (sorted leb l))

-- some members of a list, in its order, each from a place of its own
pub data Picked : List ℕ → List ℕ → Type 0 where
  none : Picked [] []
  picked : {s l : List ℕ} (a : ℕ) → Picked s l → Picked (a ∷ s) (a ∷ l)
  left : {s l : List ℕ} (a : ℕ) → Picked s l → Picked s (a ∷ l)

pub picked-length : {s l : List ℕ} → Picked s l → length s ≤ length l
picked-length none = omega arith
picked-length (picked a h) = omega (arith, picked-length h)
picked-length (left a h) = omega (arith, picked-length h)

-- one more of the list with one member more
more-le : (a r : ℕ) (l : List ℕ) → sum_in (take (suc r) (inserted leb a l)) ≤ a + sum_in (take r l)
unfolding inserted sum_in
more-le a zero [] = omega arith
more-le a (suc r) [] = omega arith
more-le a r (b ∷ bs) = go r (leb a b) refl (λ q. more-le a q bs)
  where
    go : (r : ℕ) (t : Bool) → leb a b ≡ t
        → ((q : ℕ) → sum_in (take (suc q) (inserted leb a bs)) ≤ a + sum_in (take q bs))
        → sum_in (take (suc r) (cond t (a ∷ b ∷ bs) (b ∷ inserted leb a bs))) ≤ a + sum_in (take r (b ∷ bs))
    go r true e ih = omega arith
    go zero false e ih = omega (arith, leb-false a b e)
    go (suc r) false e ih = omega (arith, ih r)

-- a number that may stand first, and r of a list in order
first-le : (a r : ℕ) (l : List ℕ) → InOrder leb (a ∷ l) → suc r ≤ length l
    → a + sum_in (take r l) ≤ sum_in (take (suc r) l)
unfolding sum_in
first-le a r [] o h = absurd (omega arith)
first-le a zero (b ∷ bs) o h = omega (arith, leb-true a b o.0.0)
first-le a (suc r) (b ∷ bs) o h = omega (arith, first-le a r bs (o.0.1, o.1.1) (omega arith))

-- as many of the list with one member more
same-le : (a r : ℕ) (l : List ℕ) → InOrder leb l → r ≤ length l
    → sum_in (take r (inserted leb a l)) ≤ sum_in (take r l)
unfolding inserted sum_in
same-le a zero l o h = omega arith
same-le a (suc r) [] o h = absurd (omega arith)
same-le a (suc r) (b ∷ bs) o h = go (leb a b) refl (same-le a r bs o.1 (omega arith))
  where
    go : (t : Bool) → leb a b ≡ t → sum_in (take r (inserted leb a bs)) ≤ sum_in (take r bs)
        → sum_in (take (suc r) (cond t (a ∷ b ∷ bs) (b ∷ inserted leb a bs))) ≤ b + sum_in (take r bs)
    go true e ih = first-le a r (b ∷ bs) ((e, before-all), o) h
      where
        before-all : Every (λ c. leb a c ≡ true) bs
        before-all =
            Every-map (λ c. leb b c ≡ true) (λ c. leb a c ≡ true) bs (λ c. leb-order.through a b c e) o.0
    go false e ih = omega arith

pub smallest_sum-le : {s l : List ℕ} → Picked s l → smallest_sum (length s) l ≤ sum_in s
unfolding sorted sum_in
smallest_sum-le none = omega arith
smallest_sum-le (picked {s = s} {l = l} a h) =
    omega (arith, more-le a (length s) (sorted leb l), smallest_sum-le h)
smallest_sum-le (left {s = s} {l = l} a h) =
    omega (
      arith,
      same-le a (length s) (sorted leb l) (sorted-in-order leb leb-order l)
          (omega (arith, picked-length h, sorted-length leb l)),
      smallest_sum-le h,
    )

module _ {B : Type 0} (f g : B → ℕ) where
  -- the members of the pairs
  abbrev pub pairs_of : List B → List ℕ
  pairs_of ks = join_in (λ k. f k ∷ g k ∷ []) ks

  -- one of each pair
  one_of_each : (B → Bool) → List B → List ℕ
  one_of_each c [] = []
  one_of_each c (k ∷ ks) = cond (c k) (f k) (g k) ∷ one_of_each c ks

  one_of_each-picked : (c : B → Bool) (ks : List B) → Picked (one_of_each c ks) (pairs_of ks)
  unfolding one_of_each join_in
  one_of_each-picked c [] = none
  one_of_each-picked c (k ∷ ks) = go (c k) (one_of_each-picked c ks)
    where
      go : (t : Bool) → Picked (one_of_each c ks) (pairs_of ks)
          → Picked (cond t (f k) (g k) ∷ one_of_each c ks) (f k ∷ g k ∷ pairs_of ks)
      go true h = picked (f k) (left (g k) h)
      go false h = left (f k) (picked (g k) h)

  one_of_each-length : (c : B → Bool) (ks : List B) → length (one_of_each c ks) ≡ length ks
  unfolding one_of_each
  one_of_each-length c [] = refl
  one_of_each-length c (k ∷ ks) = ap suc (one_of_each-length c ks)

  one_of_each-sum : (c : B → Bool) (ks : List B) → sum_in (one_of_each c ks) ≡ total_in (λ k. cond (c k) (f k) (g k)) ks
  unfolding one_of_each sum_in total_in
  one_of_each-sum c [] = refl
  one_of_each-sum c (k ∷ ks) = ap (λ n. cond (c k) (f k) (g k) + n) (one_of_each-sum c ks)

  -- the r smallest of r pairs, and one of each pair
  pub pairs-smallest-le : (c : B → Bool) (ks : List B)
      → smallest_sum (length ks) (pairs_of ks) ≤ total_in (λ k. cond (c k) (f k) (g k)) ks
  pairs-smallest-le c ks =
      rw (← one_of_each-length c ks) (omega (arith, smallest_sum-le (one_of_each-picked c ks), one_of_each-sum c ks))

  -- the r smallest of r pairs, and the smaller of each
  pub pairs-smallest-min : (ks : List B)
      → smallest_sum (length ks) (pairs_of ks) ≤ total_in (λ k. min (f k) (g k)) ks
  pairs-smallest-min ks =
      omega (
        arith,
        pairs-smallest-le (λ k. leb (f k) (g k)) ks,
        total_in-ext (λ k. cond (leb (f k) (g k)) (f k) (g k)) (λ k. min (f k) (g k)) ks
            (λ k. smaller (f k) (g k) (leb (f k) (g k)) refl),
      )
    where
      smaller : (a b : ℕ) (t : Bool) → leb a b ≡ t → cond t a b ≡ min a b
      smaller a b true e = omega (arith, leb-true a b e)
      smaller a b false e = omega (arith, leb-false a b e)
