-- Laws of the members of a list that have p: some member has it exactly where a place does, the first of them stands at
-- such a place, and where only one place has it the first is that one.
use Prim.Native.Nat.{ℕ, zero, suc, ◌<◌, min}
use mathlib.Core.Bool.{Bool, true, false, ◌||◌}
use mathlib.Core.List.{List, [], ◌∷◌}
use mathlib.Core.Path.{◌≡◌, refl, sym, ap, ap₂, ◌∙◌}
use native.Mathlib.Omega.{arith}
use lib.ListN.{length, length-take, get_or, take}
use lib.Seq.{get_or-take}
use Rattle.counting.specs.Sums.{any_to}
use Rattle.counting.specs.Lists.{any_in, first_in}
use Rattle.counting.proofs.tests.TestLaws.{
  or_left,
  or_right,
  or-neither,
  true-false,
  any_to-ext,
  true-any_to,
  false-any_to,
}

module _ {A : Type 0} where
  -- the first member that has p, and its place
  pub record First (p : A → Bool) (z : A) (l : List A) : Type 0 where
    pub place : ℕ
    pub below : place < length l
    pub has : p (get_or l place z) ≡ true
    pub is : first_in p z l ≡ get_or l place z
    pub before : (k : ℕ) → k < place → p (get_or l k z) ≡ false

  module _ (p : A → Bool) (z : A) where
    pub any_in-false : (l : List A) → any_in p l ≡ false → (k : ℕ) → k < length l → p (get_or l k z) ≡ false
    unfolding any_in
    any_in-false [] e k h = absurd (omega arith)
    any_in-false (a ∷ l) e zero h = or_left (p a) (any_in p l) e
    any_in-false (a ∷ l) e (suc k) h = any_in-false l (or_right (p a) (any_in p l) e) k (omega arith)

    pub false-any_in : (l : List A) → ((k : ℕ) → k < length l → p (get_or l k z) ≡ false) → any_in p l ≡ false
    unfolding any_in
    false-any_in [] h = refl
    false-any_in (a ∷ l) h =
        or-neither (p a) (any_in p l) (h zero (omega arith)) (false-any_in l (λ k b. h (suc k) (omega arith)))

    -- one place that has p is enough
    pub true-any_in : (l : List A) (k : ℕ) → k < length l → p (get_or l k z) ≡ true → any_in p l ≡ true
    true-any_in l k b h = go (any_in p l) refl
      where
        go : (t : Bool) → any_in p l ≡ t → t ≡ true
        go true e = refl
        go false e = absurd (true-false (p (get_or l k z)) h (any_in-false l e k b))

    -- where some member has p, there is a first
    pub any_in-true : (l : List A) → any_in p l ≡ true → First p z l
    unfolding any_in first_in
    any_in-true [] e = absurd (true-false false e refl)
    any_in-true (a ∷ l) e = go (p a) refl e (any_in-true l)
      where
        later : (k : ℕ) (n : ℕ) → p a ≡ false → ((k : ℕ) → k < n → p (get_or l k z) ≡ false)
            → k < suc n → p (get_or (a ∷ l) k z) ≡ false
        later zero n q h b = q
        later (suc k) n q h b = h k (omega arith)

        go : (t : Bool) → p a ≡ t → (t || any_in p l) ≡ true → (any_in p l ≡ true → First p z l) → First p z (a ∷ l)
        go true q h ih =
            record { place = 0; below = omega arith; has = q; is = rw q; before = λ k b. absurd (omega arith) }
        go false q h ih =
            let m = ih h in
            record {
              place = suc m.place;
              below = omega (arith, m.below);
              has = m.has;
              is = rw q m.is;
              before = λ k b. later k m.place q m.before b;
            }

    -- a search by places
    pub any_in-any_to : (l : List A) → any_in p l ≡ any_to (λ k. p (get_or l k z)) (length l)
    any_in-any_to l = go (any_in p l) refl
      where
        go : (t : Bool) → any_in p l ≡ t → t ≡ any_to (λ k. p (get_or l k z)) (length l)
        go true e =
            let m = any_in-true l e in
            sym (true-any_to (λ k. p (get_or l k z)) (length l) m.place m.below m.has)
        go false e = sym (false-any_to (λ k. p (get_or l k z)) (length l) (any_in-false l e))

    -- a search among the first n
    pub any_in-take : (n m : ℕ) (l : List A) → length l ≡ m
        → any_in p (take n l) ≡ any_to (λ k. p (get_or l k z)) (min n m)
    any_in-take n m l e =
        let same : length (take n l) ≡ min n m = omega (arith, length-take n l) in
        any_in-any_to (take n l)
        ∙ ap (any_to (λ k. p (get_or (take n l) k z))) same
        ∙ any_to-ext (λ k. p (get_or (take n l) k z)) (λ k. p (get_or l k z)) (min n m)
        (λ k b. ap p (get_or-take n l k z (omega arith)))

    -- the only place that has p holds the first
    pub first_in-only : (l : List A) (k : ℕ) → k < length l → p (get_or l k z) ≡ true
        → ((i : ℕ) → i < length l → p (get_or l i z) ≡ true → i ≡ k) → first_in p z l ≡ get_or l k z
    first_in-only l k b h only =
        let m = any_in-true l (true-any_in l k b h) in
        m.is ∙ ap (λ i. get_or l i z) (only m.place m.below m.has)

  pub any_in-ext : (p q : A → Bool) (l : List A) → ((a : A) → p a ≡ q a) → any_in p l ≡ any_in q l
  unfolding any_in
  any_in-ext p q [] h = refl
  any_in-ext p q (a ∷ l) h = ap₂ ◌||◌ (h a) (any_in-ext p q l h)
