-- The first member that has p, looked for from a place on: it is the member there, or it is looked for from the next
-- place on. And some member has p exactly where the first that has it passes a test that nothing else would.
use Prim.Native.Nat.{ℕ, zero, suc, ◌+◌, min, ◌≤◌, ◌<◌}
use mathlib.Core.Bool.{Bool, true, false, cond, ◌||◌}
use mathlib.Core.List.{List, [], ◌∷◌}
use mathlib.Core.Path.{◌≡◌, refl, ap, sym, ◌∙◌}
use native.Mathlib.Numerals.{add-one}
use native.Mathlib.Omega.{arith}
use lib.ListN.{length, get_or, take, drop, length-take}
use lib.Seq.{drop-cons, get_or-take}
use Rattle.counting.specs.Lists.{any_in, first_in}

module _ {A : Type 0} (p : A → Bool) (z : A) where
  first_in-cons : (a : A) (l : List A) → first_in p z (a ∷ l) ≡ cond (p a) a (first_in p z l)
  unfolding first_in
  first_in-cons a l = refl

  first_in-over : (l : List A) (k : ℕ) → length l ≤ k → first_in p z (drop k l) ≡ z
  unfolding first_in
  first_in-over [] zero h = refl
  first_in-over [] (suc k) h = refl
  first_in-over (a ∷ l) zero h = absurd (omega arith)
  first_in-over (a ∷ l) (suc k) h = first_in-over l k (omega arith)

  module _ (l : List A) (n k : ℕ) where
    pub first_in-from : k < length l → k < n
        → first_in p z (drop k (take n l))
        ≡ cond (p (get_or l k z)) (get_or l k z) (first_in p z (drop (k + 1) (take n l)))
    first_in-from h b =
        let e : k < length (take n l) = omega (arith, length-take n l) in
        let f = ap (first_in p z) (drop-cons (take n l) k z e)
        ∙ first_in-cons (get_or (take n l) k z) (drop (suc k) (take n l)) in
        let g = get_or-take n l k z b in
        rw (add-one, ← g) f

    pub first_in-past : min n (length l) ≤ k → first_in p z (drop k (take n l)) ≡ z
    first_in-past h = first_in-over (take n l) k (omega (arith, length-take n l))

  pub any_in-first_in : (q : A → Bool) → ((a : A) → p a ≡ true → q a ≡ true) → q z ≡ false → (l : List A)
      → any_in p l ≡ q (first_in p z l)
  unfolding any_in first_in
  any_in-first_in q has has_not [] = sym has_not
  any_in-first_in q has has_not (a ∷ l) = go (p a) refl (any_in-first_in q has has_not l)
    where
      go : (b : Bool) → p a ≡ b → any_in p l ≡ q (first_in p z l) → (b || any_in p l) ≡ q (cond b a (first_in p z l))
      go true e ih = sym (has a e)
      go false e ih = ih
