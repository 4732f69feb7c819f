-- Laws of the members that are kept of a list: each has p and stood at a place of the list, and has what every member
-- has; they are kept one place after the other; and a search among them finds what it would find in the list, where
-- all that it looks for are kept.
use Prim.Native.Nat.{ℕ, zero, suc, ◌<◌}
use mathlib.Core.Bool.{Bool, true, false, cond, ◌&&◌, ◌||◌, not, and-true, and-false, and-or_distrib_right}
use mathlib.Core.List.{List, [], ◌∷◌, ◌++◌}
use mathlib.Core.Logic.{◌≢◌}
use mathlib.Core.Path.{◌≡◌, refl, ap, sym, ap₂, ◌∙◌}
use native.Mathlib.Omega.{arith}
use borrow.Author.Tests.{eq-eqb, ne_eqb}
use lib.Dec.{eqb}
use lib.ListN.{length, get_or}
use Rattle.counting.specs.Lists.{any_in, keep_in, first_in}
use Rattle.counting.proofs.tests.TestLaws.{true-false}
use Rattle.counting.proofs.sorting.SortLaws.{Every, Every-map}

module _ {A : Type 0} (p : A → Bool) where
  -- the place in the list of the kept member at place k
  pub kept_place : List A → ℕ → ℕ
  kept_place [] k = 0
  kept_place (a ∷ l) zero = cond (p a) 0 (suc (kept_place l 0))
  kept_place (a ∷ l) (suc k) = cond (p a) (suc (kept_place l k)) (suc (kept_place l (suc k)))

  -- a kept member has p, and stood at its place in the list
  pub record KeptMember (z : A) (l : List A) (k : ℕ) : Type 0 where
    pub below : kept_place l k < length l
    pub has : p (get_or l (kept_place l k) z) ≡ true
    pub is : get_or (keep_in p l) k z ≡ get_or l (kept_place l k) z

  pub keep_in-at : (z : A) (l : List A) (k : ℕ) → k < length (keep_in p l) → KeptMember z l k
  unfolding keep_in kept_place
  keep_in-at z [] k h = absurd (omega arith)
  keep_in-at z (a ∷ l) k h = go k (p a) refl h (keep_in-at z l)
    where
      go : (k : ℕ) (b : Bool) → p a ≡ b → k < length (cond b (a ∷ keep_in p l) (keep_in p l))
          → ((k : ℕ) → k < length (keep_in p l) → KeptMember z l k) → KeptMember z (a ∷ l) k
      go zero true q b ih = record { below = rw q (omega arith); has = rw q q; is = rw q }
      go zero false q b ih =
          let m = ih 0 b in
          record { below = rw q (omega (arith, m.below)); has = rw q m.has; is = rw q m.is }
      go (suc k) true q b ih =
          let m = ih k (omega arith) in
          record { below = rw q (omega (arith, m.below)); has = rw q m.has; is = rw q m.is }
      go (suc k) false q b ih =
          let m = ih (suc k) b in
          record { below = rw q (omega (arith, m.below)); has = rw q m.has; is = rw q m.is }

module _ {A : Type 0} where
  pub every-keep_in : (P : A → Type 0) (q : A → Bool) (l : List A) → Every P l → Every P (keep_in q l)
  unfolding keep_in
  every-keep_in P q [] e = tt
  every-keep_in P q (a ∷ rest) e = go (q a) (every-keep_in P q rest e.1)
    where
      go : (b : Bool) → Every P (keep_in q rest) → Every P (cond b (a ∷ keep_in q rest) (keep_in q rest))
      go true f = (e.0, f)
      go false f = f

  module _ (q : A → Bool) where
    -- a list in which every member has q
    keep_in-every : (l : List A) → Every (λ a. q a ≡ true) l → keep_in q l ≡ l
    unfolding keep_in
    keep_in-every [] e = refl
    keep_in-every (a ∷ rest) e = rw (e.0, keep_in-every rest e.1)

    keep_in-gone : (a : A) (l : List A) → q a ≡ false → keep_in q (a ∷ l) ≡ keep_in q l
    unfolding keep_in
    keep_in-gone a l e = rw e

    pub keep_in-append : (l m : List A) → keep_in q (l ++ m) ≡ keep_in q l ++ keep_in q m
    unfolding keep_in
    keep_in-append [] m = refl
    keep_in-append (a ∷ rest) m = go (q a) (keep_in-append rest m)
      where
        go : (b : Bool) → keep_in q (rest ++ m) ≡ keep_in q rest ++ keep_in q m
            → cond b (a ∷ keep_in q (rest ++ m)) (keep_in q (rest ++ m))
            ≡ cond b (a ∷ keep_in q rest) (keep_in q rest) ++ keep_in q m
        go true ih = rw ih
        go false ih = ih

  any_in-cond : (p : A → Bool) (a : A) (t : Bool) (l : List A) → any_in p (cond t (a ∷ l) l) ≡ (p a && t || any_in p l)
  unfolding any_in
  any_in-cond p a true l = ap₂ ◌||◌ (sym (and-true (p a))) refl
  any_in-cond p a false l = ap₂ ◌||◌ (sym (and-false (p a))) refl

  -- what is kept has p where the list has, if of those with p all are kept or, by b, none
  pub any_in-kept : (p q : A → Bool) (b : Bool) (l : List A) → Every (λ a. (p a && q a) ≡ (p a && b)) l
      → any_in p (keep_in q l) ≡ (any_in p l && b)
  unfolding any_in keep_in
  any_in-kept p q b [] e = refl
  any_in-kept p q b (a ∷ l) e =
      any_in-cond p a (q a) (keep_in q l)
      ∙ ap₂ ◌||◌ e.0 (any_in-kept p q b l e.1)
      ∙ sym (and-or_distrib_right (p a) (any_in p l) b)

  -- the first that has p, among those kept, where all that have p are kept
  pub first_in-kept : (p q : A → Bool) (z : A) (l : List A) → Every (λ a. p a ≡ true → q a ≡ true) l
      → first_in p z (keep_in q l) ≡ first_in p z l
  unfolding first_in keep_in
  first_in-kept p q z [] e = refl
  first_in-kept p q z (a ∷ rest) e = go (q a) refl (p a) refl (first_in-kept p q z rest e.1)
    where
      go : (b : Bool) → q a ≡ b → (c : Bool) → p a ≡ c → first_in p z (keep_in q rest) ≡ first_in p z rest
          → first_in p z (cond b (a ∷ keep_in q rest) (keep_in q rest)) ≡ cond c a (first_in p z rest)
      go true f true h ih = rw h
      go true f false h ih = rw h ih
      go false f true h ih = absurd (true-false (q a) (e.0 h) f)
      go false f false h ih = ih

-- a list without a number
module _ (i : ℕ) where
  -- it does not stand there
  pub without-none : (l : List ℕ) → Every (λ k. k ≢ i) l → keep_in (λ k. not (eqb k i)) l ≡ l
  without-none l e =
      keep_in-every (λ k. not (eqb k i)) l
      (Every-map (λ k. k ≢ i) (λ k. not (eqb k i) ≡ true) l (λ k ne. ap not (ne_eqb k i ne)) e)

  -- it stands first, and no more
  pub without-first : (l : List ℕ) → Every (λ k. k ≢ i) l → keep_in (λ k. not (eqb k i)) (i ∷ l) ≡ l
  without-first l e = keep_in-gone (λ k. not (eqb k i)) i l (ap not (eq-eqb i i refl)) ∙ without-none l e
