-- What every member of a list has: kept by sorting, and the same as what every number below n that has p has. And what
-- a search over a list finds.
use Prim.Native.Nat.{ℕ, zero, suc, ◌<◌}
use mathlib.Core.Bool.{Bool, true, false, cond}
use mathlib.Core.List.{List, [], ◌∷◌, ◌++◌, append-nil}
use mathlib.Core.Logic.{◌≢◌}
use mathlib.Core.Path.{◌≡◌, refl, ap₂}
use native.Mathlib.Decide.{ℕ_discrete}
use native.Mathlib.Omega.{arith}
use Rattle.counting.specs.Lists.{join_to, any_in, numbers_where}
use Rattle.counting.specs.Searches.{Found, at, none, found}
use Rattle.counting.specs.Sorting.{inserted, sorted}
use Rattle.counting.proofs.tests.TestLaws.{or_left, or_right, true-false}
use Rattle.counting.proofs.sorting.SortLaws.{Every, Every-append}

module _ {A : Type 0} where
  pub append-every-left : (P : A → Type 0) (l m : List A) → Every P (l ++ m) → Every P l
  append-every-left P [] m e = tt
  append-every-left P (a ∷ rest) m e = (e.0, append-every-left P rest m e.1)

  pub append-every-right : (P : A → Type 0) (l m : List A) → Every P (l ++ m) → Every P m
  append-every-right P [] m e = e
  append-every-right P (a ∷ rest) m e = append-every-right P rest m e.1

  -- where no member has p, every member lacks it
  pub any_in-every : (p : A → Bool) (l : List A) → any_in p l ≡ false → Every (λ a. p a ≡ false) l
  unfolding any_in
  any_in-every p [] e = tt
  any_in-every p (a ∷ l) e = (or_left (p a) (any_in p l) e, any_in-every p l (or_right (p a) (any_in p l) e))

  module _ (P : A → Type 0) (before : A → A → Bool) where
    pub every_inserted : (a : A) (l : List A) → P a → Every P l → Every P (inserted before a l)
    unfolding inserted
    every_inserted a [] p e = (p, tt)
    every_inserted a (c ∷ cs) p e = go (before a c) (every_inserted a cs p e.1)
      where
        go : (b : Bool) → Every P (inserted before a cs) → Every P (cond b (a ∷ c ∷ cs) (c ∷ inserted before a cs))
        go true f = (p, e)
        go false f = (e.0, f)

    pub inserted-every : (a : A) (l : List A) → Every P (inserted before a l) → P a × Every P l
    unfolding inserted
    inserted-every a [] e = (e.0, tt)
    inserted-every a (c ∷ cs) e = go (before a c) (inserted-every a cs) e
      where
        go : (b : Bool) → (Every P (inserted before a cs) → P a × Every P cs)
            → Every P (cond b (a ∷ c ∷ cs) (c ∷ inserted before a cs)) → P a × Every P (c ∷ cs)
        go true ih f = (f.0, f.1)
        go false ih f = ((ih f.1).0, (f.0, (ih f.1).1))

    pub sorted-every : (l : List A) → Every P (sorted before l) → Every P l
    unfolding sorted
    sorted-every [] e = tt
    sorted-every (a ∷ rest) e =
        let f = inserted-every a (sorted before rest) e in
        (f.0, sorted-every rest f.1)

module _ (P : ℕ → Type 0) (p : ℕ → Bool) where
  pub every-numbers_where : (n : ℕ) → ((i : ℕ) → i < n → p i ≡ true → P i) → Every P (numbers_where p n)
  unfolding join_to
  every-numbers_where zero h = tt
  every-numbers_where (suc n) h =
      Every-append P (numbers_where p n) (cond (p n) (n ∷ []) []) (every-numbers_where n (λ i l. h i (omega arith)))
      (last (p n) refl)
    where
      last : (b : Bool) → p n ≡ b → Every P (cond b (n ∷ []) [])
      last true e = (h n (omega arith) e, tt)
      last false e = tt

  pub numbers_where-every : (n : ℕ) → Every P (numbers_where p n) → (i : ℕ) → i < n → p i ≡ true → P i
  unfolding join_to
  numbers_where-every zero h i l e = absurd (omega arith)
  numbers_where-every (suc n) h i l e =
      elim (ℕ_discrete i n) [
        | yes q ↦ rw q (last (p n) (rw q at e) (append-every-right P (numbers_where p n) (cond (p n) (n ∷ []) []) h))
        | no q ↦
            numbers_where-every n (append-every-left P (numbers_where p n) (cond (p n) (n ∷ []) []) h) i (omega arith) e
      ]
    where
      last : (b : Bool) → b ≡ true → Every P (cond b (n ∷ []) []) → P n
      last true q f = f.0
      last false q f = absurd (true-false false q refl)

-- no number has p, or one alone may have it
pub numbers_where-none : (p : ℕ → Bool) (n : ℕ) → ((i : ℕ) → i < n → p i ≡ false) → numbers_where p n ≡ []
unfolding join_to
numbers_where-none p zero h = refl
numbers_where-none p (suc n) h = rw (numbers_where-none p n (λ i l. h i (omega arith)), h n (omega arith))

pub numbers_where-one : (p : ℕ → Bool) (n k : ℕ) → k < n → ((i : ℕ) → i < n → i ≢ k → p i ≡ false)
    → numbers_where p n ≡ cond (p k) (k ∷ []) []
unfolding join_to
numbers_where-one p zero k l h = absurd (omega arith)
numbers_where-one p (suc n) k l h =
    elim (ℕ_discrete n k) [
      | yes e ↦ rw (numbers_where-none p n (λ i li. h i (omega arith) (omega arith)), e)
      | no e ↦
          rw (numbers_where-one p n k (omega arith) (λ i li. h i (omega arith)), h n (omega arith) e)
          (append-nil (cond (p k) (k ∷ []) []))
    ]

-- what is found is a member that has p
pub found_at : (P : ℕ → Type 0) (p : ℕ → Bool) (l : List ℕ) (i : ℕ) → Every P l → found p l ≡ at i → P i × (p i ≡ true)
unfolding found
found_at P p [] i e h = absurd (let z : ◌≡◌ {A = ℕ} 0 1 = cc in omega arith)
found_at P p (a ∷ rest) i e h = go (p a) refl (found_at P p rest i e.1) h
  where
    go : (b : Bool) → p a ≡ b → (found p rest ≡ at i → P i × (p i ≡ true))
        → elim b as (λ x. Found) [ true ↦ at a | false ↦ found p rest ] ≡ at i → P i × (p i ≡ true)
    go true q ih f = let s : a ≡ i = cc in (rw (← s) e.0, rw (← s) q)
    go false q ih f = ih f

-- where nothing is found no member has p
pub found_none : (p : ℕ → Bool) (l : List ℕ) → found p l ≡ none → Every (λ i. p i ≡ false) l
unfolding found
found_none p [] h = tt
found_none p (a ∷ rest) h = go (p a) refl (found_none p rest) h
  where
    go : (b : Bool) → p a ≡ b → (found p rest ≡ none → Every (λ i. p i ≡ false) rest)
        → elim b as (λ x. Found) [ true ↦ at a | false ↦ found p rest ] ≡ none
        → (p a ≡ false) × Every (λ i. p i ≡ false) rest
    go true q ih f = absurd (let z : ◌≡◌ {A = ℕ} 0 1 = cc in omega arith)
    go false q ih f = (q, ih f)

pub found-ext : (p q : ℕ → Bool) (l : List ℕ) → Every (λ i. p i ≡ q i) l → found p l ≡ found q l
unfolding found
found-ext p q [] e = refl
found-ext p q (a ∷ rest) e =
    ap₂ (λ b (r : Found). elim b as (λ x. Found) [ true ↦ at a | false ↦ r ]) e.0 (found-ext p q rest e.1)
