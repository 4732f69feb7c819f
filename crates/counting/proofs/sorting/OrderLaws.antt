-- A list sorted by a total order: the order between members decides, and members taken away before sorting or after
-- it give the same list.
use mathlib.Core.Bool.{Bool, true, false, cond}
use mathlib.Core.List.{List, [], ◌∷◌, ◌++◌}
use mathlib.Core.Path.{◌≡◌, refl, ap, ap₂, sym, ◌∙◌}
use Rattle.counting.specs.Lists.{keep_in}
use Rattle.counting.specs.Sorting.{inserted, sorted}
use Rattle.counting.proofs.sorting.SortLaws.{Every, IsOrder, InOrder, Every-map, Every-sorted, sorted-in-order}
use Rattle.counting.proofs.lists.KeepLaws.{every-keep_in}

module _ {A : Type 0} where
  -- sorting looks at the order between members only
  module _ (P : A → Type 0) (before before' : A → A → Bool)
      (same : (a c : A) → P a → P c → before a c ≡ before' a c) where
    inserted-ext : (a : A) (l : List A) → P a → Every P l → inserted before a l ≡ inserted before' a l
    unfolding inserted
    inserted-ext a [] p e = refl
    inserted-ext a (c ∷ cs) p e =
        ap₂ (λ b l. cond b (a ∷ c ∷ cs) (c ∷ l)) (same a c p e.0) (inserted-ext a cs p e.1)

    pub sorted_ext : (l : List A) → Every P l → sorted before l ≡ sorted before' l
    unfolding sorted
    sorted_ext [] e = refl
    sorted_ext (a ∷ rest) e =
        ap (inserted before a) (sorted_ext rest e.1)
        ∙ inserted-ext a (sorted before' rest) e.0 (Every-sorted before' P rest e.1)

  -- a member stands behind all those that it may not stand before
  pub inserted-past : (before : A → A → Bool) (a : A) (l m : List A) → Every (λ c. before a c ≡ false) l
      → inserted before a (l ++ m) ≡ l ++ inserted before a m
  unfolding inserted
  inserted-past before a [] m e = refl
  inserted-past before a (c ∷ cs) m e = rw (e.0, inserted-past before a cs m e.1)

  module _ (before : A → A → Bool) (order : IsOrder before) where
    inserted-front : (a : A) (l : List A) → Every (λ c. before a c ≡ true) l → inserted before a l ≡ a ∷ l
    unfolding inserted
    inserted-front a [] e = refl
    inserted-front a (c ∷ cs) e = ap (λ b. cond b (a ∷ c ∷ cs) (c ∷ inserted before a cs)) e.0

    module _ (q : A → Bool) where
      keep_in-inserted-kept : (a : A) (l : List A) → q a ≡ true → InOrder before l
          → keep_in q (inserted before a l) ≡ inserted before a (keep_in q l)
      unfolding inserted keep_in
      keep_in-inserted-kept a [] h r = rw h
      keep_in-inserted-kept a (c ∷ cs) h r =
          go (before a c) refl (q c) refl (keep_in-inserted-kept a cs h r.1)
        where
          go : (b : Bool) → before a c ≡ b → (d : Bool) → q c ≡ d
              → keep_in q (inserted before a cs) ≡ inserted before a (keep_in q cs)
              → keep_in q (cond b (a ∷ c ∷ cs) (c ∷ inserted before a cs))
              ≡ inserted before a (cond d (c ∷ keep_in q cs) (keep_in q cs))
          go true e true f ih =
              let z : Every (λ x. before a x ≡ true) (keep_in q cs)
              = every-keep_in (λ x. before a x ≡ true) q cs
              (Every-map (λ x. before c x ≡ true) (λ x. before a x ≡ true) cs
              (λ x. order.through a c x e) r.0) in
              rw (h, f) (sym (inserted-front a (c ∷ keep_in q cs) (e, z)))
          go true e false f ih =
              let z : Every (λ x. before a x ≡ true) (keep_in q cs)
              = every-keep_in (λ x. before a x ≡ true) q cs
              (Every-map (λ x. before c x ≡ true) (λ x. before a x ≡ true) cs
              (λ x. order.through a c x e) r.0) in
              rw (h, f) (sym (inserted-front a (keep_in q cs) z))
          go false e true f ih =
              rw (f, ih) (ap (λ b. cond b (a ∷ c ∷ keep_in q cs) (c ∷ inserted before a (keep_in q cs))) (sym e))
          go false e false f ih = rw f ih

      keep_in-inserted-gone : (a : A) (l : List A) → q a ≡ false → keep_in q (inserted before a l) ≡ keep_in q l
      unfolding inserted keep_in
      keep_in-inserted-gone a [] h = rw h
      keep_in-inserted-gone a (c ∷ cs) h = go (before a c) (keep_in-inserted-gone a cs h)
        where
          go : (b : Bool) → keep_in q (inserted before a cs) ≡ keep_in q cs
              → keep_in q (cond b (a ∷ c ∷ cs) (c ∷ inserted before a cs))
              ≡ cond (q c) (c ∷ keep_in q cs) (keep_in q cs)
          go true ih = rw h
          go false ih = rw ih

      -- members taken away before or after sorting
      pub keep_in-sorted : (l : List A) → keep_in q (sorted before l) ≡ sorted before (keep_in q l)
      unfolding sorted keep_in
      keep_in-sorted [] = refl
      keep_in-sorted (a ∷ rest) = go (q a) refl (keep_in-sorted rest)
        where
          go : (b : Bool) → q a ≡ b → keep_in q (sorted before rest) ≡ sorted before (keep_in q rest)
              → keep_in q (inserted before a (sorted before rest))
              ≡ sorted before (cond b (a ∷ keep_in q rest) (keep_in q rest))
          go true e ih =
              keep_in-inserted-kept a (sorted before rest) e (sorted-in-order before order rest)
              ∙ ap (inserted before a) ih
          go false e ih = keep_in-inserted-gone a (sorted before rest) e ∙ ih
