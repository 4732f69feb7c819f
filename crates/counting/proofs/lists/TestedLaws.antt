-- A test of the members of a list in the library's words, as an iterator asks it: of the first n members, and of those
-- from a place on.
use Rattle.std.proofs.Common.{ℕ, ◌+◌, ◌-◌, Bool, List, [], ◌∷◌, min, length, get_or, take, drop}
use Rattle.std.proofs.Common.{◌≡◌, refl, sym, ◌∙◌, ap, arith, length-drop}
use Rattle.std.specs.Prelude.{◌&&◌, ◌||◌}
use Rattle.std.specs.List.{list_all, list_any}
use Rattle.std.proofs.lemmas.List.{get_or-drop, get_or-take, length-take}
use Rattle.counting.specs.Sums.{any_to, all_to, all_from}
use Rattle.counting.specs.Lists.{any_in}
use Rattle.counting.proofs.lists.MemberLaws.{any_in-take}
use Rattle.counting.proofs.tests.TestLaws.{all_to-ext}
use Rattle.counting.proofs.tests.FromLaws.{all_to-first}

module _ {A : Type 0} (p : A → Bool) where
  pub any_in-list_any : (l : List A) → any_in p l ≡ list_any p l
  unfolding any_in
  any_in-list_any [] = refl
  any_in-list_any (a ∷ l) = ap (λ t. p a || t) (any_in-list_any l)

  pub list_any-take : (z : A) (n m : ℕ) (l : List A) → length l ≡ m
      → list_any p (take n l) ≡ any_to (λ k. p (get_or l k z)) (min n m)
  list_any-take z n m l e = sym (any_in-list_any (take n l)) ∙ any_in-take p z n m l e

  list_all-all_to : (z : A) (l : List A) → list_all p l ≡ all_to (λ k. p (get_or l k z)) (length l)
  unfolding all_to
  list_all-all_to z [] = refl
  list_all-all_to z (a ∷ l) =
      ap (λ t. p a && t) (list_all-all_to z l) ∙ sym (all_to-first (λ k. p (get_or (a ∷ l) k z)) (length l))

  pub list_all-take : (z : A) (n m : ℕ) (l : List A) → length l ≡ m
      → list_all p (take n l) ≡ all_to (λ k. p (get_or l k z)) (min n m)
  list_all-take z n m l e =
      let long : length (take n l) ≡ min n m = length-take n l ∙ ap (min n) e in
      list_all-all_to z (take n l)
      ∙ ap (all_to (λ k. p (get_or (take n l) k z))) long
      ∙ all_to-ext (λ k. p (get_or (take n l) k z)) (λ k. p (get_or l k z)) (min n m)
      (λ k below. ap p (get_or-take n l k z (omega arith)))

  pub list_all-drop : (z : A) (a m : ℕ) (l : List A) → length l ≡ m
      → list_all p (drop a l) ≡ all_from (λ k. p (get_or l k z)) a m
  list_all-drop z a m l e =
      list_all-all_to z (drop a l)
      ∙ ap (all_to (λ k. p (get_or (drop a l) k z))) (length-drop a l ∙ ap (λ n. n - a) e)
      ∙ all_to-ext (λ k. p (get_or (drop a l) k z)) (λ k. p (get_or l (a + k) z)) (m - a)
      (λ k below. ap p (get_or-drop a l k z))
