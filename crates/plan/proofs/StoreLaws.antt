-- A list in memory is what is read at its places, and a store changes what is read at one of them.
use Prim.Native.Nat.{ℕ, ◌<◌}
use mathlib.Core.List.{List}
use mathlib.Core.Logic.{◌≢◌}
use mathlib.Core.Path.{◌≡◌, sym, ◌∙◌, subst}
use native.Mathlib.Decide.{ℕ_discrete}
use native.Mathlib.Omega.{arith}
use lib.ListN.{length, get_or, set}
use lib.Seq.{ext_get_or, get_or-set_same, get_or-set_other}
use Rattle.counting.specs.Lists.{list_to}
use Rattle.counting.proofs.lists.ListLaws.{list_to-length, get_or-list_to}

module _ {A : Type 0} (z : A) where
  pub list_to-read : (l : List A) (n : ℕ) → length l ≡ n → list_to (λ i. get_or l i z) n ≡ l
  list_to-read l n e =
      let size = list_to-length (λ k. get_or l k z) n in
      ext_get_or z (list_to (λ k. get_or l k z) n) l (size ∙ sym e)
      (λ i h. get_or-list_to (λ k. get_or l k z) n i z (omega arith))

  -- what holds of the value that is stored, and at the other places of what was read there, holds of what is read
  pub stored : (P : ℕ → A → Type 0) (l : List A) (i : ℕ) (v : A) → i < length l → P i v → (k : ℕ)
      → (k ≢ i → P k (get_or l k z)) → P k (get_or (set l i v) k z)
  stored P l i v inside here k there =
      elim (ℕ_discrete k i) [
        | yes q ↦ rw (q, get_or-set_same l i v z inside) here
        | no q ↦ subst (P k) (sym (get_or-set_other l i k v z q)) (there q)
      ]
