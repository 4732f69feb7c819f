-- A search among the first n places of an array that was filled up to n asks just what filled it.
use Prim.Native.Nat.{ℕ, min, ◌≤◌}
use mathlib.Core.Bool.{Bool}
use mathlib.Core.Path.{◌≡◌, ap, ◌∙◌}
use native.Mathlib.Nat.{min-eq_left}
use lib.ListN.{get_or}
use Rattle.counting.specs.Sums.{any_to}
use Rattle.counting.specs.Lists.{filled}
use Rattle.counting.proofs.tests.TestLaws.{any_to-ext}
use Rattle.counting.proofs.lists.ListLaws.{get_or-filled}

module _ {A : Type 0} where
  pub any_to-filled : (p : A → Bool) (f : ℕ → A) (n last : ℕ) (z d : A) → n ≤ last
      → any_to (λ k. p (get_or (filled f n last z) k d)) (min n last) ≡ any_to (λ k. p (f k)) n
  any_to-filled p f n last z d h =
      ap (any_to (λ k. p (get_or (filled f n last z) k d))) (min-eq_left h)
      ∙ any_to-ext (λ k. p (get_or (filled f n last z) k d)) (λ k. p (f k)) n
      (λ k l. ap p (get_or-filled f n last k z d l))
