-- A fold over slots, from a place on: one slot is taken off, and at the end none is left. So a loop over lent slots may
-- keep that the fold of the slots from its place on gives what the fold of them all does.
use Prim.Native.Nat.{ℕ, zero, suc, ◌+◌, ◌≤◌, ◌<◌}
use native.Mathlib.Nat.{le_of_suc-le-suc, not-suc-le-zero}
use mathlib.Core.List.{List, [], ◌∷◌, foldl}
use mathlib.Core.Path.{◌≡◌, refl, ap, sym, ◌∙◌}
use native.Mathlib.Numerals.{add-one}
use lib.ListN.{length, drop}
use Rattle.rules.specs.declared.Slot.{Slot}
use Rattle.rules.specs.Slots.{slot_at}

module _ {A : Type 0} (f : A → Slot → A) where
  pub fold_next : (slots : List Slot) (i : ℕ) (a : A) → i < length slots
      → foldl f a (drop i slots) ≡ foldl f (f a (slot_at slots i)) (drop (suc i) slots)
  fold_next [] i a l = absurd (not-suc-le-zero l)
  fold_next (slot ∷ rest) zero a l = refl
  fold_next (slot ∷ rest) (suc i) a l = fold_next rest i a (le_of_suc-le-suc l)

  pub fold_end : (slots : List Slot) (i : ℕ) (a : A) → length slots ≤ i → foldl f a (drop i slots) ≡ a
  fold_end [] zero a l = refl
  fold_end [] (suc i) a l = refl
  fold_end (slot ∷ rest) zero a l = absurd (not-suc-le-zero l)
  fold_end (slot ∷ rest) (suc i) a l = fold_end rest i a (le_of_suc-le-suc l)

  -- a turn of a loop over the slots
  pub fold-turn : (slots : List Slot) (i : ℕ) (a next : A) → i < length slots → next ≡ f a (slot_at slots i)
      → foldl f next (drop (i + 1) slots) ≡ foldl f a (drop i slots)
  fold-turn slots i a next l e =
      ap (λ (k : ℕ). foldl f next (drop k slots)) (add-one i)
      ∙ (ap (λ (b : A). foldl f b (drop (suc i) slots)) e ∙ sym (fold_next slots i a l))
