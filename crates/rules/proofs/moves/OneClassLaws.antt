-- A load of one class throughout has the moves it had: its candidates stand by step number, then row.
use Prim.Native.Nat.{ℕ, ◌-◌}
use mathlib.Core.Path.{◌≡◌, ap}
use Rattle.counting.specs.Searches.{found}
use Rattle.counting.proofs.sorting.KeysLaws.{sorted-alike}
use Rattle.load.specs.Load.{most_class}
use Rattle.load.specs.View.{View}
use Rattle.rules.specs.State.{State}
use Rattle.rules.specs.Ready.{is_candidate, classes_above, candidates}
use Rattle.rules.specs.Move.{passes, chosen, move_with, move_by, move}
use Rattle.rules.specs.OneClass.{AllOfClass, candidates_by_row, chosen_by_row, move_by_row}

module _ (L : View) (s : State) (class : ℕ) (one : AllOfClass L class) where
  pub one_class : candidates L s ≡ candidates_by_row L s
  unfolding candidates candidates_by_row
  one_class =
      sorted-alike s.finished (classes_above L) (is_candidate L s) L.rows (most_class - class)
      (λ i l. ap (λ n. most_class - n) (one i l))

  pub one-class-chosen : chosen L s ≡ chosen_by_row L s
  unfolding chosen chosen_by_row
  one-class-chosen = ap (found (passes L s)) one_class

  pub one-class-move_by : (long : ℕ → ℕ → ℕ) → move_by long L s ≡ move_with long L s (chosen_by_row L s)
  unfolding move_by
  one-class-move_by long = ap (move_with long L s) one-class-chosen

  pub one-class-move : move L s ≡ move_by_row L s
  one-class-move = one-class-move_by L.cost
