-- Any two results that meet a call's contract are equal; and the one contract that is no equation is met by a result.
use Prim.Native.Nat.{ℕ, min}
use mathlib.Core.Bool.{Bool}
use mathlib.Core.List.{List}
use mathlib.Core.Path.{◌≡◌, refl, ap, sym, ◌∙◌}
use Rattle.load.specs.declared.Row.{Row}
use Rattle.load.specs.declared.Window.{Window}
use Rattle.load.specs.Load.{most_rows}
use Rattle.plan.specs.declared.Look.{Look}
use Rattle.plan.specs.declared.Board.{Board}
use Rattle.plan.specs.declared.Chosen.{Chosen}
use Rattle.plan.specs.Choices.{chosen_in, next_moment, row_or}
use Rattle.plan.specs.Calls.{
  OpenWindow,
  LookOf,
  LookAt,
  PutLook,
  OpeningAfter,
  ChosenRow,
  NextStart,
}

pub OpenWindow-unique : (row : Row) (finished : ℕ) (r s : Window) → OpenWindow row finished r
    → OpenWindow row finished s → r ≡ s
OpenWindow-unique row finished r s p q = p ∙ sym q

pub LookOf-unique : (row : Row) (finished end opening : ℕ) (r s : Look) → LookOf row finished end opening r
    → LookOf row finished end opening s → r ≡ s
LookOf-unique row finished end opening r s p q = p ∙ sym q

pub LookAt-unique : (board : Board) (i : ℕ) (r s : Look) → LookAt board i r → LookAt board i s → r ≡ s
LookAt-unique board i r s p q = p ∙ sym q

pub PutLook-unique : (board : Board) (i : ℕ) (look : Look) (r s : Board) → PutLook board i look r
    → PutLook board i look s → r ≡ s
PutLook-unique board i look r s p q = p ∙ sym q

pub OpeningAfter-unique : (stays opened : Bool) (opening clock r s : ℕ) → OpeningAfter stays opened opening clock r
    → OpeningAfter stays opened opening clock s → r ≡ s
OpeningAfter-unique stays opened opening clock r s p q = p ∙ sym q

pub ChosenRow-unique : (board : Board) (classes : List ℕ) (clock rows r s : ℕ) → ChosenRow board classes clock rows r
    → ChosenRow board classes clock rows s → r ≡ s
ChosenRow-unique board classes clock rows r s p q = p ∙ sym q

-- what starts next, and when, is one row and one moment
pub NextStart-unique : (board : Board) (classes : List ℕ) (clock rows : ℕ) (r s : Chosen)
    → NextStart board classes clock rows r → NextStart board classes clock rows s → r ≡ s
NextStart-unique board classes clock rows r s p q =
    let last = min rows most_rows in
    let moment : r.moment ≡ s.moment = p.0 ∙ sym q.0 in
    let row : r.row ≡ s.row = p.1 ∙ (ap (λ t. row_or last (chosen_in board classes t last)) moment ∙ sym q.1) in
    λ i. record { row = row i; moment = moment i }

-- and there always is such a row, or none, and such a moment
pub next_start : Board → List ℕ → ℕ → ℕ → Chosen
next_start board classes clock rows =
    let last = min rows most_rows in
    let moment = next_moment board classes clock last in
    record { row = row_or last (chosen_in board classes moment last); moment = moment }

pub NextStart-met : (board : Board) (classes : List ℕ) (clock rows : ℕ)
    → NextStart board classes clock rows (next_start board classes clock rows)
unfolding next_start
NextStart-met board classes clock rows = (refl, refl)
