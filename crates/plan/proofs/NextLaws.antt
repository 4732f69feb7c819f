-- The moment at which a step starts next: nothing is chosen before it, and it is the only such moment.
use Prim.Native.Nat.{ℕ, ◌+◌, ◌-◌, min, max, ◌≤◌, ◌<◌}
use mathlib.Core.Bool.{Bool, true, false}
use mathlib.Core.List.{List}
use mathlib.Core.Path.{◌≡◌, refl, ap, sym, ◌∙◌, subst}
use native.Mathlib.Decide.{dec_lt}
use native.Mathlib.Omega.{arith}
use Rattle.counting.specs.Searches.{Found, at, none, is_found, first_to}
use Rattle.counting.proofs.tests.TestLaws.{true-false}
use Rattle.counting.proofs.searches.FirstToLaws.{IsFirst, first_to-first, first_to-unique}
use Rattle.load.specs.Load.{most_rows, most_steps, last_moment}
use Rattle.plan.specs.declared.Chosen.{Chosen}
use Rattle.plan.specs.declared.Board.{Board}
use Rattle.plan.specs.Boards.{look_in}
use Rattle.plan.specs.Choices.{chosen_in, next_moment, row_or}
use Rattle.plan.specs.Calls.{ChosenRow, NextStart}
use Rattle.plan.specs.inner.Turns.{PassedTo, SweptTo, StartsBefore}
use Rattle.plan.proofs.SearchLaws.{candidate-ends, none-chosen}
use Rattle.plan.proofs.SweepLaws.{passed-every, passed_none, chosen_is}

-- nothing is chosen from the clock on and before a moment, 1,000,000 at the latest
pub record QuietBefore (board : Board) (classes : List ℕ) (clock rows m : ℕ) : Type 0 where
  pub from : clock ≤ m
  pub most : m ≤ max clock last_moment
  pub none_before : (t : ℕ) → clock ≤ t → t < m → chosen_in board classes t rows ≡ none

pub none_found : (f : Found) → is_found f ≡ false → f ≡ none
none_found (at i) e = absurd (true-false true refl e)
none_found none e = refl

-- what is no row was not found
pub found-row : (rows : ℕ) (f : Found) → row_or rows f < rows → is_found f ≡ true
found-row rows (at i) l = refl
found-row rows none l = absurd (omega arith)

module _ (board : Board) (classes : List ℕ) (clock rows : ℕ) where
  starts : ℕ → Bool
  starts d = is_found (chosen_in board classes (clock + d) rows)

  -- the next moment is such a moment
  pub next_moment-quiet : QuietBefore board classes clock rows (next_moment board classes clock rows)
  unfolding starts
  next_moment-quiet =
      let f = first_to-first starts (last_moment - clock) in
      record {
        from = omega arith;
        most = omega (arith, f.most);
        none_before = λ t a b.
            let e : clock + (t - clock) ≡ t = omega arith in
            subst (λ x. chosen_in board classes x rows ≡ none) e
            (none_found (chosen_in board classes (clock + (t - clock)) rows) (f.before (t - clock) (omega arith)));
      }

  -- and any such moment at which something is chosen, or before which there is none to come, is the next
  pub next_moment-is : (m : ℕ) → QuietBefore board classes clock rows m
      → (m < last_moment → is_found (chosen_in board classes m rows) ≡ true) → m ≡ next_moment board classes clock rows
  unfolding starts
  next_moment-is m q h =
      let e : clock + (m - clock) ≡ m = omega (arith, q.from) in
      let first : IsFirst starts (last_moment - clock) (m - clock) =
      record {
        most = omega (arith, q.most);
        before = λ k l. ap is_found (q.none_before (clock + k) (omega arith) (omega arith));
        has = λ l. subst (λ x. is_found (chosen_in board classes x rows) ≡ true) (sym e) (h (omega arith));
      } in
      sym e ∙ ap (λ d. clock + d)
      (first_to-unique starts (last_moment - clock) (m - clock) (first_to starts (last_moment - clock)) first
      (first_to-first starts (last_moment - clock)))

-- what is chosen of at most 24 rows
pub chosen-most : (board : Board) (classes : List ℕ) (clock rows last r : ℕ) → last ≡ min rows most_rows
    → ChosenRow board classes clock last r → ChosenRow board classes clock rows r
chosen-most board classes clock rows last r e c =
    let same : min last most_rows ≡ min rows most_rows = omega (arith, e) in
    subst (λ n. r ≡ row_or n (chosen_in board classes clock n)) same c

-- the row at the next moment, of at most 24 rows
pub next_start : (board : Board) (classes : List ℕ) (clock rows last : ℕ) (r : Chosen) → last ≡ min rows most_rows
    → QuietBefore board classes clock last r.moment → ChosenRow board classes r.moment last r.row
    → (r.moment < last_moment → r.row < last) → NextStart board classes clock rows r
next_start board classes clock rows last r e q c h =
    let most : min last most_rows ≡ last = omega (arith, e) in
    let row : r.row ≡ row_or last (chosen_in board classes r.moment last) =
    subst (λ n. r.row ≡ row_or n (chosen_in board classes r.moment n)) most c in (
      subst (λ n. r.moment ≡ next_moment board classes clock n) e
          (next_moment-is board classes clock last r.moment q
          (λ l. found-row last (chosen_in board classes r.moment last) (subst (λ x. x < last) row (h l)))),
      chosen-most board classes r.moment rows last r.row e c,
    )

module _ (board : Board) (classes : List ℕ) (clock last : ℕ) where
  -- nothing is chosen past 1,000,000
  none-past : (t : ℕ) → last_moment < t → chosen_in board classes t last ≡ none
  none-past t l =
      none-chosen board t last classes (λ k b c. absurd (omega (arith, candidate-ends (look_in board k) t _ c)))

  chosen_none : (t : ℕ) → last ≤ most_rows → chosen_in board classes t last ≡ none → ChosenRow board classes t last last
  chosen_none t most e =
      let same : last ≡ min last most_rows = omega arith in
      subst (λ n. last ≡ row_or n (chosen_in board classes t n)) same (ap (row_or last) (sym e))

  pub chosen-past : last ≤ most_rows → last_moment < clock → ChosenRow board classes clock last last
  chosen-past most l = chosen_none clock most (none-past clock l)

  pub next_past : (rows : ℕ) → last ≡ min rows most_rows → last_moment < clock
      → NextStart board classes clock rows (record { row = last; moment = clock })
  next_past rows e l =
      next_start board classes clock rows last (record { row = last; moment = clock }) e
      (record { from = omega arith; most = omega arith; none_before = λ t a b. absurd (omega arith) })
      (chosen-past (omega (arith, e)) l)
      (λ h. absurd (omega arith))

  -- a row is chosen at the clock
  pub next-now : (rows row : ℕ) → last ≡ min rows most_rows → clock ≤ last_moment
      → ChosenRow board classes clock last row
      → row < last → NextStart board classes clock rows (record { row = row; moment = clock })
  next-now rows row e early c l =
      next_start board classes clock rows last (record { row = row; moment = clock }) e
      (record { from = omega arith; most = omega arith; none_before = λ t a b. absurd (omega arith) }) c (λ h. l)

  -- the rows were swept up to a moment before which one starts, or past 1,000,000
  module _ (before row soonest : ℕ) (starts : StartsBefore board clock last before)
      (swept : SweptTo board classes clock before last (PassedTo board classes last most_steps 0) row soonest) where
    quiet : (t : ℕ) → clock ≤ t → t < soonest → chosen_in board classes t last ≡ none
    quiet t a b = passed_none board classes last most_steps t 0 (omega arith) (swept.quiet t a b)

    pub next-swept : (rows moment : ℕ) → last ≡ min rows most_rows → clock ≤ last_moment
        → moment ≡ min soonest last_moment → NextStart board classes clock rows (record { row = row; moment = moment })
    next-swept rows moment e early m =
        elim (dec_lt row last) [
          | yes l ↦
              let in-time : soonest ≤ last_moment = omega (arith, swept.earlier l, starts.most) in
              let same : moment ≡ soonest = omega (arith, m) in
              subst (λ t. NextStart board classes clock rows (record { row = row; moment = t })) (sym same)
              (next_start board classes clock rows last (record { row = row; moment = soonest }) e
              (record { from = swept.from l; most = omega arith; none_before = quiet })
              (chosen_is board classes soonest last (omega (arith, e)) (at row) (swept.found l))
              (λ h. l))
          | no l ↦
              let all : soonest ≡ before = swept.none_yet (omega arith) in
              elim (dec_lt last_moment before) [
                | yes past ↦
                    let same : moment ≡ last_moment = omega (arith, m, all) in
                    let none_left : row ≡ last = omega (arith, swept.row-most) in
                    subst (λ r. NextStart board classes clock rows r)
                    (λ n. record { row = sym none_left n; moment = sym same n })
                    (next_start board classes clock rows last (record { row = last; moment = last_moment }) e
                    (record {
                      from = early;
                      most = omega arith;
                      none_before = λ t a b. quiet t a (omega (arith, all));
                    })
                    (chosen_none last_moment (omega (arith, e)) (quiet last_moment early (omega (arith, all))))
                    (λ h. absurd (omega arith)))
                | no past ↦
                    absurd
                    (starts.starts (omega arith)
                    (λ t i a b l. passed-every board classes last most_steps t 0 (omega arith)
                    (swept.quiet t a (omega (arith, all))) i l))
              ]
        ]
