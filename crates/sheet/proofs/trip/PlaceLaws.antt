-- Where lines and rows stand. Line places rise, so the search for the sheet's end finds the first place there; the
-- lines behind a line are those behind it in the sheet; and row i begins with line `row_line bs i`.
use Prim.Native.Nat.{ℕ, zero, suc, ◌+◌, ◌-◌, ◌≤◌, ◌<◌}
use mathlib.Core.Bool.{true, false}
use mathlib.Core.List.{List}
use mathlib.Core.Path.{◌≡◌, refl, ap, sym, ◌∙◌}
use native.Mathlib.Decide.{dec_lt}
use native.Mathlib.Omega.{arith}
use lib.Dec.{leb}
use lib.ListN.{length}
use borrow.Author.Tests.{leb-true, leb-false, le-leb, lt-leb, eqb-true, not-false}
use Rattle.counting.specs.Searches.{first_to}
use Rattle.counting.proofs.tests.TestLaws.{or_left, or_right}
use Rattle.counting.proofs.searches.FirstToLaws.{first_to-first, first_to-unique, first_to-has}
use Rattle.sheet_line.specs.Line.{next_line}
use Rattle.sheet_line.proofs.LineLaws.{next_line-lt}
use Rattle.sheet.specs.Lines.{line_place, line_from, reaches_end, lines_in}
use Rattle.sheet.specs.SheetRows.{row_ends, steps_from, row_place, rows_in}

-- places that rise, and the first of them that is not before an end
module _ (place : ℕ → ℕ) (rises : (n : ℕ) → place n < place (suc n)) where
  rises_by : (m d : ℕ) → place m + d ≤ place (m + d)
  rises_by m zero = let e : m ≡ m + 0 = omega arith in rw (← e) (omega arith)
  rises_by m (suc d) =
      let e : m + suc d ≡ suc (m + d) = omega arith in
      rw e (omega (arith, rises_by m d, rises (m + d)))

  rises-far : (m n : ℕ) → m ≤ n → place m + (n - m) ≤ place n
  rises-far m n h = let e : m + (n - m) ≡ n = omega arith in rw e at (rises_by m (n - m))

  module _ (end : ℕ) where
    abbrev reached : ℕ
    reached = first_to (λ n. leb end (place n)) end

    reached-before : (n : ℕ) → n < reached → place n < end
    reached-before n l = leb-false end (place n) ((first_to-first (λ n. leb end (place n)) end).before n l)

    reached-end : end ≤ place reached
    reached-end =
        leb-true end (place reached)
        (first_to-has (λ n. leb end (place n)) end
        (le-leb end (place end) (omega (arith, rises-far 0 end (omega arith)))))

    reached-is : (n : ℕ) → place n ≡ end → reached ≡ n
    reached-is n e =
        first_to-unique (λ n. leb end (place n)) end reached n
        (first_to-first (λ n. leb end (place n)) end)
        (record {
          most = omega (arith, rises-far 0 n (omega arith));
          before = λ k l. lt-leb end (place k) (omega (arith, rises-far k n (omega arith)));
          has = λ l. le-leb end (place n) (omega arith);
        })

module _ (bs : List ℕ) where
  pub line_place-zero : (at : ℕ) → line_place bs at 0 ≡ at
  unfolding line_place
  line_place-zero at = refl

  pub line_place-next : (at n : ℕ) → line_place bs at (suc n) ≡ next_line bs (line_place bs at n)
  unfolding line_place
  line_place-next at n = refl

  pub line_place-add : (at m n : ℕ) → line_place bs at (m + n) ≡ line_place bs (line_place bs at m) n
  unfolding line_place
  line_place-add at m zero = let e : m + 0 ≡ m = omega arith in ap (line_place bs at) e
  line_place-add at m (suc n) =
      let e : m + suc n ≡ suc (m + n) = omega arith in
      ap (line_place bs at) e ∙ ap (next_line bs) (line_place-add at m n)

  -- each line stands behind the one before it
  pub line_place-lt : (at n : ℕ) → line_place bs at n < line_place bs at (suc n)
  line_place-lt at n = rw (line_place-next at n) (next_line-lt bs (line_place bs at n))

  pub line_place-mono : (at m n : ℕ) → m ≤ n → line_place bs at m + (n - m) ≤ line_place bs at n
  line_place-mono at = rises-far (line_place bs at) (line_place-lt at)

  pub line_place-rises : (at n : ℕ) → at + n ≤ line_place bs at n
  line_place-rises at n = omega (arith, line_place-mono at 0 n (omega arith), line_place-zero at)

  -- the lines of the sheet are those that stand before its end
  pub lines_in-before : (n : ℕ) → n < lines_in bs → line_place bs 0 n < length bs
  unfolding lines_in
  lines_in-before = reached-before (line_place bs 0) (line_place-lt 0) (length bs)

  pub lines_in-end : length bs ≤ line_place bs 0 (lines_in bs)
  unfolding lines_in
  lines_in-end = reached-end (line_place bs 0) (line_place-lt 0) (length bs)

  pub lines_in-is : (n : ℕ) → line_place bs 0 n ≡ length bs → lines_in bs ≡ n
  unfolding lines_in
  lines_in-is = reached-is (line_place bs 0) (line_place-lt 0) (length bs)

  -- a line before the end is a line of the sheet
  pub lines_in-lt : (n : ℕ) → line_place bs 0 n < length bs → n < lines_in bs
  lines_in-lt n l =
      elim (dec_lt n (lines_in bs)) [
        | yes h ↦ h
        | no g ↦ absurd (omega (arith, lines_in-end, line_place-mono 0 (lines_in bs) n (omega arith)))
      ]

  -- the number of the line with which row i begins
  unfoldable pub row_line : ℕ → ℕ
  row_line zero = 0
  row_line (suc i) = row_line i + steps_from bs (row_place bs i)

  pub row_place-line : (i : ℕ) → row_place bs i ≡ line_place bs 0 (row_line i)
  unfolding row_place line_place row_line
  row_place-line zero = refl
  row_place-line (suc i) =
      let steps = steps_from bs (row_place bs i) in
      ap (λ at. line_place bs at steps) (row_place-line i) ∙ sym (line_place-add 0 (row_line i) steps)

  pub row_place-zero : row_place bs 0 ≡ 0
  unfolding row_place
  row_place-zero = refl

  pub row_place-next : (i : ℕ) → row_place bs (suc i) ≡ line_place bs (row_place bs i) (steps_from bs (row_place bs i))
  unfolding row_place
  row_place-next i = refl

  pub row_line-zero : row_line 0 ≡ 0
  unfolding row_line
  row_line-zero = refl

  pub row_line-next : (i : ℕ) → row_line (suc i) ≡ row_line i + steps_from bs (row_place bs i)
  unfolding row_line
  row_line-next i = refl

  -- line j of row i is a line of the sheet
  pub row_line-place : (i j : ℕ) → line_place bs (row_place bs i) j ≡ line_place bs 0 (row_line i + j)
  row_line-place i j = ap (λ at. line_place bs at j) (row_place-line i) ∙ sym (line_place-add 0 (row_line i) j)

  -- the row that begins at a place
  module _ (at : ℕ) where
    pub steps_from-least : 0 < steps_from bs at
    unfolding steps_from
    steps_from-least = omega arith

    -- it goes on at each line but its first
    goes_on : (n : ℕ) → suc n < steps_from bs at → row_ends bs at (suc n) ≡ false
    unfolding steps_from
    goes_on n l = (first_to-first (λ n. row_ends bs at (suc n)) (length bs)).before n (omega arith)

    pub steps_from-inside : (n : ℕ) → at < length bs → n < steps_from bs at → line_place bs at n < length bs
    steps_from-inside zero h l = rw (line_place-zero at) h
    steps_from-inside (suc n) h l = leb-false (length bs) (line_place bs at (suc n)) (or_left _ _ (goes_on n l))

    pub steps_from-same : (n : ℕ) → n < steps_from bs at
        → (line_from bs at n).identifier ≡ (line_from bs at 0).identifier
    steps_from-same zero l = refl
    steps_from-same (suc n) l = eqb-true _ _ (not-false _ (or_right (reaches_end bs at (suc n)) _ (goes_on n l)))

    -- and has ended behind its last
    pub steps_from-ends : row_ends bs at (steps_from bs at) ≡ true
    unfolding steps_from
    steps_from-ends =
        let far : length bs ≤ line_place bs at (suc (length bs)) =
        omega (arith, line_place-rises at (suc (length bs))) in
        first_to-has (λ n. row_ends bs at (suc n)) (length bs) (rw (le-leb _ _ far))

    -- a row that goes on at each line below n but its first, and ends there, has n lines
    pub steps_from-is : (n : ℕ) → 0 < n → n ≤ suc (length bs)
        → ((k : ℕ) → suc k < n → row_ends bs at (suc k) ≡ false) → row_ends bs at n ≡ true
        → steps_from bs at ≡ n
    unfolding steps_from
    steps_from-is zero least h going ends = absurd (omega arith)
    steps_from-is (suc n) least h going ends =
        ap suc
        (first_to-unique (λ n. row_ends bs at (suc n)) (length bs) _ n
        (first_to-first (λ n. row_ends bs at (suc n)) (length bs))
        (record { most = omega arith; before = λ k l. going k (omega arith); has = λ l. ends }))

  -- each row begins behind the one before it
  pub row_place-lt : (i : ℕ) → row_place bs i < row_place bs (suc i)
  row_place-lt i =
      let at = row_place bs i in
      rw (row_place-next i) (omega (arith, line_place-rises at (steps_from bs at), steps_from-least at))

  pub rows_in-before : (i : ℕ) → i < rows_in bs → row_place bs i < length bs
  unfolding rows_in
  rows_in-before = reached-before (row_place bs) row_place-lt (length bs)

  pub rows_in-end : length bs ≤ row_place bs (rows_in bs)
  unfolding rows_in
  rows_in-end = reached-end (row_place bs) row_place-lt (length bs)

  pub rows_in-is : (n : ℕ) → row_place bs n ≡ length bs → rows_in bs ≡ n
  unfolding rows_in
  rows_in-is = reached-is (row_place bs) row_place-lt (length bs)

  -- the lines of a row are lines of the sheet
  pub row_line-lt : (i j : ℕ) → i < rows_in bs → j < steps_from bs (row_place bs i) → row_line i + j < lines_in bs
  row_line-lt i j l h =
      lines_in-lt (row_line i + j)
      (rw (row_line-place i j) at (steps_from-inside (row_place bs i) j (rows_in-before i l) h))

  pub row_line-le : (i : ℕ) → i ≤ rows_in bs → row_line i ≤ lines_in bs
  unfolding row_line
  row_line-le zero l = omega arith
  row_line-le (suc i) l =
      let steps : ℕ = steps_from bs (row_place bs i) in
      let least : 0 < steps = steps_from-least (row_place bs i) in
      omega (arith, row_line-lt i (steps - 1) l (omega arith))
