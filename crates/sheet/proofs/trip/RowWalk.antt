-- A sheet whose lines 18 to 20 do not refuse: every one of its lines is a line, the last ends where the sheet does, and
-- the lines of each row are those that neither 19 nor 20 refuses.
use Prim.Native.Nat.{ℕ, zero, suc, ◌+◌, ◌-◌, ◌<◌}
use mathlib.Core.Bool.{true, false}
use mathlib.Core.List.{List, [], ◌∷◌}
use mathlib.Core.Path.{◌≡◌, refl, ap, sym, ◌∙◌}
use native.Mathlib.Decide.{dec_lt}
use native.Mathlib.Omega.{arith}
use lib.Dec.{ltb}
use lib.ListN.{length}
use borrow.Author.Tests.{eqb-true, eqb-false, eq-eqb, not-true, lt-ltb, lt-leb}
use Rattle.counting.proofs.tests.TestLaws.{and_both, and_right, never_true}
use Rattle.refusals.specs.Checked.{Checked}
use Rattle.std.specs.Prelude.{Ok}
use Rattle.refusals.specs.FirstMet.{first_met, first_fault_to}
use Rattle.refusals.proofs.FirstMetLaws.{first_fault_to-good}
use Rattle.refusals.proofs.FirstFaultLaws.{test_at, finding_at, first_met-good, first_fault-good}
use Rattle.sheet_line.specs.Line.{is_line, line_in}
use Rattle.sheet_line.proofs.LineLaws.{line-inside}
use Rattle.sheet.specs.Lines.{line_place, line_from, lines_in}
use Rattle.sheet.specs.LineFaults.{
  is_dash,
  is_limit,
  line_tests,
  line_before,
  goes_on,
  line_fault,
  end_tests,
  lines_fault,
}
use Rattle.sheet.specs.SheetRows.{steps_from, row_place, rows_in}
use Rattle.sheet.specs.inner.Narrow.{RowLines}
use Rattle.sheet.proofs.trip.PlaceLaws.{
  line_place-zero,
  line_place-next,
  line_place-mono,
  lines_in-end,
  lines_in-is,
  row_line,
  row_place-line,
  row_place-next,
  row_line-zero,
  row_line-next,
  row_line-place,
  row_line-lt,
  row_line-le,
  steps_from-least,
  steps_from-same,
  steps_from-ends,
  rows_in-before,
  rows_in-end,
}
use Rattle.sheet.proofs.trip.LineTests.{
  NextLine,
  FirstLine,
  tests-there,
  tests-next,
  tests-first,
  lines-row_lines,
}

-- what `lines_fault` finds, in its order
abbrev findings : List ℕ → List Checked
findings bs =
    first_fault_to (line_fault bs) (lines_in bs) ∷ first_met (end_tests (line_before bs (lines_in bs))) ∷ []

-- line j of row i is a line of the sheet
pub row-line : (bs : List ℕ) (i j : ℕ) → line_from bs (row_place bs i) j ≡ line_from bs 0 (row_line bs i + j)
row-line bs i j = ap (line_in bs) (row_line-place bs i j)

module _ (bs : List ℕ) (h : lines_fault bs ≡ Ok tt) where
  found : (k : ℕ) → finding_at (findings bs) k ≡ Ok tt
  unfolding lines_fault
  found = first_fault-good (findings bs) h

  line-tests : (n : ℕ) → n < lines_in bs → (k : ℕ)
      → test_at (line_tests (is_line bs (line_place bs 0 n)) (goes_on bs n) (line_before bs n) (line_from bs 0 n)) k
      ≡ false
  unfolding line_fault
  line-tests n l =
      first_met-good (line_tests (is_line bs (line_place bs 0 n)) (goes_on bs n) (line_before bs n) (line_from bs 0 n))
      (first_fault_to-good (line_fault bs) (lines_in bs) (found 0) n l)

  -- every line of the sheet is a line
  pub each_line : (n : ℕ) → n < lines_in bs → is_line bs (line_place bs 0 n) ≡ true
  each_line n l = tests-there _ _ _ _ (line-tests n l)

  pub next-line : (n : ℕ) → suc n < lines_in bs → goes_on bs (suc n) ≡ true
      → NextLine (line_from bs 0 n) (line_from bs 0 (suc n))
  next-line n l e = tests-next _ _ _ _ (line-tests (suc n) l) e

  pub first-line : (n : ℕ) → n < lines_in bs → goes_on bs n ≡ false → FirstLine (line_before bs n) (line_from bs 0 n)
  first-line n l e = tests-first _ _ _ _ (line-tests n l) e

  -- the last line has no limit
  pub last_line : is_limit (line_before bs (lines_in bs)).mark ≡ false
  last_line = first_met-good (end_tests (line_before bs (lines_in bs))) (found 1) 0

  -- the last line ends where the sheet does
  pub lines_end : line_place bs 0 (lines_in bs) ≡ length bs
  lines_end = go (lines_in bs) refl
    where
      go : (n : ℕ) → lines_in bs ≡ n → line_place bs 0 (lines_in bs) ≡ length bs
      go zero e = omega (arith, lines_in-end bs, line_place-zero bs 0, ap (line_place bs 0) e)
      go (suc n) e =
          let inside = line-inside bs (line_place bs 0 n) (each_line n (omega arith)) in
          omega (arith, inside, lines_in-end bs, line_place-next bs 0 n, ap (line_place bs 0) e)

  -- the last row ends there too
  pub rows_end : row_place bs (rows_in bs) ≡ length bs
  rows_end =
      let last = line_place-mono bs 0 (row_line bs (rows_in bs)) (lines_in bs)
      (row_line-le bs (rows_in bs) (omega arith)) in
      omega (arith, last, lines_end, rows_in-end bs, row_place-line bs (rows_in bs))

  pub row_line-last : row_line bs (rows_in bs) ≡ lines_in bs
  row_line-last = sym (lines_in-is bs (row_line bs (rows_in bs)) (sym (row_place-line bs (rows_in bs)) ∙ rows_end))

-- a row goes on with each of its lines but the first
module _ (bs : List ℕ) (i : ℕ) where
  same_row : (j : ℕ) → j < steps_from bs (row_place bs i)
      → (line_from bs 0 (row_line bs i + j)).identifier ≡ (line_from bs (row_place bs i) 0).identifier
  same_row j l = ap (λ line. line.identifier) (sym (row-line bs i j)) ∙ steps_from-same bs (row_place bs i) j l

  pub row-goes-on : (j : ℕ) → suc j < steps_from bs (row_place bs i) → goes_on bs (suc (row_line bs i + j)) ≡ true
  row-goes-on j l =
      let e : row_line bs i + suc j ≡ suc (row_line bs i + j) = omega arith in
      and_both (ltb 0 (suc (row_line bs i + j))) _ (lt-ltb 0 (suc (row_line bs i + j)) (omega arith))
      (eq-eqb _ _
      (ap (λ n. (line_from bs 0 n).identifier) (sym e) ∙ same_row (suc j) l ∙ sym (same_row j (omega arith))))

  -- a row that is not the last ends with a new identifier
  next-begins : suc i < rows_in bs → goes_on bs (row_line bs (suc i)) ≡ false
  next-begins l =
      let at : ℕ = row_place bs i in
      let steps : ℕ = steps_from bs at in
      let least : 0 < steps = steps_from-least bs at in
      let last : ℕ = row_line bs i + (steps - 1) in
      let e : row_line bs (suc i) ≡ suc last = omega (arith, row_line-next bs i) in
      let before : row_place bs (suc i) < length bs = rows_in-before bs (suc i) l in
      let ends = rw (lt-leb (length bs) (line_place bs at steps) (rw (row_place-next bs i) at before)) at
      (steps_from-ends bs at) in
      let differs : (line_from bs at steps).identifier ≡ (line_from bs at 0).identifier → ⊥ =
      eqb-false _ _ (not-true _ ends) in
      rw e
      (never_true (goes_on bs (suc last))
      (λ t.
      let same = eqb-true (line_from bs 0 (suc last)).identifier (line_from bs 0 last).identifier
      (and_right (ltb 0 (suc last)) _ t) in
      let there : line_from bs at steps ≡ line_from bs 0 (suc last) =
      row-line bs i steps ∙ ap (line_from bs 0) (let e : row_line bs i + steps ≡ suc last = omega arith in e) in
      differs (ap (λ line. line.identifier) there ∙ same ∙ same_row (steps - 1) (omega arith))))

-- a row begins with a new identifier, and the first row with the sheet
pub row-begins : (bs : List ℕ) (i : ℕ) → i < rows_in bs → goes_on bs (row_line bs i) ≡ false
row-begins bs zero l = rw (row_line-zero bs)
row-begins bs (suc i) l = next-begins bs i l

-- the lines of a row are those that neither 19 nor 20 refuses
module _ (bs : List ℕ) (h : lines_fault bs ≡ Ok tt) (i : ℕ) (l : i < rows_in bs) where
  abbrev at : ℕ
  at = row_place bs i

  abbrev steps : ℕ
  steps = steps_from bs at

  next : (j : ℕ) → suc j < steps → NextLine (line_from bs at j) (line_from bs at (suc j))
  next j m =
      let e : row_line bs i + suc j ≡ suc (row_line bs i + j) = omega arith in
      rw (row-line bs i j, row-line bs i (suc j), e)
      (next-line bs h (row_line bs i + j) (omega (arith, row_line-lt bs i (suc j) l m)) (row-goes-on bs i j m))

  first : is_dash (line_from bs at 0).mark ≡ false
  first =
      let e : row_line bs i + 0 ≡ row_line bs i = omega arith in
      let there : row_line bs i < lines_in bs = omega (arith, row_line-lt bs i 0 l (steps_from-least bs at)) in
      rw (row-line bs i 0, e) (first-line bs h (row_line bs i) there (row-begins bs i l)).no-dash

  -- the line before the next row, or before the end
  no-limit : is_limit (line_before bs (row_line bs (suc i))).mark ≡ false
  no-limit =
      elim (dec_lt (suc i) (rows_in bs)) [
        | yes m ↦
            let next = suc i in
            let there = row_line-lt bs next 0 m (steps_from-least bs (row_place bs next)) in
            (first-line bs h (row_line bs next) (omega (arith, there)) (row-begins bs next m)).no-limit
        | no g ↦
            let e : rows_in bs ≡ suc i = omega arith in
            let last : lines_in bs ≡ row_line bs (suc i) = sym (row_line-last bs h) ∙ ap (row_line bs) e in
            rw last at (last_line bs h)
      ]

  last : is_limit (line_from bs at (steps - 1)).mark ≡ false
  last =
      let least : 0 < steps = steps_from-least bs at in
      let e : row_line bs (suc i) ≡ suc (row_line bs i + (steps - 1)) = omega (arith, row_line-next bs i) in
      rw (row-line bs i (steps - 1)) (rw e at no-limit)

  pub read-row_lines : RowLines (line_from bs at) steps
  read-row_lines = lines-row_lines (line_from bs at) steps (steps_from-same bs at) next first last
