-- The lines of a written sheet are not refused: line j of row i is the line of its step j, the tests inside a row are
-- what a row's lines have, and a row begins with a new identifier, behind a row that does not end with a limit.
use Prim.Native.Nat.{ℕ, zero, suc, ◌+◌, ◌-◌, ◌≤◌, ◌<◌}
use mathlib.Core.Bool.{true, false}
use mathlib.Core.List.{List}
use mathlib.Core.Path.{◌≡◌, ap, sym, ◌∙◌}
use native.Mathlib.Decide.{dec_lt}
use native.Mathlib.Omega.{arith}
use Rattle.counting.proofs.tests.TestLaws.{never_true}
use Rattle.std.specs.Prelude.{Ok}
use Rattle.refusals.proofs.FirstMetLaws.{good-first_fault_to}
use Rattle.load.specs.declared.Load.{Load}
use Rattle.load.specs.Load.{row_at}
use Rattle.sheet_line.specs.Line.{is_line, line_in}
use Rattle.sheet_line.specs.LineText.{line_of}
use Rattle.sheet.specs.Lines.{line_place, line_from, lines_in}
use Rattle.sheet.specs.LineFaults.{is_limit, line_before, goes_on, line_fault, lines_fault}
use Rattle.sheet.specs.SheetRows.{steps_from, row_place, rows_in}
use Rattle.sheet.specs.SheetTrip.{ExportedLoad}
use Rattle.sheet.specs.inner.Narrow.{RowLines}
use Rattle.sheet.proofs.marks.RowTrip.{row-marked}
use Rattle.sheet.proofs.trip.PlaceLaws.{
  lines_in-is,
  row_line,
  row_place-line,
  row_line-zero,
  row_line-next,
  row_line-place,
}
use Rattle.sheet.proofs.trip.LineTests.{next-tests, first-tests}
use Rattle.sheet.proofs.trip.RowWalk.{row-goes-on, row-begins}
use Rattle.sheet.proofs.trip.WrittenSheet.{
  passed,
  place,
  held-row,
  steps-least,
  place_end,
  line-written,
  steps-written,
  place_is,
  rows_written,
}

module _ (bs : List ℕ) (load : Load) (x : ExportedLoad load bs) where
  -- a row of the load is read where it is written
  module _ (i : ℕ) (l : i < load.rows) where
    there : i < rows_in bs
    there = omega (arith, rows_written bs load x)

    steps-are : steps_from bs (row_place bs i) ≡ (row_at load i).steps
    steps-are =
        ap (steps_from bs) (place_is bs load x i (omega arith)) ∙ steps-written bs load x i l

    marked : RowLines (line_of (row_at load i)) (row_at load i).steps
    marked = row-marked load i (row_at load i) ((passed bs load x).each-row-good i l) (held-row bs load x i l)

    module _ (j : ℕ) (m : j < (row_at load i).steps) where
      line-place : line_place bs 0 (row_line bs i + j) ≡ line_place bs (place bs load x i) j
      line-place =
          sym (row_line-place bs i j) ∙ ap (λ at. line_place bs at j) (place_is bs load x i (omega arith))

      line-is : line_from bs 0 (row_line bs i + j) ≡ line_of (row_at load i) j
      line-is = ap (line_in bs) line-place ∙ (line-written bs load x i l j m).says

      is-line : is_line bs (line_place bs 0 (row_line bs i + j)) ≡ true
      is-line = ap (is_line bs) line-place ∙ (line-written bs load x i l j m).is-line

    -- a line that is not the row's first
    next-good : (j : ℕ) → suc j < (row_at load i).steps → line_fault bs (suc (row_line bs i + j)) ≡ Ok tt
    unfolding line_fault
    next-good j m =
        let n : ℕ = row_line bs i + j in
        let q : row_line bs i + suc j ≡ suc n = omega arith in
        let before = line-is j (omega arith) in
        let line : line_from bs 0 (suc n) ≡ line_of (row_at load i) (suc j) = rw q at (line-is (suc j) m) in
        next-tests (is_line bs (line_place bs 0 (suc n))) (goes_on bs (suc n)) (line_from bs 0 n)
        (line_from bs 0 (suc n))
        (rw q at (is-line (suc j) m)) (row-goes-on bs i j (omega (arith, steps-are)))
        (rw (before, line)
        (record {
          same-box = marked.same-box (suc j) m ∙ sym (marked.same-box j (omega arith));
          same-phase = marked.same-phase (suc j) m ∙ sym (marked.same-phase j (omega arith));
          same-deadline = marked.same-deadline (suc j) m ∙ sym (marked.same-deadline j (omega arith));
          window-before = marked.marked.window-before j m;
          dash-behind = λ limit. (marked.marked.dash-behind j (omega arith) limit).1;
        }))

    -- the row does not end with a limit
    row_last : is_limit (line_before bs (row_line bs (suc i))).mark ≡ false
    row_last =
        let least : 0 < (row_at load i).steps = steps-least bs load x i l in
        let last : ℕ = (row_at load i).steps - 1 in
        let q : row_line bs (suc i) ≡ suc (row_line bs i + last) = omega (arith, row_line-next bs i, steps-are) in
        rw (q, line-is last (omega arith))
        (never_true (is_limit (line_of (row_at load i) last).mark)
        (λ limit. omega (arith, (marked.marked.dash-behind last (omega arith) limit).0)))

  -- the line before a row, or before the end
  before-row : (i : ℕ) → i ≤ load.rows → is_limit (line_before bs (row_line bs i)).mark ≡ false
  before-row zero l = rw (row_line-zero bs)
  before-row (suc i) l = row_last i l

  first_good : (i : ℕ) → i < load.rows → line_fault bs (row_line bs i) ≡ Ok tt
  unfolding line_fault
  first_good i l =
      let least = steps-least bs load x i l in
      let n : ℕ = row_line bs i in
      let q : row_line bs i + 0 ≡ n = omega arith in
      let line : line_from bs 0 n ≡ line_of (row_at load i) 0 = rw q at (line-is i l 0 least) in
      first-tests (is_line bs (line_place bs 0 n)) (goes_on bs n) (line_before bs n) (line_from bs 0 n)
      (rw q at (is-line i l 0 least)) (row-begins bs i (there i l))
      (record {
        no-dash = rw line ((marked i l).marked.first-none least);
        no-limit = before-row i (omega arith);
      })

  line-good : (i : ℕ) → i < load.rows → (j : ℕ) → j < (row_at load i).steps → line_fault bs (row_line bs i + j) ≡ Ok tt
  line-good i l zero m =
      let q : row_line bs i + 0 ≡ row_line bs i = omega arith in
      ap (line_fault bs) q ∙ first_good i l
  line-good i l (suc j) m =
      let q : row_line bs i + suc j ≡ suc (row_line bs i + j) = omega arith in
      ap (line_fault bs) q ∙ next-good i l j m

  -- the lines of the rows below i
  lines-good : (i : ℕ) → i ≤ load.rows → (n : ℕ) → n < row_line bs i → line_fault bs n ≡ Ok tt
  lines-good zero l n m = absurd (omega (arith, row_line-zero bs))
  lines-good (suc i) l n m =
      elim (dec_lt n (row_line bs i)) [
        | yes h ↦ lines-good i (omega arith) n h
        | no g ↦
            let j : ℕ = n - row_line bs i in
            let q : n ≡ row_line bs i + j = omega arith in
            ap (line_fault bs) q
            ∙ line-good i l j (omega (arith, row_line-next bs i, steps-are i l))
      ]

  lines_are : lines_in bs ≡ row_line bs load.rows
  lines_are =
      let rows : ℕ = load.rows in
      lines_in-is bs (row_line bs rows)
      (sym (row_place-line bs rows)
      ∙ place_is bs load x rows (omega arith)
      ∙ place_end bs load x)

  pub written-lines : lines_fault bs ≡ Ok tt
  unfolding lines_fault
  written-lines =
      let rows : ℕ = load.rows in
      rw (
        lines_are,
        good-first_fault_to (line_fault bs) (row_line bs rows) (lines-good rows (omega arith)),
        before-row rows (omega arith),
      )
