-- Writing then reading: in the sheet of a load that passes the check each line stands behind the one before it, so the
-- lines that are read are those that were written; the next row's identifier ends a row, and the rows are the load's.
use Prim.Native.Nat.{ℕ, zero, suc, ◌+◌, ◌-◌, ◌≤◌, ◌<◌}
use mathlib.Core.Bool.{true, false, not, ◌||◌, or-true}
use mathlib.Core.List.{List}
use mathlib.Core.Path.{◌≡◌, ap, sym, ◌∙◌}
use native.Mathlib.Decide.{dec_lt}
use native.Mathlib.Omega.{arith}
use lib.ListN.{length, length-append}
use borrow.Author.Tests.{le-leb, lt-leb, eq-eqb, ne_eqb}
use Rattle.counting.specs.Lists.{join_to, filled}
use Rattle.counting.proofs.tests.TestLaws.{all_from-true, or-neither}
use Rattle.counting.proofs.lists.PieceLaws.{
  Stands,
  Joined,
  whole-stands,
  stands-joined,
  stands-inside,
  filled_is,
}
use Rattle.load.specs.declared.Row.{Row}
use Rattle.load.specs.declared.Load.{Load}
use Rattle.load.specs.Load.{most_rows, no_row, zero_row, row_at}
use Rattle.load.specs.View.{view_of}
use Rattle.load.specs.Check.{is_zero_row}
use Rattle.load.proofs.AcceptableLaws.{check-registered, check-acceptable}
use Rattle.load.proofs.CheckLaws.{LoadGood, check_load-good}
use Rattle.load.proofs.PlainLaws.{PlainGood, check_plain-good}
use Rattle.load_file.specs.RoundTrip.{HeldRow}
use Rattle.load_file.proofs.faults.ZeroLaws.{zero_row-is}
use Rattle.sheet_line.specs.Line.{line_in}
use Rattle.sheet_line.specs.LineText.{line_of, line_bytes}
use Rattle.sheet_line.proofs.LineLaws.{LineStands, line_read, line_bytes-lt}
use Rattle.sheet.specs.Lines.{line_place, line_from, reaches_end}
use Rattle.sheet.specs.SheetRows.{
  row_ends,
  steps_from,
  row_of,
  row_from,
  row_place,
  rows_in,
  load_in_sheet,
}
use Rattle.sheet.specs.Writing.{row_lines, sheet_bytes}
use Rattle.sheet.specs.SheetTrip.{ExportedLoad}
use Rattle.sheet.proofs.marks.RowTrip.{row-lines}
use Rattle.sheet.proofs.marks.RowSize.{line_of-short}
use Rattle.sheet.proofs.trip.PlaceLaws.{
  line_place-zero,
  line_place-next,
  line_place-rises,
  steps_from-is,
  row_place-zero,
  row_place-next,
  rows_in-is,
}
use Rattle.sheet.proofs.trip.RowExt.{row_of-ext}

-- a row held in memory whose lines stand at a place
module _ (bs : List ℕ) (at : ℕ) (row : Row) (held : HeldRow row) (h : Stands (row_lines row) bs at) where
  read-there : (j : ℕ) → Stands (line_bytes (line_of row j)) bs (line_place bs at j)
      → LineStands bs (line_place bs at j) (line_of row j)
  read-there j = line_read bs (line_place bs at j) (line_of row j) (line_of-short row held j)

  lines : Joined (λ j. line_bytes (line_of row j)) (line_place bs at) bs row.steps
  unfolding row_lines line_place
  lines =
      stands-joined (λ j. line_bytes (line_of row j)) (line_place bs at) bs row.steps
      (λ j l s. line_place-next bs at j ∙ (read-there j s).next-is) h

  pub line-there : (j : ℕ) → j < row.steps → LineStands bs (line_place bs at j) (line_of row j)
  line-there j l = read-there j (lines.each j l)

  line-inside-there : (j : ℕ) → j < row.steps → line_place bs at j < length bs
  line-inside-there j l =
      let some = line_bytes-lt (line_of row j) in
      omega (arith, some, stands-inside (line_bytes (line_of row j)) bs (line_place bs at j) some (lines.each j l))

  row-end : line_place bs at row.steps ≡ at + length (row_lines row)
  unfolding row_lines line_place
  row-end = lines.place_is

  identifier-is : (j : ℕ) → j < row.steps → (line_from bs at j).identifier ≡ row.identifier.0
  unfolding line_of
  identifier-is j l = ap (λ line. line.identifier) (line-there j l).says

  -- the row goes on with each of its lines
  row_goes : (k : ℕ) → suc k < row.steps → row_ends bs at (suc k) ≡ false
  row_goes k l =
      let same = identifier-is (suc k) l ∙ sym (identifier-is 0 (omega arith)) in
      or-neither _ _ (lt-leb (length bs) (line_place bs at (suc k)) (line-inside-there (suc k) l))
      (ap not (eq-eqb _ _ same))

  -- and ends behind them, where the sheet does or another identifier stands
  steps-there : 0 < row.steps → row_ends bs at row.steps ≡ true → steps_from bs at ≡ row.steps
  steps-there least ends =
      let last : ℕ = row.steps - 1 in
      let few = line_place-rises bs at last in
      let inside = line-inside-there last (omega arith) in
      steps_from-is bs at row.steps least (omega arith) row_goes ends

-- the sheet of a load that a sheet can carry, held in memory
module _ (bs : List ℕ) (load : Load) (x : ExportedLoad load bs) where
  pub exported-plain : PlainGood load
  exported-plain = check_plain-good load x.plain

  pub passed : LoadGood load
  passed = check_load-good load exported-plain.load-good

  pub held-row : (i : ℕ) → i < load.rows → HeldRow (row_at load i)
  held-row i l = x.held.each_row i (omega (arith, passed.few-rows))

  pub steps-least : (i : ℕ) → i < load.rows → 0 < (row_at load i).steps
  unfolding view_of
  steps-least i l = (check-acceptable load exported-plain.load-good).steps-least i l

  -- where row i is written
  unfoldable pub place : ℕ → ℕ
  place i = length (join_to (λ i. row_lines (row_at load i)) i)

  place-next : (i : ℕ) → place (suc i) ≡ place i + length (row_lines (row_at load i))
  unfolding place join_to
  place-next i = length-append (join_to (λ i. row_lines (row_at load i)) i) (row_lines (row_at load i))

  pub place_end : place load.rows ≡ length bs
  unfolding place sheet_bytes
  place_end = sym (ap length x.sheet)

  row-stands : (i : ℕ) → i < load.rows → Stands (row_lines (row_at load i)) bs (place i)
  unfolding place sheet_bytes join_to
  row-stands =
      (stands-joined (λ i. row_lines (row_at load i)) place bs load.rows (λ i l s. place-next i)
      (whole-stands (sheet_bytes load) bs x.sheet)).each

  pub line-written : (i : ℕ) → i < load.rows → (j : ℕ) → j < (row_at load i).steps
      → LineStands bs (line_place bs (place i) j) (line_of (row_at load i) j)
  line-written i l = line-there bs (place i) (row_at load i) (held-row i l) (row-stands i l)

  end-written : (i : ℕ) → i < load.rows → line_place bs (place i) (row_at load i).steps ≡ place (suc i)
  end-written i l = row-end bs (place i) (row_at load i) (held-row i l) (row-stands i l) ∙ sym (place-next i)

  identifier-written : (i : ℕ) → i < load.rows → (line_from bs (place i) 0).identifier ≡ (row_at load i).identifier.0
  identifier-written i l =
      identifier-is bs (place i) (row_at load i) (held-row i l) (row-stands i l) 0 (steps-least i l)

  ends-written : (i : ℕ) → i < load.rows → row_ends bs (place i) (row_at load i).steps ≡ true
  ends-written i l =
      elim (dec_lt (suc i) load.rows) [
        | yes m ↦
            let at : ℕ = place i in
            let there = end-written i l ∙ sym (line_place-zero bs (place (suc i))) in
            let next = ap (λ at. (line_in bs at).identifier) there ∙ identifier-written (suc i) m in
            let good = exported-plain.load-good in
            let differ = (check-registered load good).identifiers-differ i (suc i) (omega arith) m in
            let other = ne_eqb (line_from bs at (row_at load i).steps).identifier (line_from bs at 0).identifier
            (λ q. differ (sym (identifier-written i l) ∙ sym q ∙ next)) in
            let past = reaches_end bs at (row_at load i).steps in
            ap (λ b. past || not b) other ∙ or-true past
        | no g ↦
            let last : suc i ≡ load.rows = omega arith in
            let there = end-written i l ∙ ap place last ∙ place_end in
            rw (le-leb (length bs) (line_place bs (place i) (row_at load i).steps) (omega arith))
      ]

  pub steps-written : (i : ℕ) → i < load.rows → steps_from bs (place i) ≡ (row_at load i).steps
  steps-written i l =
      steps-there bs (place i) (row_at load i) (held-row i l) (row-stands i l) (steps-least i l) (ends-written i l)

  -- a row begins where it is written
  pub place_is : (i : ℕ) → i ≤ load.rows → row_place bs i ≡ place i
  unfolding place join_to
  place_is zero l = row_place-zero bs
  place_is (suc i) l =
      row_place-next bs i
      ∙ ap (λ at. line_place bs at (steps_from bs at)) (place_is i (omega arith))
      ∙ ap (line_place bs (place i)) (steps-written i l)
      ∙ end-written i l

  pub rows_written : rows_in bs ≡ load.rows
  rows_written = rows_in-is bs load.rows (place_is load.rows (omega arith) ∙ place_end)

  row_written : (i : ℕ) → i < load.rows → row_from bs (row_place bs i) ≡ row_at load i
  row_written i l =
      let row : Row = row_at load i in
      ap (row_from bs) (place_is i (omega arith))
      ∙ ap (row_of (line_from bs (place i))) (steps-written i l)
      ∙ row_of-ext (line_from bs (place i)) (line_of row) row.steps (steps-least i l)
      (λ j m. (line-written i l j m).says)
      ∙ row-lines load i row (passed.each-row-good i l) (held-row i l) (exported-plain.class-zero i l)
      (exported-plain.head-one i l)

  all-written : filled (λ i. row_from bs (row_place bs i)) (rows_in bs) most_rows zero_row ≡ load.row
  all-written =
      ap (λ n. filled (λ i. row_from bs (row_place bs i)) n most_rows zero_row) rows_written
      ∙ filled_is (λ i. row_from bs (row_place bs i)) load.rows most_rows zero_row no_row load.row
      passed.few-rows x.held.row-places row_written
      (λ i from l.
      zero_row-is (row_at load i) (x.held.each_row i l)
      (all_from-true (λ i. is_zero_row (row_at load i)) load.rows most_rows passed.rows-zero i from l))

  -- the sheet spells the load
  pub written-load : load_in_sheet bs ≡ load
  unfolding load_in_sheet
  written-load = λ i. record { rows = rows_written i; row = all-written i }
