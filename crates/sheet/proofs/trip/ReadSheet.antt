-- Reading then writing: in a sheet that is not refused each row's lines stand where the row begins, one behind the
-- other, so its load is written as the sheet; and that load is held as its types say, with class 0 and head 1.
use Prim.Native.Nat.{ℕ, suc, ◌+◌, ◌≤◌, ◌<◌}
use mathlib.Core.Bool.{true}
use mathlib.Core.List.{List}
use mathlib.Core.Path.{◌≡◌, ap, ◌∙◌}
use native.Mathlib.Decide.{dec_lt}
use native.Mathlib.Omega.{arith}
use lib.ListN.{length, length-append, length-replicate}
use Rattle.counting.proofs.lists.ListLaws.{filled-length, get_or-filled, get_or-unfilled}
use Rattle.counting.proofs.lists.PieceLaws.{Stands, joined-place, joined-stands, stands-whole}
use Rattle.std.specs.Prelude.{Ok}
use Rattle.load.specs.declared.Row.{Row}
use Rattle.load.specs.Load.{most_rows, most_steps, most_windows, no_step, no_row, zero_row, row_at}
use Rattle.load.specs.Check.{check_load}
use Rattle.load.specs.Plain.{check_plain}
use Rattle.load.proofs.CheckLaws.{check_load-good, fields-steps-le, fields-windows-le}
use Rattle.load.proofs.PlainLaws.{good-check_plain}
use Rattle.load_file.specs.RoundTrip.{HeldRow, Held}
use Rattle.load_file.proofs.faults.ZeroLaws.{zero_row-held}
use Rattle.sheet_line.specs.Line.{is_line}
use Rattle.sheet_line.specs.LineText.{line_of, line_bytes}
use Rattle.sheet_line.proofs.LineLaws.{line-stands, line-next}
use Rattle.sheet.specs.Lines.{line_place, line_from}
use Rattle.sheet.specs.LineFaults.{lines_fault}
use Rattle.sheet.specs.SheetRows.{
  steps_from,
  windows_of,
  row_of,
  row_from,
  row_place,
  rows_in,
  load_in_sheet,
}
use Rattle.sheet.specs.Writing.{row_lines, sheet_bytes}
use Rattle.sheet.proofs.trip.PlaceLaws.{
  line_place-next,
  row_line,
  row_line-place,
  row_line-lt,
  row_place-next,
}
use Rattle.sheet.proofs.trip.RowWalk.{each_line, rows_end, read-row_lines}
use Rattle.sheet.proofs.trip.HeldLaws.{good-row-held}
use Rattle.sheet.proofs.marks.RowTrip.{lines-row}

-- a row of a sheet whose lines are not refused
module _ (bs : List ℕ) (h : lines_fault bs ≡ Ok tt) (i : ℕ) (l : i < rows_in bs) where
  abbrev at : ℕ
  at = row_place bs i

  abbrev steps : ℕ
  steps = steps_from bs at

  abbrev row : Row
  row = row_from bs at

  is-line : (j : ℕ) → j < steps → is_line bs (line_place bs at j) ≡ true
  is-line j m = rw (row_line-place bs i j) (each_line bs h (row_line bs i + j) (row_line-lt bs i j l m))

  line-is : (j : ℕ) → j < steps → line_of row j ≡ line_from bs at j
  line-is = lines-row (line_from bs at) steps (read-row_lines bs h i l)

  line-stands-there : (j : ℕ) → j < steps → Stands (line_bytes (line_of row j)) bs (line_place bs at j)
  line-stands-there j m = rw (line-is j m) (line-stands bs (line_place bs at j) (is-line j m))

  line-behind : (j : ℕ) → j < steps
      → line_place bs at (suc j) ≡ line_place bs at j + length (line_bytes (line_of row j))
  line-behind j m =
      rw (line-is j m) (line_place-next bs at j ∙ line-next bs (line_place bs at j) (is-line j m))

  row-stands : Stands (row_lines row) bs at
  unfolding row_lines row_of line_place
  row-stands =
      joined-stands (λ j. line_bytes (line_of row j)) (line_place bs at) bs steps line-behind line-stands-there

  row-behind : row_place bs (suc i) ≡ at + length (row_lines row)
  unfolding row_lines row_of line_place
  row-behind =
      row_place-next bs i ∙ joined-place (λ j. line_bytes (line_of row j)) (line_place bs at) steps line-behind

-- what stands in the load that a sheet spells
module _ (bs : List ℕ) where
  pub row-used : (i : ℕ) → i < rows_in bs → row_at (load_in_sheet bs) i ≡ row_from bs (row_place bs i)
  unfolding load_in_sheet
  row-used i l = get_or-filled (λ i. row_from bs (row_place bs i)) (rows_in bs) most_rows i zero_row no_row l

  row-unused : (i : ℕ) → rows_in bs ≤ i → i < most_rows → row_at (load_in_sheet bs) i ≡ zero_row
  unfolding load_in_sheet
  row-unused i from l =
      get_or-unfilled (λ i. row_from bs (row_place bs i)) (rows_in bs) most_rows i zero_row no_row from l

module _ (bs : List ℕ) (h : lines_fault bs ≡ Ok tt) where
  row-stands-there : (i : ℕ) → i < rows_in bs → Stands (row_lines (row_at (load_in_sheet bs) i)) bs (row_place bs i)
  row-stands-there i l = rw (row-used bs i l) (row-stands bs h i l)

  row-behind-there : (i : ℕ) → i < rows_in bs
      → row_place bs (suc i) ≡ row_place bs i + length (row_lines (row_at (load_in_sheet bs) i))
  row-behind-there i l = rw (row-used bs i l) (row-behind bs h i l)

  -- the load is written as the sheet
  pub read-sheet : bs ≡ sheet_bytes (load_in_sheet bs)
  unfolding sheet_bytes load_in_sheet row_place
  read-sheet =
      let f : ℕ → List ℕ = λ i. row_lines (row_at (load_in_sheet bs) i) in
      stands-whole (sheet_bytes (load_in_sheet bs)) bs
      (omega (arith, rows_end bs h, joined-place f (row_place bs) (rows_in bs) row-behind-there))
      (joined-stands f (row_place bs) bs (rows_in bs) row-behind-there row-stands-there)

-- a sheet whose load passes the check
module _ (bs : List ℕ) (good : check_load (load_in_sheet bs) ≡ Ok tt) where
  held-row : (i : ℕ) → i < rows_in bs → HeldRow (row_at (load_in_sheet bs) i)
  unfolding load_in_sheet row_of
  held-row i l =
      let at : ℕ = row_place bs i in
      let fields = ((check_load-good (load_in_sheet bs) good).each-row-good i l).fields-good in
      let is : row_at (load_in_sheet bs) i ≡ row_from bs at = row-used bs i l in
      let windows = windows_of (λ j. (line_from bs at j).mark) (steps_from bs at) in
      let few : length windows ≤ most_windows = rw is at (fields-windows-le (row_at (load_in_sheet bs) i) fields) in
      good-row-held (load_in_sheet bs) good i l
      (rw is (filled-length _ (steps_from bs at) most_steps no_step (rw is at (fields-steps-le _ fields))))
      (rw is (simp (length-append, length-replicate) (omega arith)))

  -- no line carries a class or a head
  pub read_plain : check_plain (load_in_sheet bs) ≡ Ok tt
  unfolding load_in_sheet row_of
  read_plain =
      good-check_plain (load_in_sheet bs)
      (record {
        load-good = good;
        class-zero = λ i l. ap (λ (row : Row). row.class) (row-used bs i l);
        head-one = λ i l. ap (λ (row : Row). row.head) (row-used bs i l);
      })

  pub read_held : Held (load_in_sheet bs)
  unfolding load_in_sheet
  read_held =
      let few : rows_in bs ≤ most_rows = (check_load-good (load_in_sheet bs) good).few-rows in
      record {
        rows_fit = omega arith;
        row-places = filled-length (λ i. row_from bs (row_place bs i)) (rows_in bs) most_rows zero_row few;
        each_row =
            λ i l.
            elim (dec_lt i (rows_in bs)) [
              | yes l ↦ held-row i l
              | no g ↦ rw (row-unused bs i (omega arith) l) zero_row-held
            ];
      }
