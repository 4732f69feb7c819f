-- With which numbers a sheet is refused: 18 to 20 for its lines, 3, 21, 4, 5 and 7 for its load, and never 6. Lines
-- that 18 to 20 do not refuse spell windows of two steps or more that stand one behind the other and end inside their
-- row.
use Prim.Native.Nat.{ℕ, ◌<◌}
use mathlib.Core.Bool.{Bool, true, not}
use mathlib.Core.List.{List, [], ◌∷◌}
use mathlib.Core.Path.{◌≡◌, refl, sym, subst}
use lib.Dec.{eqb, ltb}
use Rattle.counting.specs.Sums.{all_from}
use Rattle.counting.specs.Lists.{any_in}
use Rattle.refusals.specs.declared.Refusal.TheVariants.{OutOfRange}
use Rattle.refusals.specs.Checked.{Checked}
use Rattle.std.specs.Prelude.{Ok}
use Rattle.refusals.specs.Refusals.{number_given}
use Rattle.load.specs.declared.Row.{Row}
use Rattle.load.specs.declared.Load.{Load}
use Rattle.load.specs.Load.{most_rows, row_at}
use Rattle.load.specs.Faults.{row_tests, taken_tests, step_tests}
use Rattle.load.specs.Check.{
  all_zero,
  is_zero_row,
  zero_steps_from,
  zero_windows_from,
  check_fields,
  check_taken,
  check_step,
  check_window,
  check_parts,
  row_fault,
  check_load,
}
use Rattle.sheet_line.specs.Line.{is_line}
use Rattle.sheet.specs.Lines.{line_place, line_from, lines_in}
use Rattle.sheet.specs.LineFaults.{line_tests, line_before, goes_on, line_fault, end_tests, lines_fault}
use Rattle.sheet.specs.SheetRows.{steps_from, row_from, row_place, rows_in, load_in_sheet}
use Rattle.sheet.specs.Reading.{sheet_fault}
use Rattle.sheet.proofs.trip.RowWalk.{read-row_lines}
use Rattle.sheet.proofs.narrow.SheetKept.{row_at-sheet}
use Rattle.sheet.proofs.narrow.WindowFound.{StandsWell, well_tests, well-found, stands-well}
use Rattle.refusals.proofs.FoundLaws.{
  Passes,
  first_met-passes,
  and_then-passes,
  last-passes,
  first_fault_to-passes,
}

-- the numbers of a refused sheet
abbrev pub numbers_in_sheet : List ℕ
numbers_in_sheet = 3 ∷ 21 ∷ 4 ∷ 5 ∷ 7 ∷ 18 ∷ 19 ∷ 20 ∷ []

-- what is found has one of these numbers, or 0
abbrev in_sheet : Checked → Bool
in_sheet found = any_in (eqb (number_given found)) (0 ∷ numbers_in_sheet)

-- the same as a fact
abbrev InSheet : Checked → Type 0
InSheet = Passes in_sheet

good-in : InSheet (Ok tt)
unfolding any_in
good-in = record { passes = refl }

zeros-in : (zeros : Bool) → InSheet (all_zero zeros)
unfolding any_in
zeros-in zeros = first_met-passes in_sheet good-in ((not zeros, OutOfRange) ∷ []) refl

module _ (row : Row) where
  fields_in : InSheet (check_fields row)
  unfolding row_tests any_in
  fields_in = first_met-passes in_sheet good-in (row_tests row) refl

  taken_in : (load : Load) (i : ℕ) → InSheet (check_taken load i row)
  unfolding taken_tests any_in
  taken_in load i = first_met-passes in_sheet good-in (taken_tests load i row) refl

  step_in : (j : ℕ) → InSheet (check_step row j)
  unfolding step_tests any_in
  step_in j = first_met-passes in_sheet good-in (step_tests row j) refl

  window-in : (k : ℕ) → StandsWell row k → InSheet (check_window row k)
  unfolding any_in
  window-in k well =
      subst InSheet (sym (well-found row k well)) (first_met-passes in_sheet good-in (well_tests row k) refl)

  parts_in : ((k : ℕ) → k < row.windows → StandsWell row k) → InSheet (check_parts row)
  unfolding check_parts
  parts_in well =
      and_then-passes in_sheet good-in _ _
      (first_fault_to-passes in_sheet good-in (check_step row) row.steps (λ j l. step_in j))
      (λ e. and_then-passes in_sheet good-in _ _ (zeros-in (zero_steps_from row row.steps))
      (λ e. and_then-passes in_sheet good-in _ _
      (first_fault_to-passes in_sheet good-in (check_window row) row.windows (λ k l. window-in k (well k l)))
      (λ e. last-passes in_sheet good-in _ (zeros-in (zero_windows_from row row.windows)))))

  row_in : (load : Load) (i : ℕ) → ((k : ℕ) → k < row.windows → StandsWell row k) → InSheet (row_fault load i row)
  unfolding row_fault
  row_in load i well =
      and_then-passes in_sheet good-in _ _ fields_in
      (λ e. and_then-passes in_sheet good-in _ _ (taken_in load i)
      (λ e. last-passes in_sheet good-in _ (parts_in well)))

module _ (bs : List ℕ) where
  line-in : (n : ℕ) → InSheet (line_fault bs n)
  unfolding line_fault line_tests any_in
  line-in n =
      first_met-passes in_sheet good-in
      (line_tests (is_line bs (line_place bs 0 n)) (goes_on bs n) (line_before bs n) (line_from bs 0 n))
      refl

  lines-in : InSheet (lines_fault bs)
  unfolding lines_fault any_in
  lines-in =
      and_then-passes in_sheet good-in _ _
      (first_fault_to-passes in_sheet good-in (line_fault bs) (lines_in bs) (λ n l. line-in n))
      (λ e. last-passes in_sheet good-in _
      (first_met-passes in_sheet good-in (end_tests (line_before bs (lines_in bs))) refl))

  -- the load of lines that 18 to 20 do not refuse
  load-in : lines_fault bs ≡ Ok tt → InSheet (check_load (load_in_sheet bs))
  unfolding check_load load_in_sheet any_in
  load-in lines =
      and_then-passes in_sheet good-in _ _
      (first_met-passes in_sheet good-in ((ltb most_rows (rows_in bs), OutOfRange) ∷ []) refl)
      (λ e. and_then-passes in_sheet good-in _ _ (first_fault_to-passes in_sheet good-in _ (rows_in bs) each)
      (λ e. last-passes in_sheet good-in _
      (zeros-in (all_from (λ i. is_zero_row (row_at (load_in_sheet bs) i)) (rows_in bs) most_rows))))
    where
      each : (i : ℕ) → i < rows_in bs → InSheet (row_fault (load_in_sheet bs) i (row_at (load_in_sheet bs) i))
      each i l =
          subst (λ row. InSheet (row_fault (load_in_sheet bs) i row)) (sym (row_at-sheet bs i l))
          (row_in (row_from bs (row_place bs i)) (load_in_sheet bs) i
          (stands-well (line_from bs (row_place bs i)) (steps_from bs (row_place bs i)) (read-row_lines bs lines i l)))

  sheet-in : InSheet (sheet_fault bs)
  unfolding sheet_fault
  sheet-in =
      and_then-passes in_sheet good-in (lines_fault bs) _ lines-in
      (λ lines. last-passes in_sheet good-in (check_load (load_in_sheet bs)) (load-in lines))

  -- what a sheet is refused with
  pub sheet-numbers : any_in (eqb (number_given (sheet_fault bs))) (0 ∷ numbers_in_sheet) ≡ true
  sheet-numbers = sheet-in.passes
