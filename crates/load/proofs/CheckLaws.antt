-- What the check of a load in memory asks, part by part: its finding is Good exactly when each part's is, and an
-- unused place is the zero part.
use Prim.Native.Nat.{ℕ, ◌≤◌, ◌<◌}
use mathlib.Core.Bool.{Bool, true}
use mathlib.Core.List.{[], ◌∷◌}
use mathlib.Core.Path.{◌≡◌}
use lib.Dec.{ltb}
use borrow.Author.Tests.{ltb-false, le-ltb}
use Rattle.counting.specs.Sums.{all_from}
use Rattle.counting.proofs.tests.TestLaws.{or_right}
use Rattle.std.specs.Prelude.{Ok}
use Rattle.refusals.proofs.FirstMetLaws.{first_met-good-first, first_fault_to-good, good-first_fault_to}
use Rattle.refusals.proofs.FirstFaultLaws.{first_met-good, first_fault-good}
use Rattle.load.specs.declared.Row.{Row}
use Rattle.load.specs.declared.Load.{Load}
use Rattle.load.specs.Load.{most_rows, most_steps, most_windows, row_at}
use Rattle.load.specs.Faults.{row_tests}
use Rattle.load.specs.Check.{
  all_zero,
  zero_steps_from,
  zero_windows_from,
  is_zero_row,
  check_fields,
  check_taken,
  check_step,
  check_window,
  check_parts,
  row_fault,
  check_load,
}
use Rattle.load.proofs.AcceptableLaws.{all_zero-good}

good-all_zero : (b : Bool) → b ≡ true → all_zero b ≡ Ok tt
good-all_zero b h = rw h

-- what the check asks of the row at place i
pub record RowGood (load : Load) (i : ℕ) (row : Row) : Type 0 where
  pub fields-good : check_fields row ≡ Ok tt
  pub taken-good : check_taken load i row ≡ Ok tt
  pub each-step-good : (j : ℕ) → j < row.steps → check_step row j ≡ Ok tt
  pub steps-zero : zero_steps_from row row.steps ≡ true
  pub each-window-good : (k : ℕ) → k < row.windows → check_window row k ≡ Ok tt
  pub windows-zero : zero_windows_from row row.windows ≡ true

module _ (load : Load) (i : ℕ) (row : Row) where
  pub row_fault-good : row_fault load i row ≡ Ok tt → RowGood load i row
  unfolding row_fault check_parts
  row_fault-good h =
      let finding = first_fault-good (_ ∷ _ ∷ _ ∷ []) h in
      let part = first_fault-good (_ ∷ _ ∷ _ ∷ _ ∷ []) (finding 2) in
      record {
        fields-good = finding 0;
        taken-good = finding 1;
        each-step-good = first_fault_to-good (check_step row) row.steps (part 0);
        steps-zero = all_zero-good (zero_steps_from row row.steps) (part 1);
        each-window-good = first_fault_to-good (check_window row) row.windows (part 2);
        windows-zero = all_zero-good (zero_windows_from row row.windows) (part 3);
      }

  pub good-row_fault : RowGood load i row → row_fault load i row ≡ Ok tt
  unfolding row_fault check_parts
  good-row_fault r =
      let steps = good-first_fault_to (check_step row) row.steps r.each-step-good in
      let no_steps = good-all_zero (zero_steps_from row row.steps) r.steps-zero in
      let windows = good-first_fault_to (check_window row) row.windows r.each-window-good in
      let no-windows = good-all_zero (zero_windows_from row row.windows) r.windows-zero in
      rw (r.fields-good, r.taken-good, steps, no_steps, windows, no-windows)

-- what the check asks of a load
pub record LoadGood (load : Load) : Type 0 where
  pub few-rows : load.rows ≤ most_rows
  pub each-row-good : (i : ℕ) → i < load.rows → RowGood load i (row_at load i)
  pub rows-zero : all_from (λ i. is_zero_row (row_at load i)) load.rows most_rows ≡ true

module _ (load : Load) where
  pub check_load-good : check_load load ≡ Ok tt → LoadGood load
  unfolding check_load
  check_load-good h =
      let finding = first_fault-good (_ ∷ _ ∷ _ ∷ []) h in
      let zeros : Bool = all_from (λ i. is_zero_row (row_at load i)) load.rows most_rows in
      record {
        few-rows = ltb-false most_rows load.rows (first_met-good-first _ [] (finding 0));
        each-row-good =
            λ i l.
            row_fault-good load i (row_at load i)
            (first_fault_to-good (λ i. row_fault load i (row_at load i)) load.rows (finding 1) i l);
        rows-zero = all_zero-good zeros (finding 2);
      }

  pub good-check_load : LoadGood load → check_load load ≡ Ok tt
  unfolding check_load
  good-check_load g =
      let few = le-ltb most_rows load.rows g.few-rows in
      let rows =
      good-first_fault_to (λ i. row_fault load i (row_at load i)) load.rows
      (λ i l. good-row_fault load i (row_at load i) (g.each-row-good i l)) in
      let no_rows =
      good-all_zero (all_from (λ i. is_zero_row (row_at load i)) load.rows most_rows) g.rows-zero in
      rw (few, rows, no_rows)

-- a row's own fields: so many steps and windows have places
module _ (row : Row) (h : check_fields row ≡ Ok tt) where
  pub fields-steps-le : row.steps ≤ most_steps
  unfolding row_tests
  fields-steps-le =
      ltb-false most_steps row.steps
      (or_right (ltb row.steps 1) (ltb most_steps row.steps) (first_met-good (row_tests row) h 4))

  pub fields-windows-le : row.windows ≤ most_windows
  unfolding row_tests
  fields-windows-le = ltb-false most_windows row.windows (first_met-good (row_tests row) h 5)
