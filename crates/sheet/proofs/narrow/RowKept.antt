-- The row that is kept for a row of a sheet: its numbers cut, or for more than eight steps the row of zeros. A row in
-- which nothing is found is kept as it is; in the first other row the kept one is refused for the same number.
use Prim.Native.Nat.{ℕ, ◌<◌}
use mathlib.Core.List.{map}
use mathlib.Core.Path.{◌≡◌, refl, ap, ap₂, sym, ◌∙◌}
use native.Mathlib.Decide.{dec_lt}
use native.Mathlib.Nat.{min-eq_left}
use native.Mathlib.Omega.{arith}
use borrow.Author.Tests.{ltb-false}
use Rattle.std.specs.Prelude.{Ok}
use Rattle.refusals.specs.FirstMet.{and_then}
use Rattle.refusals.proofs.FirstMetLaws.{first_fault_to-good}
use Rattle.refusals.proofs.FirstFaultLaws.{first_met-good, and_then-agree}
use Rattle.load.specs.declared.Row.{Row}
use Rattle.load.specs.declared.Load.{Load}
use Rattle.load.specs.Load.{
  largest_number,
  latest_phase,
  last_moment,
  largest_limit,
  no_window,
  window_at,
}
use Rattle.load.specs.Faults.{row_tests, window_tests}
use Rattle.load.specs.Check.{all_zero, check_fields, check_step, check_window, check_parts}
use Rattle.load.proofs.RangeLaws.{outside-most}
use Rattle.load.proofs.CheckLaws.{RowGood}
use Rattle.sheet.specs.inner.Narrow.{most32, narrow_window, narrow_row}
use Rattle.sheet.proofs.narrow.CutLaws.{or_zero-fits, narrow_window-fits}
use Rattle.sheet.proofs.narrow.RowCut.{
  Unused,
  map-stays,
  steps-cut,
  no-steps-cut,
  step_same,
  windows-cut,
  no-windows-cut,
}

-- a row whose fields are good fits, its steps and windows apart
module _ (row : Row) (good : check_fields row ≡ Ok tt) where
  pub identifier-same : (narrow_row row).identifier ≡ row.identifier
  unfolding narrow_row row_tests
  identifier-same =
      let most = outside-most 1 largest_number row.identifier.0 (first_met-good (row_tests row) good 0) in
      ap (λ n. record { 0 = n }) (or_zero-fits most32 row.identifier.0 (omega arith))

  pub box-same : (narrow_row row).box_number ≡ row.box_number
  unfolding narrow_row row_tests
  box-same =
      let most = outside-most 1 largest_number row.box_number.0 (first_met-good (row_tests row) good 1) in
      ap (λ n. record { 0 = n }) (or_zero-fits most32 row.box_number.0 (omega arith))

  phase-same : (narrow_row row).phase ≡ row.phase
  unfolding narrow_row row_tests
  phase-same =
      let most = ltb-false latest_phase row.phase (first_met-good (row_tests row) good 2) in
      min-eq_left (omega arith)

  deadline-same : (narrow_row row).deadline ≡ row.deadline
  unfolding narrow_row row_tests
  deadline-same =
      let most = outside-most 1 last_moment row.deadline (first_met-good (row_tests row) good 3) in
      or_zero-fits most32 row.deadline (omega arith)

module _ (row : Row) (rest : Unused row) where
  pub parts_cut : check_parts (narrow_row row) ≡ check_parts row
  unfolding check_parts narrow_row
  parts_cut =
      and_then-agree _ _ _ _ (steps-cut row)
      (λ good.
      let passed = first_fault_to-good (check_step row) row.steps (sym (steps-cut row) ∙ good) in
      ap₂ and_then (ap all_zero (no-steps-cut row rest))
      (ap₂ and_then (windows-cut row rest passed) (ap (λ z. and_then (all_zero z) (Ok tt)) (no-windows-cut row rest))))

  window_same : ((k : ℕ) → k < row.windows → check_window row k ≡ Ok tt) → map narrow_window row.window ≡ row.window
  unfolding window_tests
  window_same passed = map-stays narrow_window no_window row.window stays refl
    where
      stays : (k : ℕ) → narrow_window (window_at row k) ≡ window_at row k
      stays k =
          elim (dec_lt k row.windows) [
            | yes l ↦
                narrow_window-fits (window_at row k)
                (outside-most 1 largest_limit (window_at row k).limit
                (first_met-good (window_tests row k) (passed k l) 2))
            | no l ↦
                ap narrow_window (rest.no-window k (omega arith)) ∙ sym (rest.no-window k (omega arith))
          ]

  -- nothing is found, and nothing was cut
  pub narrow_row-good : (load : Load) (i : ℕ) → RowGood load i row → narrow_row row ≡ row
  unfolding narrow_row
  narrow_row-good load i g =
      rw (
        identifier-same row g.fields-good,
        box-same row g.fields-good,
        phase-same row g.fields-good,
        deadline-same row g.fields-good,
        step_same row rest g.each-step-good,
        window_same g.each-window-good,
      )
