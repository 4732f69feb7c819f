-- A load, and one that keeps its rows with their numbers cut or, for more than eight steps, as rows of zeros: the check
-- finds the same of both. Up to the first row in which something is found both are one load, so that identifiers and
-- boxes are taken in both or in neither, and in that row the same is found.
use Prim.Native.Nat.{ℕ, ◌+◌, ◌-◌, ◌≤◌, ◌<◌}
use mathlib.Core.List.{[], ◌∷◌}
use mathlib.Core.Path.{◌≡◌, refl, ap, ap₂, sym, ◌∙◌}
use native.Mathlib.Omega.{arith}
use borrow.Author.Tests.{lt-ltb, le-ltb}
use lib.Dec.{eqb, ltb}
use Rattle.counting.specs.Sums.{all_from}
use Rattle.counting.proofs.tests.TestLaws.{any_to-ext, all_to-ext}
use Rattle.refusals.specs.declared.Refusal.TheVariants.{OutOfRange, IdentifierTaken, BoxTaken}
use Rattle.std.specs.Prelude.{Ok, Err}
use Rattle.refusals.specs.FirstMet.{first_met, and_then, first_fault, first_fault_to}
use Rattle.refusals.proofs.FirstMetLaws.{first_fault_to-good}
use Rattle.refusals.proofs.FirstFaultLaws.{and_then-agree, first_fault_to-agree}
use Rattle.load.specs.declared.Row.{Row}
use Rattle.load.specs.declared.Load.{Load}
use Rattle.load.specs.Load.{
  most_rows,
  most_steps,
  largest_number,
  latest_phase,
  last_moment,
  row_at,
  zero_row,
}
use Rattle.load.specs.Faults.{outside, row_tests, taken_tests}
use Rattle.load.specs.Check.{all_zero, is_zero_row, check_fields, check_taken, check_parts, row_fault, check_load}
use Rattle.load.proofs.CheckLaws.{RowGood, row_fault-good, check_load-good, fields-steps-le}
use Rattle.sheet.specs.inner.Narrow.{narrow_row}
use Rattle.sheet.proofs.narrow.RowCut.{Unused, cond_same, row_tests-cut}
use Rattle.sheet.proofs.narrow.RowKept.{identifier-same, box-same, parts_cut, narrow_row-good}

-- the row that is kept for a row: its numbers cut, or, where it has more steps than there are places, zeros
pub data Kept (row kept : Row) : Type 0 where
  cut : Unused row → kept ≡ narrow_row row → Kept row kept
  long : most_steps < row.steps → kept ≡ zero_row → Kept row kept

-- a row of more than eight steps; the tests before that of the steps have its number
fields-long : (row : Row) → most_steps < row.steps → check_fields row ≡ Err OutOfRange
unfolding row_tests
fields-long row l =
    rw (le-ltb row.steps 1 (omega arith), lt-ltb most_steps row.steps l)
    (cond_same (outside 1 largest_number row.identifier.0) _ _
    (cond_same (outside 1 largest_number row.box_number.0) _ _
    (cond_same (ltb latest_phase row.phase) _ _
    (cond_same (outside 1 last_moment row.deadline) _ _ refl))))

module _ (load kept : Load) (i : ℕ) (earlier : (k : ℕ) → k < i → row_at kept k ≡ row_at load k) (row : Row) where
  taken-cut : check_fields row ≡ Ok tt → check_taken kept i (narrow_row row) ≡ check_taken load i row
  unfolding taken_tests
  taken-cut good =
      ap₂ (λ x y. first_met ((x, IdentifierTaken) ∷ (y, BoxTaken) ∷ []))
      (any_to-ext _ _ i
      (λ k l.
      ap₂ (λ (r : Row) n. eqb r.identifier.0 n.0) (earlier k l) (identifier-same row good)))
      (any_to-ext _ _ i
      (λ k l. ap₂ (λ (r : Row) n. eqb r.box_number.0 n.0) (earlier k l) (box-same row good)))

  row_fault-cut : Unused row → row_fault kept i (narrow_row row) ≡ row_fault load i row
  unfolding row_fault
  row_fault-cut rest =
      let fields : check_fields (narrow_row row) ≡ check_fields row = ap first_met (row_tests-cut row) in
      and_then-agree _ _ _ _ fields
      (λ good.
      ap₂ (λ t p. and_then t (and_then p (Ok tt))) (taken-cut (sym fields ∙ good)) (parts_cut row rest))

  row_fault-long : most_steps < row.steps → row_fault kept i zero_row ≡ row_fault load i row
  unfolding row_fault row_tests zero_row
  row_fault-long l =
      sym (ap (λ c. and_then c (and_then (check_taken load i row) (and_then (check_parts row) (Ok tt))))
      (fields-long row l))

  pub row_fault-kept : (k : Row) → Kept row k → row_fault kept i k ≡ row_fault load i row
  row_fault-kept k (cut rest e) = ap (row_fault kept i) e ∙ row_fault-cut rest
  row_fault-kept k (long l e) = ap (row_fault kept i) e ∙ row_fault-long l

-- a row in which nothing is found is kept as it is
pub kept_same : (load : Load) (i : ℕ) (row k : Row) → RowGood load i row → Kept row k → k ≡ row
kept_same load i row k g (cut rest e) = e ∙ narrow_row-good row rest load i g
kept_same load i row k g (long l e) = absurd (omega (arith, fields-steps-le row g.fields-good))

module _ (load kept : Load) (each : (i : ℕ) → i < load.rows → Kept (row_at load i) (row_at kept i)) where
  row-good : (i : ℕ) → i < load.rows → row_fault load i (row_at load i) ≡ Ok tt → row_at kept i ≡ row_at load i
  row-good i l good =
      kept_same load i (row_at load i) (row_at kept i) (row_fault-good load i (row_at load i) good) (each i l)

  rows_agree : first_fault_to (λ i. row_fault load i (row_at load i)) load.rows
      ≡ first_fault_to (λ i. row_fault kept i (row_at kept i)) load.rows
  rows_agree =
      first_fault_to-agree _ _ load.rows
      (λ i l before.
      sym (row_fault-kept load kept i
      (λ k h. row-good k (omega arith) (first_fault_to-good (λ i. row_fault load i (row_at load i)) i before k h))
      (row_at load i) (row_at kept i) (each i l)))

  -- where nothing is found, no row was replaced
  pub narrow_good : check_load load ≡ Ok tt → (i : ℕ) → i < load.rows → row_at kept i ≡ row_at load i
  narrow_good good i l =
      kept_same load i (row_at load i) (row_at kept i) ((check_load-good load good).each-row-good i l) (each i l)

pub narrow-check : (load kept : Load) → kept.rows ≡ load.rows
    → ((i : ℕ) → i < load.rows → Kept (row_at load i) (row_at kept i))
    → ((i : ℕ) → load.rows ≤ i → i < most_rows → row_at kept i ≡ row_at load i) → check_load kept ≡ check_load load
unfolding check_load
narrow-check load kept rows each unused =
    ap (λ n.
    first_fault
    (first_met ((ltb most_rows n, OutOfRange) ∷ [])
    ∷ first_fault_to (λ i. row_fault kept i (row_at kept i)) n
    ∷ all_zero (all_from (λ i. is_zero_row (row_at kept i)) n most_rows)
    ∷ []))
    rows
    ∙ ap₂ (λ f z. first_fault (first_met ((ltb most_rows load.rows, OutOfRange) ∷ []) ∷ f ∷ all_zero z ∷ []))
    (sym (rows_agree load kept each))
    (all_to-ext _ _ (most_rows - load.rows)
    (λ k l. ap is_zero_row (unused (load.rows + k) (omega arith) (omega arith))))
