-- Laws that the reading call rests on: the tests behind tests that are found, the parts of a row's fault, what the rows
-- before a row hold, and what reading a row gives.
use Prim.Native.Nat.{ℕ, min, ◌≤◌, ◌<◌}
use mathlib.Core.Bool.{Bool}
use mathlib.Core.List.{List, ◌++◌}
use mathlib.Core.Path.{◌≡◌, refl, sym, ap, ◌∙◌}
use native.Mathlib.Omega.{arith}
use lib.Dec.{eqb}
use lib.ListN.{get_or}
use Rattle.counting.specs.Sums.{sum_to, any_to}
use Rattle.counting.proofs.sums.SumLaws.{sum_to-ext}
use Rattle.counting.proofs.tests.TestLaws.{any_to-ext}
use Rattle.counting.proofs.lists.ListLaws.{get_or-filled}
use Rattle.refusals.specs.declared.Refusal.{Refusal}
use Rattle.refusals.specs.Checked.{Checked}
use Rattle.std.specs.Prelude.{Ok, Err}
use Rattle.refusals.specs.FirstMet.{first_met, and_then}
use Rattle.refusals.proofs.FirstMetLaws.{
  first_met-append-refused,
  first_met-append-good,
  append-good-first,
  append-good-second,
}
use Rattle.load.specs.declared.Identifier.{Identifier}
use Rattle.load.specs.declared.BoxNumber.{BoxNumber}
use Rattle.load.specs.declared.Step.{Step}
use Rattle.load.specs.declared.Window.{Window}
use Rattle.load.specs.Load.{most_rows, most_steps, most_windows, no_row, zero_row, row_at}
use Rattle.load.specs.View.{view_of, steps_in_all}
use Rattle.load.specs.Faults.{row_tests, taken_tests, identifier_taken, box_taken}
use Rattle.load.proofs.CheckLaws.{fields-steps-le, fields-windows-le}
use Rattle.load_records.specs.Records.{row_kind}
use Rattle.load_file.specs.Places.{
  version_said,
  steps_said,
  windows_said,
  row_from,
  row_place,
  rows_said,
  load_in,
  row_with,
}
use Rattle.load_file.specs.Reading.{
  due_tests,
  row_fault_at,
  own_fault,
  steps_fault,
  windows_fault,
}
use Rattle.load_file.specs.inner.ReadingSteps.{
  RowsBefore,
  own_fields,
  fields_fault,
  parts_fault,
}

-- tests, of which the first is found, and the tests behind them
module _ (ts us : List (Bool × Refusal)) {c : Checked} (found : c ≡ first_met ts) where
  pub behind-refused : {r : Refusal} → c ≡ Err r → Err r ≡ first_met (ts ++ us)
  behind-refused {r} e = sym (first_met-append-refused ts us r (sym found ∙ e))

  pub behind-good : c ≡ Ok tt → first_met us ≡ first_met (ts ++ us)
  behind-good e = sym (first_met-append-good ts us (sym found ∙ e))

-- a row that the load has is the row at its place
pub row_at-read : (bs : List ℕ) (k : ℕ) → k < rows_said bs → row_at (load_in bs) k ≡ row_from bs (row_place bs k)
unfolding load_in
row_at-read bs k l = get_or-filled (λ i. row_from bs (row_place bs i)) (rows_said bs) most_rows k zero_row no_row l

-- the steps that the rows announce are those of the load
pub steps_in_all-read : (bs : List ℕ)
    → sum_to (λ i. steps_said bs (row_place bs i)) (rows_said bs) ≡ steps_in_all (view_of (load_in bs))
unfolding view_of load_in row_from row_with
steps_in_all-read bs =
    sum_to-ext (λ i. steps_said bs (row_place bs i)) (λ i. (row_at (load_in bs) i).steps) (rows_said bs)
    (λ i l. sym (ap (λ row. row.steps) (row_at-read bs i l)))

-- the identifiers and boxes of the rows before are those that the load has there
module _ (bs : List ℕ) (i : ℕ) (identifiers : List Identifier) (boxes : List BoxNumber)
    (before : RowsBefore bs i identifiers boxes) where
  within : min i most_rows ≡ i
  within = omega (arith, before.few)

  pub identifier_taken-before : (identifier : Identifier)
      → any_to (λ k. eqb (get_or identifiers k (record { 0 = 0 })).0 identifier.0) (min i most_rows)
      ≡ identifier_taken (load_in bs) i identifier
  identifier_taken-before identifier =
      rw (within, before.identifiers-are)
      (any_to-ext _ _ i
      (λ k l.
      ap (λ x. eqb x.0 identifier.0)
      (get_or-filled (λ k. (row_from bs (row_place bs k)).identifier) i most_rows k (record { 0 = 0 })
      (record { 0 = 0 }) l
      ∙ sym (ap (λ row. row.identifier) (row_at-read bs k (omega (arith, before.said)))))))

  pub box_taken-before : (box : BoxNumber)
      → any_to (λ k. eqb (get_or boxes k (record { 0 = 0 })).0 box.0) (min i most_rows) ≡ box_taken (load_in bs) i box
  box_taken-before box =
      rw (within, before.boxes-are)
      (any_to-ext _ _ i
      (λ k l.
      ap (λ x. eqb x.0 box.0)
      (get_or-filled (λ k. (row_from bs (row_place bs k)).box_number) i most_rows k (record { 0 = 0 })
      (record { 0 = 0 }) l
      ∙ sym (ap (λ row. row.box_number) (row_at-read bs k (omega (arith, before.said)))))))

module _ (bs : List ℕ) (at : ℕ) where
  -- the tests of a row's own record ask its own fields alone
  pub row_tests-with : (step : List Step) (window : List Window)
      → row_tests (row_with bs at step window) ≡ row_tests (row_from bs at)
  unfolding row_tests row_with row_from
  row_tests-with step window = refl

  -- a row is its own record with its steps and windows
  pub identifier-with : (step : List Step) (window : List Window)
      → (row_with bs at step window).identifier ≡ (row_from bs at).identifier
  unfolding row_with row_from
  identifier-with step window = refl

  pub box-with : (step : List Step) (window : List Window)
      → (row_with bs at step window).box_number ≡ (row_from bs at).box_number
  unfolding row_with row_from
  box-with step window = refl

  module _ (i : ℕ) where
    -- the parts of a row's fault, in their order
    pub row_fault_at-parts : row_fault_at bs i at
        ≡ and_then (own_fault bs i at)
        (and_then (steps_fault bs at) (and_then (windows_fault bs at) (Ok tt)))
    unfolding row_fault_at own_fault
    row_fault_at-parts = refl

    -- what the tests of a record that is due find of a row's own: a refusal is its fault; else its fields decide,
    -- whatever steps and windows are read beside them
    module _ {c : Checked} (found : c ≡ first_met (due_tests (row_kind (version_said bs)) bs at)) where
      pub own_fault-refused : {r : Refusal} → c ≡ Err r → own_fault bs i at ≡ Err r
      unfolding own_fault
      own_fault-refused e =
          let fields = row_tests (row_from bs at) ++ taken_tests (load_in bs) i (row_from bs at) in
          sym (behind-refused (due_tests (row_kind (version_said bs)) bs at) fields found e)

      pub own_fault-fields : c ≡ Ok tt → fields_fault bs i (own_fields bs at) ≡ own_fault bs i at
      unfolding own_fault fields_fault row_tests taken_tests row_with row_from
      own_fault-fields e =
          let fields = row_tests (row_from bs at) ++ taken_tests (load_in bs) i (row_from bs at) in
          behind-good (due_tests (row_kind (version_said bs)) bs at) fields found e

    -- a row whose own record is Good announces no more steps and windows than a row has
    fields-good : own_fault bs i at ≡ Ok tt → first_met (row_tests (row_from bs at)) ≡ Ok tt
    unfolding own_fault
    fields-good h =
        let front = due_tests (row_kind (version_said bs)) bs at in
        let fields = row_tests (row_from bs at) in
        let taken = taken_tests (load_in bs) i (row_from bs at) in
        append-good-second front fields (append-good-first (front ++ fields) taken h)

    pub own-steps-le : own_fault bs i at ≡ Ok tt → steps_said bs at ≤ most_steps
    unfolding row_from row_with
    own-steps-le h = fields-steps-le (row_from bs at) (fields-good h)

    pub own-windows-le : own_fault bs i at ≡ Ok tt → windows_said bs at ≤ most_windows
    unfolding row_from row_with
    own-windows-le h = fields-windows-le (row_from bs at) (fields-good h)

    -- what a row is refused for, by what is found of its own record
    pub row-refused : (r : Refusal) → own_fault bs i at ≡ Err r → row_fault_at bs i at ≡ Err r
    row-refused r h = row_fault_at-parts ∙ rw h

    pub row-parts : own_fault bs i at ≡ Ok tt → row_fault_at bs i at ≡ parts_fault bs at
    row-parts h = row_fault_at-parts ∙ rw h
