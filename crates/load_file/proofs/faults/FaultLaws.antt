-- What the reading of a file asks, part by part: its finding is Good exactly when each record is due where it stands
-- and passes the tests that the check in memory has.
use Prim.Native.Nat.{ℕ, ◌+◌, ◌≤◌, ◌<◌}
use mathlib.Core.Bool.{true, not}
use mathlib.Core.List.{List, [], ◌∷◌, ◌++◌}
use mathlib.Core.Path.{◌≡◌, ap}
use lib.ListN.{length, drop}
use borrow.Author.Tests.{ltb-false, le-ltb, not-false}
use Rattle.words.specs.LittleEndian.{number_at}
use Rattle.std.specs.Prelude.{Ok}
use Rattle.refusals.specs.FirstMet.{first_met}
use Rattle.refusals.proofs.FirstMetLaws.{
  first_fault_to-good,
  good-first_fault_to,
  append-good-first,
  append-good-second,
  append-good-both,
}
use Rattle.refusals.proofs.FirstFaultLaws.{first_met-good, first_fault-good}
use Rattle.load.specs.Load.{most_rows}
use Rattle.load.specs.View.{view_of, steps_in_all}
use Rattle.load.specs.Faults.{row_tests, taken_tests, step_tests, window_tests}
use Rattle.load.specs.Check.{check_fields, check_taken, check_step, check_window}
use Rattle.load_records.specs.Records.{header_kind, row_kind, step_kind, window_kind, end_kind, is_version}
use Rattle.load_file.specs.Places.{
  version_said,
  steps_said,
  windows_said,
  step_place,
  window_place,
  row_from,
  row_place,
  rows_said,
  load_in,
}
use Rattle.load_file.specs.Reading.{
  due_tests,
  header_tests,
  step_fault_in,
  window_fault_in,
  row_fault_at,
  row_fault_in,
  end_tests,
  file_fault,
  own_fault,
}
use Rattle.load_file.proofs.layout.RecordLaws.{
  differs_false,
  eq-differs,
  Due,
  good-due,
  due-good,
}

-- what the reading asks of row i, whose record stands at a place
pub record RowAccepted (bs : List ℕ) (i at : ℕ) : Type 0 where
  pub due : Due (row_kind (version_said bs)) bs at
  pub fields-good : check_fields (row_from bs at) ≡ Ok tt
  pub taken-good : check_taken (load_in bs) i (row_from bs at) ≡ Ok tt
  pub each-step-due : (j : ℕ) → j < steps_said bs at → Due step_kind bs (step_place bs at j)
  pub each-step-good : (j : ℕ) → j < steps_said bs at → check_step (row_from bs at) j ≡ Ok tt
  pub each-window-due : (k : ℕ) → k < windows_said bs at → Due window_kind bs (window_place bs at k)
  pub each-window-good : (k : ℕ) → k < windows_said bs at → check_window (row_from bs at) k ≡ Ok tt

module _ (bs : List ℕ) (i at : ℕ) where
  pub row_fault_at-good : row_fault_at bs i at ≡ Ok tt → RowAccepted bs i at
  unfolding row_fault_at own_fault step_fault_in window_fault_in
  row_fault_at-good h =
      let finding = first_fault-good (_ ∷ _ ∷ _ ∷ []) h in
      let row = row_from bs at in
      let front = append-good-first (due_tests (row_kind (version_said bs)) bs at ++ row_tests row) _ (finding 0) in
      let step = first_fault_to-good (step_fault_in bs at) (steps_said bs at) (finding 1) in
      let window = first_fault_to-good (window_fault_in bs at) (windows_said bs at) (finding 2) in
      record {
        due =
            good-due (row_kind (version_said bs)) bs at
            (append-good-first (due_tests (row_kind (version_said bs)) bs at) (row_tests row) front);
        fields-good = append-good-second (due_tests (row_kind (version_said bs)) bs at) (row_tests row) front;
        taken-good =
            append-good-second (due_tests (row_kind (version_said bs)) bs at ++ row_tests row)
            (taken_tests (load_in bs) i row)
            (finding 0);
        each-step-due =
            λ j l.
            good-due step_kind bs (step_place bs at j)
            (append-good-first (due_tests step_kind bs (step_place bs at j)) (step_tests row j) (step j l));
        each-step-good =
            λ j l. append-good-second (due_tests step_kind bs (step_place bs at j)) (step_tests row j) (step j l);
        each-window-due =
            λ k l.
            good-due window_kind bs (window_place bs at k)
            (append-good-first (due_tests window_kind bs (window_place bs at k)) (window_tests row k) (window k l));
        each-window-good =
            λ k l.
            append-good-second (due_tests window_kind bs (window_place bs at k)) (window_tests row k) (window k l);
      }

  pub good-row_fault_at : RowAccepted bs i at → row_fault_at bs i at ≡ Ok tt
  unfolding row_fault_at own_fault step_fault_in window_fault_in
  good-row_fault_at r =
      let row = row_from bs at in
      let fields =
      append-good-both (due_tests (row_kind (version_said bs)) bs at) (row_tests row)
      (due-good (row_kind (version_said bs)) bs at r.due)
      r.fields-good in
      let own =
      append-good-both (due_tests (row_kind (version_said bs)) bs at ++ row_tests row)
      (taken_tests (load_in bs) i row) fields
      r.taken-good in
      let steps =
      good-first_fault_to (step_fault_in bs at) (steps_said bs at)
      (λ j l.
      append-good-both (due_tests step_kind bs (step_place bs at j)) (step_tests row j)
      (due-good step_kind bs (step_place bs at j) (r.each-step-due j l)) (r.each-step-good j l)) in
      let windows =
      good-first_fault_to (window_fault_in bs at) (windows_said bs at)
      (λ k l.
      append-good-both (due_tests window_kind bs (window_place bs at k)) (window_tests row k)
      (due-good window_kind bs (window_place bs at k) (r.each-window-due k l)) (r.each-window-good k l)) in
      rw (own, steps, windows)

-- where the end record stands
abbrev pub end_place : List ℕ → ℕ
end_place bs = row_place bs (rows_said bs)

-- what the reading asks of a file
pub record FileAccepted (bs : List ℕ) : Type 0 where
  pub header-due : Due header_kind bs 0
  pub version-is : is_version (version_said bs) ≡ true
  pub few-rows : rows_said bs ≤ most_rows
  pub each_row : (i : ℕ) → i < rows_said bs → RowAccepted bs i (row_place bs i)
  pub end-due : Due end_kind bs (end_place bs)
  pub count-is : number_at 2 bs (end_place bs + 2) ≡ steps_in_all (view_of (load_in bs))
  pub no_more : length bs ≤ end_place bs + 4

module _ (bs : List ℕ) where
  pub file_fault-good : file_fault bs ≡ Ok tt → FileAccepted bs
  unfolding file_fault header_tests end_tests
  file_fault-good h =
      let finding = first_fault-good (_ ∷ _ ∷ _ ∷ []) h in
      let head = first_met-good (header_tests bs) (finding 0) in
      let row = first_fault_to-good (row_fault_in bs) (rows_said bs) (finding 1) in
      let tail = first_met-good (end_tests bs (end_place bs)) (finding 2) in
      let said : ℕ = number_at 2 bs (end_place bs + 2) in
      let count : ℕ = steps_in_all (view_of (load_in bs)) in
      record {
        header-due =
            good-due header_kind bs 0
            (append-good-first (due_tests header_kind bs 0) (drop 3 (header_tests bs)) (finding 0));
        version-is = not-false (is_version (version_said bs)) (head 3);
        few-rows = ltb-false most_rows (rows_said bs) (head 4);
        each_row = λ i l. row_fault_at-good bs i (row_place bs i) (row i l);
        end-due =
            good-due end_kind bs (end_place bs)
            (append-good-first (due_tests end_kind bs (end_place bs)) (drop 3 (end_tests bs (end_place bs)))
            (finding 2));
        count-is = differs_false said count (tail 3);
        no_more = ltb-false (end_place bs + 4) (length bs) (tail 4);
      }

  pub good-file_fault : FileAccepted bs → file_fault bs ≡ Ok tt
  unfolding file_fault header_tests end_tests
  good-file_fault f =
      let said : ℕ = number_at 2 bs (end_place bs + 2) in
      let same_version = ap not f.version-is in
      let few = le-ltb most_rows (rows_said bs) f.few-rows in
      let header : first_met (header_tests bs) ≡ (Ok tt) =
      append-good-both (due_tests header_kind bs 0) (drop 3 (header_tests bs))
      (due-good header_kind bs 0 f.header-due) (rw (same_version, few)) in
      let rows =
      good-first_fault_to (row_fault_in bs) (rows_said bs)
      (λ i l. good-row_fault_at bs i (row_place bs i) (f.each_row i l)) in
      let same_count = eq-differs said (steps_in_all (view_of (load_in bs))) f.count-is in
      let no_more = le-ltb (end_place bs + 4) (length bs) f.no_more in
      let end : first_met (end_tests bs (end_place bs)) ≡ (Ok tt) =
      append-good-both (due_tests end_kind bs (end_place bs)) (drop 3 (end_tests bs (end_place bs)))
      (due-good end_kind bs (end_place bs) f.end-due) (rw (same_count, no_more)) in
      rw (header, rows, end)
