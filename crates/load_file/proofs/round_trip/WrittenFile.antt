-- Writing then reading: the file of a load that passes the check spells that load, and the reading refuses nothing,
-- since each of its tests is one that the check made, or says that a record stands where it was written.
use Prim.Native.Nat.{ℕ, ◌+◌, ◌*◌, ◌^◌, ◌≤◌, ◌<◌}
use mathlib.Core.Bool.{true}
use mathlib.Core.List.{List}
use mathlib.Core.Path.{◌≡◌, ap, ap₂, ◌∙◌}
use native.Mathlib.Omega.{arith}
use Rattle.counting.specs.Lists.{filled}
use Rattle.counting.proofs.sums.SumLaws.{sum_to-le}
use Rattle.counting.proofs.tests.TestLaws.{all_from-true}
use Rattle.counting.proofs.lists.PieceLaws.{Stands, filled_is}
use Rattle.load.specs.declared.Row.{Row}
use Rattle.load.specs.declared.Load.{Load}
use Rattle.load.specs.Load.{
  most_rows,
  most_steps,
  most_windows,
  no_step,
  no_window,
  no_row,
  zero_row,
  row_at,
  step_at,
  window_at,
}
use Rattle.load.specs.View.{view_of, steps_in_all}
use Rattle.load.specs.Check.{is_zero_row, check_fields, check_taken, check_step, check_window}
use Rattle.load.proofs.CheckLaws.{RowGood, LoadGood, fields-steps-le, fields-windows-le}
use Rattle.load_records.specs.Records.{is_version, window_record}
use Rattle.load_records.specs.Writing.{row_bytes, load_bytes}
use Rattle.load_file.specs.Places.{
  version_said,
  step_in,
  window_in,
  steps_said,
  windows_said,
  step_place,
  window_place,
  row_from,
  row_place,
  rows_said,
  load_in,
  row_with,
}
use Rattle.load_file.specs.RoundTrip.{HeldRow, Held}
use Rattle.load_file.proofs.layout.FieldLaws.{
  step-due,
  step-read,
  window-due,
  window-read,
  end-due,
  end_read,
  Carried,
  RowRead,
  row-due,
  row_read,
  header-due,
  rows-read,
}
use Rattle.load_file.proofs.layout.PlaceLaws.{RowStands, row-parts, row-behind, FileStands, file-parts}
use Rattle.load_file.proofs.faults.ZeroLaws.{steps-unused, windows-unused, zero_row-is}
use Rattle.load_file.proofs.faults.FaultLaws.{RowAccepted, end_place, FileAccepted}

-- a row that the check passes, held in memory, whose bytes stand at a place
module _ (bs : List ℕ) (load : Load) (i at : ℕ) (row : Row) (held : HeldRow row) (good : RowGood load i row)
    (carried : Carried bs row) (h : Stands (row_bytes (version_said bs) row) bs at) where
  parts : RowStands bs at row
  parts = row-parts bs at row h

  pub written-fields : RowRead bs at row
  written-fields = row_read bs at row parts.own held carried

  steps-le : row.steps ≤ most_steps
  steps-le = fields-steps-le row good.fields-good

  windows-le : row.windows ≤ most_windows
  windows-le = fields-windows-le row good.fields-good

  window-place : (k : ℕ) → window_place bs at k ≡ step_place bs at row.steps + 6 * k
  window-place k = omega (arith, written-fields.steps-read)

  window-stands-there : (k : ℕ) → k < row.windows
      → Stands (window_record (window_at row k)) bs (window_place bs at k)
  window-stands-there k l = rw (window-place k) (parts.each-window k l)

  written-steps : filled (λ j. step_in bs (step_place bs at j)) (steps_said bs at) most_steps no_step ≡ row.step
  written-steps =
      ap (λ n. filled (λ j. step_in bs (step_place bs at j)) n most_steps no_step) written-fields.steps-read
      ∙ filled_is (λ j. step_in bs (step_place bs at j)) row.steps most_steps no_step no_step row.step steps-le
      held.step-places
      (λ j l.
      step-read bs (step_place bs at j) (step_at row j) (parts.each_step j l)
      (held.each_step j (omega (arith, steps-le))))
      (steps-unused row row.steps good.steps-zero)

  written-windows : filled (λ k. window_in bs (window_place bs at k)) (windows_said bs at) most_windows no_window
      ≡ row.window
  written-windows =
      ap (λ n. filled (λ k. window_in bs (window_place bs at k)) n most_windows no_window) written-fields.windows-read
      ∙ filled_is (λ k. window_in bs (window_place bs at k)) row.windows most_windows no_window no_window row.window
      windows-le held.window-places
      (λ k l.
      window-read bs (window_place bs at k) (window_at row k) (window-stands-there k l)
      (held.each-window k (omega (arith, windows-le))))
      (windows-unused row row.windows good.windows-zero)

  pub written_row : row_from bs at ≡ row
  unfolding row_from row_with
  written_row =
      λ i.
      record {
        identifier = record { 0 = written-fields.identifier-read i };
        box_number = record { 0 = written-fields.box_read i };
        phase = written-fields.phase-read i;
        deadline = written-fields.deadline-read i;
        steps = written-fields.steps-read i;
        windows = written-fields.windows-read i;
        class = written-fields.class-read i;
        head = written-fields.head_read i;
        step = written-steps i;
        window = written-windows i;
      }

  pub written-row-accepted : load_in bs ≡ load → RowAccepted bs i at
  written-row-accepted e =
      let f = written-fields in
      record {
        due = row-due bs at row parts.own;
        fields-good = ap check_fields written_row ∙ good.fields-good;
        taken-good = ap₂ (λ l r. check_taken l i r) e written_row ∙ good.taken-good;
        each-step-due =
            λ j l. step-due bs (step_place bs at j) (step_at row j) (parts.each_step j (omega (arith, f.steps-read)));
        each-step-good =
            λ j l. ap (λ r. check_step r j) written_row ∙ good.each-step-good j (omega (arith, f.steps-read));
        each-window-due =
            λ k l.
            window-due bs (window_place bs at k) (window_at row k)
            (window-stands-there k (omega (arith, f.windows-read)));
        each-window-good =
            λ k l. ap (λ r. check_window r k) written_row ∙ good.each-window-good k (omega (arith, f.windows-read));
      }

-- the end record's two bytes hold the count of steps
pub steps_in_all-lt : (load : Load) → LoadGood load → steps_in_all (view_of load) < 2 ^ 16
unfolding view_of
steps_in_all-lt load good =
    let few : load.rows ≤ 24 = good.few-rows in
    omega (
      arith,
      sum_to-le (λ i. (row_at load i).steps) load.rows most_steps
          (λ i l. fields-steps-le (row_at load i) (good.each-row-good i l).fields-good),
    )

-- the file of a load that the check passes, held in memory
module _ (bs : List ℕ) (load : Load) (held : Held load) (good : LoadGood load)
    (carried : (i : ℕ) → i < load.rows → Carried bs (row_at load i)) (e : bs ≡ load_bytes (version_said bs) load) where
  held-row : (i : ℕ) → i < load.rows → HeldRow (row_at load i)
  held-row i l = held.each_row i (omega (arith, good.few-rows))

  file : FileStands bs load
  unfolding row_place
  file =
      file-parts bs load
      (λ i l h.
      let fields = written-fields bs load i (row_place bs i) (row_at load i) (held-row i l) (good.each-row-good i l)
      (carried i l) h in
      row-behind bs (row_place bs i) (row_at load i) fields.steps-read fields.windows-read)
      e

  rows-said : rows_said bs ≡ load.rows
  rows-said = rows-read bs (version_said bs) load.rows file.header

  row_is : (i : ℕ) → i < load.rows → row_from bs (row_place bs i) ≡ row_at load i
  row_is i l =
      written_row bs load i (row_place bs i) (row_at load i) (held-row i l) (good.each-row-good i l) (carried i l)
      (file.each_row i l)

  written-rows : filled (λ i. row_from bs (row_place bs i)) (rows_said bs) most_rows zero_row ≡ load.row
  written-rows =
      ap (λ n. filled (λ i. row_from bs (row_place bs i)) n most_rows zero_row) rows-said
      ∙ filled_is (λ i. row_from bs (row_place bs i)) load.rows most_rows zero_row no_row load.row good.few-rows
      held.row-places row_is
      (λ i from l.
      zero_row-is (row_at load i) (held.each_row i l)
      (all_from-true (λ i. is_zero_row (row_at load i)) load.rows most_rows good.rows-zero i from l))

  -- the bytes spell the load
  pub written-load : load_in bs ≡ load
  unfolding load_in
  written-load = λ i. record { rows = rows-said i; row = written-rows i }

  pub written-accepted : is_version (version_said bs) ≡ true → FileAccepted bs
  written-accepted named =
      let end_is : end_place bs ≡ row_place bs load.rows = ap (row_place bs) rows-said in
      let count : ℕ = steps_in_all (view_of load) in
      record {
        header-due = header-due bs (version_said bs) load.rows file.header;
        version-is = named;
        few-rows = omega (arith, rows-said, good.few-rows);
        each_row =
            λ i l.
            let l : i < load.rows = omega (arith, rows-said) in
            written-row-accepted bs load i (row_place bs i) (row_at load i) (held-row i l) (good.each-row-good i l)
            (carried i l) (file.each_row i l) written-load;
        end-due = rw end_is (end-due bs (row_place bs load.rows) count file.end);
        count-is =
            rw (end_is, written-load)
            (end_read bs (row_place bs load.rows) count file.end (steps_in_all-lt load good));
        no_more = omega (arith, end_is, file.no_more);
      }
