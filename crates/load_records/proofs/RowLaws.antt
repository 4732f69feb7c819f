-- A row's records: what is written piece by piece over zeros is what the call gives, what it gives holds the row's
-- bytes at its front, and a row whose counts have places is written as it is.
use Prim.Native.Nat.{ℕ, ◌+◌, ◌-◌, ◌*◌, ◌≤◌, min}
use mathlib.Core.List.{List, ◌++◌}
use mathlib.Core.Path.{◌≡◌, ap, ap₂, ◌∙◌}
use native.Mathlib.Omega.{arith}
use lib.ListN.{length, take, replicate, length-append, length-replicate}
use lib.Seq.{sets, take-append_seam}
use Rattle.counting.specs.Lists.{join_to}
use Rattle.counting.proofs.lists.ListLaws.{join_to-length-same}
use Rattle.words.proofs.OverwriteLaws.{sets_more, sets-alone}
use Rattle.load.specs.declared.Row.{Row}
use Rattle.load.specs.Load.{most_steps, most_windows, step_at, window_at}
use Rattle.load_records.specs.declared.RowRecords.{RowRecords}
use Rattle.load_records.specs.Records.{row_kind, most_row_bytes, row_record, step_record, window_record}
use Rattle.load_records.specs.Writing.{row_bytes, counted_row}
use Rattle.load_records.specs.Calls.{records_holding}
use Rattle.load_records.proofs.LengthLaws.{
  row_kind-most,
  row_record-length,
  step_record-length,
  row_bytes-length,
}

-- a row's own record, its steps and its windows, written one behind the other
pub row_written : (v : ℕ) (row : Row) (out after-own after-steps after : List ℕ)
    → after-own ≡ sets out 0 (row_record v row)
    → after-steps ≡ sets after-own (row_kind v).size (join_to (λ j. step_record (step_at row j)) row.steps)
    → after
    ≡ sets after-steps ((row_kind v).size + 6 * row.steps)
    (join_to (λ k. window_record (window_at row k)) row.windows)
    → after ≡ sets out 0 (row_bytes v row)
unfolding row_bytes
row_written v row out after-own after-steps after p q r =
    let steps : List ℕ = join_to (λ j. step_record (step_at row j)) row.steps in
    let steps-length : length steps ≡ row.steps * 6 =
    join_to-length-same (λ j. step_record (step_at row j)) 6 row.steps (λ j. step_record-length (step_at row j)) in
    let size : ℕ = (row_kind v).size in
    let front_length : length (row_record v row ++ steps) ≡ size + row.steps * 6 =
    omega (arith, length-append (row_record v row) steps, row_record-length v row) in
    let front-written : after-steps ≡ sets out 0 (row_record v row ++ steps) =
    sets_more out after-own after-steps 0 size (row_record v row) steps (omega (arith, row_record-length v row)) p q in
    sets_more out after-steps after 0 (size + 6 * row.steps) (row_record v row ++ steps) _ (omega arith)
    front-written r

-- what was written over zeros is what the call gives, with its length
pub records_holding-is : (bs after : List ℕ) (n : ℕ) → after ≡ sets (replicate most_row_bytes 0) 0 bs → n ≡ length bs
    → length bs ≤ most_row_bytes → ◌≡◌ {A = RowRecords} (record { length = n; bytes = after }) (records_holding bs)
records_holding-is bs after n e size h =
    ap₂ (λ l t. record { length = l; bytes = t }) size (e ∙ sets-alone most_row_bytes 0 bs h)

module _ (row : Row) where
  pub counted-steps-le : (counted_row row).steps ≤ most_steps
  unfolding counted_row
  counted-steps-le = omega arith

  pub counted-windows-le : (counted_row row).windows ≤ most_windows
  unfolding counted_row
  counted-windows-le = omega arith

  -- there is room for every row
  pub counted-length-le : (v : ℕ) → length (row_bytes v (counted_row row)) ≤ most_row_bytes
  counted-length-le v =
      omega (arith, row_bytes-length v (counted_row row), row_kind-most v, counted-steps-le, counted-windows-le)

  pub counted_row-same : row.steps ≤ most_steps → row.windows ≤ most_windows → counted_row row ≡ row
  unfolding counted_row
  counted_row-same steps windows =
      let steps-same : min row.steps most_steps ≡ row.steps = omega arith in
      let windows-same : min row.windows most_windows ≡ row.windows = omega arith in
      ap₂
      (λ s w. record {
        identifier = row.identifier;
        box_number = row.box_number;
        phase = row.phase;
        deadline = row.deadline;
        steps = s;
        windows = w;
        class = row.class;
        head = row.head;
        step = row.step;
        window = row.window;
      })
      steps-same windows-same

-- what is given of a row: its length, which its places hold, and its bytes at the front
module _ (v : ℕ) (row : Row) (r : RowRecords) (e : r ≡ records_holding (row_bytes v (counted_row row))) where
  pub records-length : r.length ≡ length (row_bytes v (counted_row row))
  records-length = ap (λ (x : RowRecords). x.length) e

  records-places : length r.bytes ≡ most_row_bytes
  records-places =
      let bs = row_bytes v (counted_row row) in
      ap (λ (x : RowRecords). length x.bytes) e
      ∙ omega (
        arith,
        length-append bs (replicate (most_row_bytes - length bs) 0),
        length-replicate {A = ℕ} (most_row_bytes - length bs) 0,
        counted-length-le row v,
      )

  pub records-inside : r.length ≤ length r.bytes
  records-inside = omega (arith, records-length, records-places, counted-length-le row v)

  pub records-taken : take r.length r.bytes ≡ row_bytes v (counted_row row)
  records-taken =
      let bs = row_bytes v (counted_row row) in
      ap (λ (x : RowRecords). take x.length x.bytes) e
      ∙ take-append_seam bs (replicate (most_row_bytes - length bs) 0)
