-- The rows of a file, as they are read one behind the other: what is known when the rows before row i are read, that it
-- holds at the start and after one row more, and what the reading gives at the end.
use Prim.Native.Nat.{ℕ, ◌+◌, ◌*◌, ◌≤◌, ◌<◌}
use mathlib.Core.List.{List}
use mathlib.Core.Path.{◌≡◌, refl, sym, ap, ap₂, ◌∙◌}
use native.Mathlib.Numerals.{add-one}
use native.Mathlib.Omega.{arith}
use lib.ListN.{set, replicate}
use borrow.Author.Tests.{ltb-false}
use Rattle.counting.specs.Sums.{sum_to}
use Rattle.counting.specs.Lists.{filled}
use Rattle.counting.proofs.sums.SumLaws.{sum_to-zero, sum_to-next}
use Rattle.counting.proofs.lists.ListLaws.{filled_none, filled-stored}
use Rattle.refusals.specs.declared.Refusal.{Refusal}
use Rattle.std.specs.Prelude.{Ok, Err}
use Rattle.refusals.specs.FirstMet.{first_met, and_then, first_fault_to}
use Rattle.refusals.specs.Given.{given}
use Rattle.refusals.proofs.FirstMetLaws.{
  and_then-good-first,
  and_then-last,
  first_fault_to-zero,
  first_fault_to-one_more,
  first_fault_to-refused,
}
use Rattle.refusals.proofs.FirstFaultLaws.{first_met-good}
use Rattle.load.specs.declared.Identifier.{Identifier}
use Rattle.load.specs.declared.BoxNumber.{BoxNumber}
use Rattle.load.specs.declared.Row.{Row}
use Rattle.load.specs.Load.{most_rows, most_steps, most_windows, zero_row}
use Rattle.load.specs.View.{view_of, steps_in_all}
use Rattle.load_records.specs.Records.{row_kind, most_row_bytes}
use Rattle.load_records.proofs.LengthLaws.{row_kind-most}
use Rattle.load_file.specs.Places.{
  version_said,
  steps_said,
  windows_said,
  row_from,
  row_place,
  place_behind,
  rows_said,
  load_in,
  row_with,
}
use Rattle.load_file.specs.Reading.{header_tests, row_fault_at, row_fault_in, end_tests, file_fault, read_load}
use Rattle.load_file.specs.Reading.{own_fault}
use Rattle.load_file.specs.inner.ReadingSteps.{RowsBefore, rows_fault}
use Rattle.load_file.proofs.faults.ReadingLaws.{row_fault_at-parts, own-steps-le, own-windows-le, steps_in_all-read}

-- the rows before row i are read: no fault is found in them, they are kept, their identifiers and boxes too, the next
-- record stands at a place, and they have so many steps
pub record RowsRead (bs : List ℕ) (i : ℕ) (identifiers : List Identifier) (boxes : List BoxNumber) (rows : List Row)
    (at steps : ℕ) : Type 0 where
  pub no-fault : first_fault_to (row_fault_in bs) i ≡ Ok tt
  pub before : RowsBefore bs i identifiers boxes
  pub rows_are : rows ≡ filled (λ k. row_from bs (row_place bs k)) i most_rows zero_row
  pub place_is : at ≡ row_place bs i
  pub place-le : at ≤ 4 + most_row_bytes * i
  pub steps-are : steps ≡ sum_to (λ k. steps_said bs (row_place bs k)) i
  pub steps-le : steps ≤ 8 * i

pub row_place-zero : (bs : List ℕ) → row_place bs 0 ≡ 4
unfolding row_place
row_place-zero bs = refl

pub row_place-next : (bs : List ℕ) (i : ℕ) → row_place bs (i + 1) ≡ place_behind bs (row_place bs i)
unfolding row_place
row_place-next bs i = rw add-one

-- before the first row
pub rows_none : (bs : List ℕ) (zeros : Row) → zeros ≡ zero_row
    → RowsRead bs 0 (replicate most_rows (record { 0 = 0 })) (replicate most_rows (record { 0 = 0 }))
    (replicate most_rows zeros) 4 0
rows_none bs zeros e =
    record {
      no-fault = first_fault_to-zero (row_fault_in bs);
      before =
          record {
            said = omega arith;
            few = omega arith;
            identifiers-are = sym (filled_none _ most_rows _);
            boxes-are = sym (filled_none _ most_rows _);
          };
      rows_are = ap (replicate most_rows) e ∙ sym (filled_none _ most_rows zero_row);
      place_is = sym (row_place-zero bs);
      place-le = omega arith;
      steps-are = sym (sum_to-zero _);
      steps-le = omega arith;
    }

-- what is found in the rows and in the end record
module _ (bs : List ℕ) where
  rows_fault-parts : rows_fault bs
      ≡ and_then (first_fault_to (row_fault_in bs) (rows_said bs))
      (and_then (first_met (end_tests bs (row_place bs (rows_said bs)))) (Ok tt))
  unfolding rows_fault
  rows_fault-parts = refl

module _ {bs : List ℕ} {i : ℕ} {identifiers : List Identifier} {boxes : List BoxNumber} {rows : List Row} {at steps : ℕ}
    (so_far : RowsRead bs i identifiers boxes rows at steps) where
  -- row i is read
  module _ (l : i < rows_said bs) where
    -- and refused: it decides
    pub rows-refused : (refusal : Refusal) → row_fault_at bs i at ≡ Err refusal → rows_fault bs ≡ Err refusal
    rows-refused refusal h =
        let z : first_fault_to (row_fault_in bs) (rows_said bs) ≡ Err refusal =
        first_fault_to-refused (row_fault_in bs) (rows_said bs) i refusal l so_far.no-fault
        (ap (row_fault_at bs i) (sym so_far.place_is) ∙ h) in
        rows_fault-parts bs ∙ rw z

    -- and has no fault
    module _ (most : rows_said bs ≤ most_rows) (row : Row) (h : row_fault_at bs i at ≡ Ok tt)
        (row_is : row ≡ row_from bs at) where
      in_place : row ≡ row_from bs (row_place bs i)
      in_place = row_is ∙ ap (row_from bs) so_far.place_is

      own-good : own_fault bs i at ≡ Ok tt
      own-good = and_then-good-first _ _ (sym (row_fault_at-parts bs at i) ∙ h)

      steps-said : row.steps ≡ steps_said bs at
      unfolding row_from row_with
      steps-said = ap (λ row. row.steps) row_is

      windows-said : row.windows ≡ windows_said bs at
      unfolding row_from row_with
      windows-said = ap (λ row. row.windows) row_is

      pub few-steps : row.steps ≤ most_steps
      few-steps = rw steps-said (own-steps-le bs at i own-good)

      few-windows : row.windows ≤ most_windows
      few-windows = rw windows-said (own-windows-le bs at i own-good)

      pub rows_next : RowsRead bs (i + 1) (set identifiers i row.identifier) (set boxes i row.box_number)
          (set rows i row)
          (at + (row_kind (version_said bs)).size + 6 * row.steps + 6 * row.windows)
          (steps + row.steps)
      rows_next =
          let few : i < most_rows = omega arith in
          let most-steps : row.steps ≤ 8 = few-steps in
          let most-windows : row.windows ≤ 4 = few-windows in
          record {
            no-fault =
                first_fault_to-one_more (row_fault_in bs) i so_far.no-fault
                (ap (row_fault_at bs i) (sym so_far.place_is) ∙ h);
            before =
                record {
                  said = omega arith;
                  few = omega arith;
                  identifiers-are =
                      filled-stored (λ k. (row_from bs (row_place bs k)).identifier) i most_rows _ _ identifiers
                      so_far.before.identifiers-are
                      (ap (λ row. row.identifier) in_place)
                      few;
                  boxes-are =
                      filled-stored (λ k. (row_from bs (row_place bs k)).box_number) i most_rows _ _ boxes
                      so_far.before.boxes-are
                      (ap (λ row. row.box_number) in_place)
                      few;
                };
            rows_are =
                filled-stored (λ k. row_from bs (row_place bs k)) i most_rows zero_row row rows so_far.rows_are
                in_place few;
            place_is =
                rw (steps-said, windows-said) (ap (place_behind bs) so_far.place_is) ∙ sym (row_place-next bs i);
            place-le = omega (arith, row_kind-most (version_said bs));
            steps-are =
                ap₂ ◌+◌ so_far.steps-are (steps-said ∙ ap (steps_said bs) so_far.place_is)
                ∙ sym (sum_to-next (λ k. steps_said bs (row_place bs k)) i);
            steps-le = omega arith;
          }

  -- every row is read
  module _ (last : i ≡ rows_said bs) where
    pub steps-counted : steps ≡ steps_in_all (view_of (load_in bs))
    steps-counted =
        so_far.steps-are ∙ ap (sum_to (λ k. steps_said bs (row_place bs k))) last ∙ steps_in_all-read bs

    rows-good : first_fault_to (row_fault_in bs) (rows_said bs) ≡ Ok tt
    rows-good = ap (first_fault_to (row_fault_in bs)) (sym last) ∙ so_far.no-fault

    end-place : at ≡ row_place bs (rows_said bs)
    end-place = so_far.place_is ∙ ap (row_place bs) last

    -- the end record decides
    pub end-decides : rows_fault bs ≡ first_met (end_tests bs at)
    end-decides =
        rows_fault-parts bs
        ∙ rw rows-good (and_then-last (first_met (end_tests bs (row_place bs (rows_said bs)))))
        ∙ ap (λ at. first_met (end_tests bs at)) (sym end-place)

    -- the rows are those of the file
    pub read-is : (count : ℕ) → count ≡ rows_said bs → record { rows = count; row = rows } ≡ load_in bs
    unfolding load_in
    read-is count e =
        let filled-rows : rows ≡ filled (λ k. row_from bs (row_place bs k)) (rows_said bs) most_rows zero_row =
        so_far.rows_are ∙ ap (λ n. filled (λ k. row_from bs (row_place bs k)) n most_rows zero_row) last in
        rw (e, filled-rows)

-- the header, and what the reading of the file gives behind it
module _ (bs : List ℕ) where
  file_fault-parts : file_fault bs ≡ and_then (first_met (header_tests bs)) (rows_fault bs)
  unfolding file_fault rows_fault
  file_fault-parts = refl

  pub read_load-header : (r : Refusal) → first_met (header_tests bs) ≡ Err r → Err r ≡ read_load bs
  unfolding read_load
  read_load-header r e = let h : file_fault bs ≡ Err r = file_fault-parts ∙ rw e in rw h

  module _ (e : first_met (header_tests bs) ≡ Ok tt) where
    pub read_load-rows : given (rows_fault bs) (load_in bs) ≡ read_load bs
    unfolding read_load
    read_load-rows = let h : file_fault bs ≡ rows_fault bs = file_fault-parts ∙ rw e in rw h

    pub header-rows-le : rows_said bs ≤ most_rows
    unfolding header_tests
    header-rows-le = ltb-false most_rows (rows_said bs) (first_met-good (header_tests bs) e 4)
