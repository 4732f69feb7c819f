-- What reading a file gives is what reading its first bytes gives, one more than the longest file has: a file of so
-- many or more is refused, and for the number for which these bytes are. So nobody need look further.
use Prim.Native.Nat.{ℕ, ◌+◌, ◌≤◌, ◌<◌}
use mathlib.Core.Bool.{not}
use mathlib.Core.List.{List, [], ◌∷◌, ◌++◌}
use mathlib.Core.Path.{◌≡◌, refl, ap, ap₂, sym, ◌∙◌}
use native.Mathlib.Decide.{dec_lt}
use native.Mathlib.Omega.{arith}
use borrow.Author.Tests.{ltb-false, lt-ltb}
use lib.Dec.{eqb, ltb}
use lib.ListN.{length, take}
use lib.Seq.{take_all, length-take-le, get_or-take}
use Rattle.counting.specs.Sums.{sum_to}
use Rattle.counting.proofs.sums.SumLaws.{sum_to-ext}
use Rattle.words.specs.LittleEndian.{number_at}
use Rattle.refusals.specs.declared.Refusal.TheVariants.{MarkDiffers, OutOfRange, EndDiffers}
use Rattle.refusals.specs.Checked.{Checked}
use Rattle.std.specs.Prelude.{Ok, Err}
use Rattle.refusals.specs.FirstMet.{first_met, and_then, first_fault_to}
use Rattle.refusals.specs.Given.{given}
use Rattle.refusals.proofs.FirstMetLaws.{
  and_then-good-first,
  and_then-good-second,
  first_fault_to-good,
  good-first_fault_to,
}
use Rattle.refusals.proofs.FirstFaultLaws.{first_met-good, and_then-agree, first_fault_to-agree}
use Rattle.load.specs.Load.{most_rows}
use Rattle.load.specs.View.{view_of, steps_in_all}
use Rattle.load_records.specs.Records.{header_kind, end_kind, is_version, most_file_bytes}
use Rattle.load_file.specs.Places.{version_said, steps_said, row_place, rows_said, load_in}
use Rattle.load_file.specs.Reading.{due_tests, header_tests, row_fault_in, end_tests, file_fault, read_load}
use Rattle.load_file.proofs.faults.ReadingLaws.{steps_in_all-read}
use Rattle.load_file.proofs.faults.ReadingRowsLaws.{header-rows-le}
use Rattle.load_file.proofs.front.AgreeLaws.{Agree, number_at-agree, due_tests-agree, steps_said-agree}
use Rattle.load_file.proofs.front.AgreeFile.{Placed, said, placed, row-fault-agree}

module _ (bs cs : List ℕ) (a : Agree (most_file_bytes + 1) bs cs) where
  header-agree : header_tests bs ≡ header_tests cs
  unfolding header_tests
  header-agree =
      ap (λ due. due ++ (not (is_version (version_said bs)), MarkDiffers)
      ∷ (ltb most_rows (rows_said bs), OutOfRange) ∷ [])
      (due_tests-agree _ bs cs a header_kind 0 (omega arith) (omega arith))
      ∙ ap₂
      (λ v r. due_tests header_kind cs 0 ++ (not (is_version v), MarkDiffers) ∷ (ltb most_rows r, OutOfRange) ∷ [])
      (a.same 2 (omega arith)) (said bs cs a)

  rows_agree : rows_said bs ≤ most_rows
      → first_fault_to (row_fault_in bs) (rows_said bs) ≡ first_fault_to (row_fault_in cs) (rows_said cs)
  rows_agree few =
      first_fault_to-agree (row_fault_in bs) (row_fault_in cs) (rows_said bs)
      (λ i l before. row-fault-agree bs cs a i l few before)
      ∙ ap (first_fault_to (row_fault_in cs)) (said bs cs a)

  -- where all rows are Good
  module _ (few : rows_said bs ≤ most_rows) (good : first_fault_to (row_fault_in bs) (rows_said bs) ≡ Ok tt) where
    end : Placed bs cs (rows_said bs)
    end = placed bs cs a (rows_said bs) few good

    counts-agree : steps_in_all (view_of (load_in bs)) ≡ steps_in_all (view_of (load_in cs))
    counts-agree =
        sym (steps_in_all-read bs)
        ∙ sum_to-ext (λ i. steps_said bs (row_place bs i)) (λ i. steps_said cs (row_place cs i)) (rows_said bs) each
        ∙ ap (sum_to (λ i. steps_said cs (row_place cs i))) (said bs cs a)
        ∙ steps_in_all-read cs
      where
        each : (i : ℕ) → i < rows_said bs → steps_said bs (row_place bs i) ≡ steps_said cs (row_place cs i)
        each i l =
            let so_far =
            good-first_fault_to (row_fault_in bs) i
            (λ j h. first_fault_to-good (row_fault_in bs) (rows_said bs) good j (omega arith)) in
            let p = placed bs cs a i (omega arith) so_far in
            let le = p.place-le in
            steps_said-agree _ bs cs a (row_place bs i) (omega arith) ∙ ap (steps_said cs) p.place_same

    ends-agree : end_tests bs (row_place bs (rows_said bs)) ≡ end_tests cs (row_place cs (rows_said cs))
    unfolding end_tests
    ends-agree =
        let at = row_place bs (rows_said bs) in
        let le = end.place-le in
        let first_more = lt-ltb (at + 4) (length bs) (omega (arith, a.first-long)) in
        let second_more = lt-ltb (at + 4) (length cs) (omega (arith, a.second-long)) in
        let count = steps_in_all (view_of (load_in bs)) in
        let more = ltb (at + 4) (length bs) in
        ap₂ (λ due n. due ++ (not (eqb n count), EndDiffers) ∷ (more, EndDiffers) ∷ [])
        (due_tests-agree _ bs cs a end_kind at (omega arith) (omega arith))
        (number_at-agree _ bs cs a 2 (at + 2) (omega arith))
        ∙ ap₂
        (λ n t. due_tests end_kind cs at ++ (not (eqb (number_at 2 cs (at + 2)) n), EndDiffers) ∷ (t, EndDiffers) ∷ [])
        counts-agree (first_more ∙ sym second_more)
        ∙ ap (end_tests cs) (end.place_same ∙ ap (row_place cs) (said bs cs a))

  file-agree : file_fault bs ≡ file_fault cs
  unfolding file_fault
  file-agree =
      and_then-agree (first_met (header_tests bs)) (first_met (header_tests cs)) _ _ (ap first_met header-agree)
      (λ head.
      and_then-agree (first_fault_to (row_fault_in bs) (rows_said bs))
      (first_fault_to (row_fault_in cs) (rows_said cs)) _ _
      (rows_agree (header-rows-le bs head))
      (λ rows. ap (λ ts. and_then (first_met ts) (Ok tt)) (ends-agree (header-rows-le bs head) rows)))

  -- bytes follow the end record
  file-long : file_fault bs ≡ Ok tt → ⊥
  unfolding file_fault end_tests
  file-long good =
      let head = and_then-good-first (first_met (header_tests bs)) _ good in
      let behind = and_then-good-second (first_met (header_tests bs)) _ good in
      let rows = and_then-good-first (first_fault_to (row_fault_in bs) (rows_said bs)) _ behind in
      let last = and_then-good-second (first_fault_to (row_fault_in bs) (rows_said bs)) _ behind in
      let at = row_place bs (rows_said bs) in
      let tests = and_then-good-first (first_met (end_tests bs at)) (Ok tt) last in
      let no_more = ltb-false (at + 4) (length bs) (first_met-good (end_tests bs at) tests 4) in
      let few = header-rows-le bs head in
      let le = (end few rows).place-le in
      omega (arith, a.first-long)

  -- so both are refused, and alike
  read-agree : read_load bs ≡ read_load cs
  unfolding read_load
  read-agree = go (file_fault bs) refl
    where
      go : (c : Checked) → file_fault bs ≡ c → read_load bs ≡ read_load cs
      go (Ok tt) e = absurd (file-long e)
      go (Err refusal) e =
          ap (λ c. given c (load_in bs)) e ∙ sym (ap (λ c. given c (load_in cs)) (sym file-agree ∙ e))

-- one byte more than the longest file has is enough
pub read_load-front : (bs : List ℕ) → read_load bs ≡ read_load (take (most_file_bytes + 1) bs)
read_load-front bs =
    elim (dec_lt most_file_bytes (length bs)) [
      | yes l ↦ read-agree bs (take (most_file_bytes + 1) bs) (record {
        same = λ k h. sym (get_or-take (most_file_bytes + 1) bs k 0 h);
        first-long = omega arith;
        second-long = omega (arith, length-take-le (most_file_bytes + 1) bs (omega arith));
      })
      | no l ↦ ap read_load (sym (take_all (most_file_bytes + 1) bs (omega arith)))
    ]
