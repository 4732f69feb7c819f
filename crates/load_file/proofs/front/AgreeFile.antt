-- Two files that agree in one byte more than the longest file has, and are at least as long: a row that is Good takes
-- at most `most_row_bytes`, so row by row no record that is due stands past these bytes, and the first faulty row is
-- refused for the same number.
use Prim.Native.Nat.{ℕ, zero, suc, ◌+◌, ◌*◌, ◌≤◌, ◌<◌}
use mathlib.Core.List.{List, [], ◌∷◌, ◌++◌}
use mathlib.Core.Path.{◌≡◌, refl, ap, ap₂, sym, ◌∙◌}
use native.Mathlib.Omega.{arith}
use lib.Dec.{eqb}
use Rattle.counting.proofs.tests.TestLaws.{any_to-ext}
use Rattle.refusals.specs.declared.Refusal.TheVariants.{IdentifierTaken, BoxTaken}
use Rattle.std.specs.Prelude.{Ok}
use Rattle.refusals.specs.FirstMet.{first_met, and_then, first_fault_to}
use Rattle.refusals.proofs.FirstMetLaws.{
  and_then-good-first,
  and_then-good-second,
  first_fault_to-ext,
  first_fault_to-good,
  good-first_fault_to,
}
use Rattle.refusals.proofs.FirstFaultLaws.{and_then-agree}
use Rattle.load.specs.declared.Row.{Row}
use Rattle.load.specs.Load.{most_rows, most_steps, most_windows, row_at}
use Rattle.load.specs.Faults.{taken_tests, step_tests, window_tests}
use Rattle.load_records.specs.Records.{row_kind, step_kind, window_kind, most_row_bytes, most_file_bytes}
use Rattle.load_records.proofs.LengthLaws.{row_kind-least, row_kind-most}
use Rattle.load_file.specs.Places.{
  version_said,
  steps_said,
  windows_said,
  step_place,
  window_place,
  row_from,
  row_place,
  rows_said,
  load_in,
}
use Rattle.load_file.specs.Reading.{
  due_tests,
  step_fault_in,
  window_fault_in,
  row_fault_at,
  row_fault_in,
  own_fault,
  steps_fault,
  windows_fault,
}
use Rattle.load_file.proofs.faults.ReadingLaws.{
  row_at-read,
  row_fault_at-parts,
  own-steps-le,
  own-windows-le,
}
use Rattle.load_file.proofs.front.AgreeLaws.{
  Agree,
  version-agree,
  due_tests-agree,
  steps_said-agree,
  windows_said-agree,
  row_tests-agree,
  identifier-agree,
  box-agree,
  step_place-agree,
  window_place-agree,
  row_from-agree,
}

-- where row i stands is the same, and how far that is
pub record Placed (bs cs : List ℕ) (i : ℕ) : Type 0 where
  pub place_same : row_place bs i ≡ row_place cs i
  pub place-le : row_place bs i ≤ 4 + most_row_bytes * i

module _ (bs cs : List ℕ) (a : Agree (most_file_bytes + 1) bs cs) where
  pub said : rows_said bs ≡ rows_said cs
  said = a.same 3 (omega arith)

  placed-next : (i : ℕ) → i < most_rows → Placed bs cs i → row_fault_in bs i ≡ Ok tt → Placed bs cs (suc i)
  unfolding row_place
  placed-next i l p good =
      let at = row_place bs i in
      let le = p.place-le in
      let own = and_then-good-first (own_fault bs i at) _ (sym (row_fault_at-parts bs at i) ∙ good) in
      let steps = own-steps-le bs at i own in
      let windows = own-windows-le bs at i own in
      let same-steps = steps_said-agree _ bs cs a at (omega arith) in
      let same-windows = windows_said-agree _ bs cs a at (omega arith) in
      let same_version = version-agree _ bs cs a (omega arith) in
      record {
        place_same =
            ap (λ v. at + (row_kind v).size + 6 * steps_said bs at + 6 * windows_said bs at) same_version
            ∙ ap₂ (λ s w. at + (row_kind (version_said cs)).size + 6 * s + 6 * w) same-steps same-windows
            ∙ ap (λ p. window_place cs p (windows_said cs p)) p.place_same;
        place-le = omega (arith, row_kind-most (version_said bs));
      }

  pub placed : (i : ℕ) → i ≤ most_rows → first_fault_to (row_fault_in bs) i ≡ Ok tt → Placed bs cs i
  unfolding first_fault_to row_place
  placed zero l good = record { place_same = refl; place-le = omega arith }
  placed (suc i) l good =
      placed-next i (omega arith)
      (placed i (omega arith) (and_then-good-first (first_fault_to (row_fault_in bs) i) (row_fault_in bs i) good))
      (and_then-good-second (first_fault_to (row_fault_in bs) i) (row_fault_in bs i) good)

  -- row i of both files, where the rows before it are Good
  module _ (i : ℕ) (l : i < rows_said bs) (few : rows_said bs ≤ most_rows)
      (before : first_fault_to (row_fault_in bs) i ≡ Ok tt)
    where
      at : ℕ
      at = row_place bs i

      here : Placed bs cs i
      here = placed i (omega arith) before

      earlier : (k : ℕ) → k < i → Placed bs cs k
      earlier k h =
          placed k (omega arith)
          (good-first_fault_to (row_fault_in bs) k
          (λ j m. first_fault_to-good (row_fault_in bs) i before j (omega arith)))

      -- what earlier rows hold
      identifier-earlier : (k : ℕ) → k < i → (row_at (load_in bs) k).identifier ≡ (row_at (load_in cs) k).identifier
      identifier-earlier k h =
          let e = earlier k h in
          let le = e.place-le in
          ap (λ (row : Row). row.identifier) (row_at-read bs k (omega arith))
          ∙ identifier-agree _ bs cs a (row_place bs k) (omega arith)
          ∙ ap (λ p. (row_from cs p).identifier) e.place_same
          ∙ sym (ap (λ (row : Row). row.identifier) (row_at-read cs k (omega (arith, said))))

      box-earlier : (k : ℕ) → k < i → (row_at (load_in bs) k).box_number ≡ (row_at (load_in cs) k).box_number
      box-earlier k h =
          let e = earlier k h in
          let le = e.place-le in
          ap (λ (row : Row). row.box_number) (row_at-read bs k (omega arith))
          ∙ box-agree _ bs cs a (row_place bs k) (omega arith)
          ∙ ap (λ p. (row_from cs p).box_number) e.place_same
          ∙ sym (ap (λ (row : Row). row.box_number) (row_at-read cs k (omega (arith, said))))

      taken-agree : taken_tests (load_in bs) i (row_from bs at) ≡ taken_tests (load_in cs) i (row_from cs at)
      unfolding taken_tests at
      taken-agree =
          let le = here.place-le in
          ap₂ (λ x y. (x, IdentifierTaken) ∷ (y, BoxTaken) ∷ [])
          (any_to-ext _ _ i
          (λ k h.
          ap₂ (λ x y. eqb x.0 y.0) (identifier-earlier k h)
          (identifier-agree _ bs cs a at (omega arith))))
          (any_to-ext _ _ i
          (λ k h. ap₂ (λ x y. eqb x.0 y.0) (box-earlier k h) (box-agree _ bs cs a at (omega arith))))

      due-agree : due_tests (row_kind (version_said bs)) bs at ≡ due_tests (row_kind (version_said cs)) cs at
      unfolding at
      due-agree =
          let le = here.place-le in
          due_tests-agree _ bs cs a (row_kind (version_said bs)) at (omega (arith, row_kind-most (version_said bs)))
          (omega (arith, row_kind-least (version_said bs)))
          ∙ ap (λ v. due_tests (row_kind v) cs at) (version-agree _ bs cs a (omega arith))

      own-agree : own_fault bs i at ≡ own_fault cs i at
      unfolding own_fault at
      own-agree =
          let le = here.place-le in
          ap₂ (λ d t. first_met (d ++ t))
          (ap₂ ◌++◌ due-agree (row_tests-agree _ bs cs a at (omega arith)))
          taken-agree

      -- the steps and windows of a row whose own record is Good
      module _ (good : own_fault bs i at ≡ Ok tt) where
        steps-most : steps_said bs at ≤ most_steps
        steps-most = own-steps-le bs at i good

        windows-most : windows_said bs at ≤ most_windows
        windows-most = own-windows-le bs at i good

        whole : at + most_row_bytes ≤ most_file_bytes + 1
        unfolding at
        whole = let le = here.place-le in omega arith

        row-agree : row_from bs at ≡ row_from cs at
        row-agree = row_from-agree _ bs cs a at whole steps-most windows-most

        steps-agree : steps_fault bs at ≡ steps_fault cs at
        unfolding step_fault_in
        steps-agree =
            let w = whole in
            let most = steps-most in
            first_fault_to-ext (step_fault_in bs at) (step_fault_in cs at) (steps_said bs at)
            (λ j h.
            ap₂ (λ d row. first_met (d ++ step_tests row j))
            (due_tests-agree _ bs cs a step_kind (step_place bs at j) (omega (arith, row_kind-most (version_said bs)))
            (omega arith)
            ∙ ap (due_tests step_kind cs) (step_place-agree _ bs cs a at whole steps-most windows-most j))
            row-agree)
            ∙ ap (first_fault_to (step_fault_in cs at)) (steps_said-agree _ bs cs a at (omega arith))

        windows-agree : windows_fault bs at ≡ windows_fault cs at
        unfolding window_fault_in
        windows-agree =
            let w = whole in
            let most = steps-most in
            let few-windows = windows-most in
            first_fault_to-ext (window_fault_in bs at) (window_fault_in cs at) (windows_said bs at)
            (λ k h.
            ap₂ (λ d row. first_met (d ++ window_tests row k))
            (due_tests-agree _ bs cs a window_kind (window_place bs at k)
            (omega (arith, row_kind-most (version_said bs)))
            (omega arith)
            ∙ ap (due_tests window_kind cs) (window_place-agree _ bs cs a at whole steps-most windows-most k))
            row-agree)
            ∙ ap (first_fault_to (window_fault_in cs at)) (windows_said-agree _ bs cs a at (omega arith))

      pub row-fault-agree : row_fault_in bs i ≡ row_fault_in cs i
      unfolding at
      row-fault-agree =
          row_fault_at-parts bs at i
          ∙ and_then-agree (own_fault bs i at) (own_fault cs i at) _ _ own-agree
          (λ good. ap₂ (λ s w. and_then s (and_then w (Ok tt))) (steps-agree good) (windows-agree good))
          ∙ sym (row_fault_at-parts cs at i)
          ∙ ap (row_fault_at cs i) here.place_same
