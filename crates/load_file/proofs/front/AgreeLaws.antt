-- Two lists of bytes that agree in their first n: the numbers, the records and the rows that stand there are the same.
use Prim.Native.Nat.{ℕ, zero, suc, ◌+◌, ◌*◌, ◌≤◌, ◌<◌}
use mathlib.Core.Bool.{Bool, not}
use mathlib.Core.List.{List, [], ◌∷◌}
use mathlib.Core.Path.{◌≡◌, refl, ap, ap₂, sym, ◌∙◌}
use native.Mathlib.Omega.{arith}
use borrow.Author.Tests.{le-ltb}
use lib.Dec.{eqb, ltb}
use lib.ListN.{length}
use Rattle.counting.specs.Lists.{filled}
use Rattle.counting.proofs.lists.ListLaws.{filled-ext}
use Rattle.words.specs.LittleEndian.{byte_at, number_at}
use Rattle.refusals.specs.declared.Refusal.{Refusal}
use Rattle.refusals.specs.declared.Refusal.TheVariants.{FileShort, MarkDiffers}
use Rattle.load.specs.declared.Step.{Step}
use Rattle.load.specs.declared.Window.{Window}
use Rattle.load.specs.declared.Row.{Row}
use Rattle.load.specs.Load.{most_steps, most_windows, no_step, no_window}
use Rattle.load.specs.Faults.{row_tests}
use Rattle.load_records.specs.Records.{Kind, row_kind, most_row_bytes}
use Rattle.load_records.proofs.LengthLaws.{row_kind-most}
use Rattle.load_file.specs.Places.{
  version_said,
  step_in,
  window_in,
  steps_said,
  windows_said,
  step_place,
  window_place,
  row_with,
  row_from,
}
use Rattle.load_file.specs.Reading.{due_tests}
use Rattle.load_file.proofs.faults.ReadingLaws.{row_tests-with, identifier-with, box-with}

-- two lists of at least n bytes that agree in the first n
pub record Agree (n : ℕ) (bs cs : List ℕ) : Type 0 where
  pub same : (k : ℕ) → k < n → byte_at bs k ≡ byte_at cs k
  pub first-long : n ≤ length bs
  pub second-long : n ≤ length cs

-- the tests of a record that is due, of what they ask
abbrev due_by : Kind → Bool → ℕ → ℕ → List (Bool × Refusal)
due_by kind short x y =
    (short, FileShort) ∷ (not (eqb x kind.mark₁), MarkDiffers) ∷ (not (eqb y kind.mark₂), MarkDiffers) ∷ []

module _ (n : ℕ) (bs cs : List ℕ) (a : Agree n bs cs) where
  pub number_at-agree : (width at : ℕ) → at + width ≤ n → number_at width bs at ≡ number_at width cs at
  unfolding number_at
  number_at-agree zero at h = refl
  number_at-agree (suc width) at h =
      ap₂ (λ b m. b + 256 * m) (a.same at (omega arith)) (number_at-agree width (at + 1) (omega arith))

  pub due_tests-agree : (kind : Kind) (at : ℕ) → at + kind.size ≤ n → 2 ≤ kind.size
      → due_tests kind bs at ≡ due_tests kind cs at
  due_tests-agree kind at h l =
      let first-there = le-ltb (length bs) (at + kind.size) (omega (arith, a.first-long)) in
      let second-there = le-ltb (length cs) (at + kind.size) (omega (arith, a.second-long)) in
      ap (λ t. due_by kind t (byte_at bs at) (byte_at bs (at + 1))) (first-there ∙ sym second-there)
      ∙ ap₂ (due_by kind (ltb (length cs) (at + kind.size))) (a.same at (omega arith))
      (a.same (at + 1) (omega arith))

  -- the version that they name
  pub version-agree : 3 ≤ n → version_said bs ≡ version_said cs
  version-agree l = a.same 2 (omega arith)

  module _ (at : ℕ) (own : at + 22 ≤ n) where
    pub steps_said-agree : steps_said bs at ≡ steps_said cs at
    steps_said-agree = a.same (at + 18) (omega arith)

    pub windows_said-agree : windows_said bs at ≡ windows_said cs at
    windows_said-agree = a.same (at + 19) (omega arith)

    -- a row's own record, with any steps and windows
    row_with-agree : (step : List Step) (window : List Window) → row_with bs at step window ≡ row_with cs at step window
    unfolding row_with
    row_with-agree step window =
        rw (
          number_at-agree 4 (at + 2) (omega arith),
          number_at-agree 4 (at + 6) (omega arith),
          number_at-agree 4 (at + 10) (omega arith),
          number_at-agree 4 (at + 14) (omega arith),
          steps_said-agree,
          windows_said-agree,
          version-agree (omega arith),
          a.same (at + 20) (omega arith),
          a.same (at + 21) (omega arith),
        )

    pub row_tests-agree : row_tests (row_from bs at) ≡ row_tests (row_from cs at)
    row_tests-agree =
        sym (row_tests-with bs at [] []) ∙ ap row_tests (row_with-agree [] []) ∙ row_tests-with cs at [] []

    pub identifier-agree : (row_from bs at).identifier ≡ (row_from cs at).identifier
    identifier-agree =
        sym (identifier-with bs at [] [])
        ∙ ap (λ (row : Row). row.identifier) (row_with-agree [] [])
        ∙ identifier-with cs at [] []

    pub box-agree : (row_from bs at).box_number ≡ (row_from cs at).box_number
    box-agree =
        sym (box-with bs at [] [])
        ∙ ap (λ (row : Row). row.box_number) (row_with-agree [] [])
        ∙ box-with cs at [] []

  step_in-agree : (at : ℕ) → at + 6 ≤ n → step_in bs at ≡ step_in cs at
  step_in-agree at h =
      ap₂ (λ c w. record { cost = c; wait = w }) (number_at-agree 2 (at + 2) (omega arith))
      (number_at-agree 2 (at + 4) (omega arith))

  window_in-agree : (at : ℕ) → at + 6 ≤ n → window_in bs at ≡ window_in cs at
  window_in-agree at h =
      ap₂ (λ f l. record { first = f; last = l; limit = number_at 2 bs (at + 4) }) (a.same (at + 2) (omega arith))
      (a.same (at + 3) (omega arith))
      ∙ ap (λ m. record { first = byte_at cs (at + 2); last = byte_at cs (at + 3); limit = m })
      (number_at-agree 2 (at + 4) (omega arith))

  -- a row that announces no more steps and windows than a row has
  module _ (at : ℕ) (whole : at + most_row_bytes ≤ n) (steps : steps_said bs at ≤ most_steps)
      (windows : windows_said bs at ≤ most_windows) where
    pub step_place-agree : (j : ℕ) → step_place bs at j ≡ step_place cs at j
    step_place-agree j = ap (λ v. at + (row_kind v).size + 6 * j) (version-agree (omega arith))

    pub window_place-agree : (k : ℕ) → window_place bs at k ≡ window_place cs at k
    window_place-agree k =
        ap (◌+ 6 * k)
        (step_place-agree (steps_said bs at) ∙ ap (step_place cs at) (steps_said-agree at (omega arith)))

    size-most : (row_kind (version_said bs)).size ≤ 22
    size-most = row_kind-most (version_said bs)

    steps-agree : filled (λ j. step_in bs (step_place bs at j)) (steps_said bs at) most_steps no_step
        ≡ filled (λ j. step_in cs (step_place cs at j)) (steps_said cs at) most_steps no_step
    steps-agree =
        filled-ext (λ j. step_in bs (step_place bs at j)) (λ j. step_in cs (step_place cs at j))
        (steps_said bs at) most_steps
        no_step
        (λ j l. step_in-agree (step_place bs at j) (omega (arith, size-most)) ∙ ap (step_in cs) (step_place-agree j))
        ∙ ap (λ m. filled (λ j. step_in cs (step_place cs at j)) m most_steps no_step)
        (steps_said-agree at (omega arith))

    windows-agree : filled (λ k. window_in bs (window_place bs at k)) (windows_said bs at) most_windows no_window
        ≡ filled (λ k. window_in cs (window_place cs at k)) (windows_said cs at) most_windows no_window
    windows-agree =
        filled-ext (λ k. window_in bs (window_place bs at k)) (λ k. window_in cs (window_place cs at k))
        (windows_said bs at)
        most_windows no_window
        (λ k l.
        window_in-agree (window_place bs at k) (omega (arith, size-most)) ∙ ap (window_in cs) (window_place-agree k))
        ∙ ap (λ m. filled (λ k. window_in cs (window_place cs at k)) m most_windows no_window)
        (windows_said-agree at (omega arith))

    pub row_from-agree : row_from bs at ≡ row_from cs at
    unfolding row_from row_with
    row_from-agree =
        row_with-agree at (omega arith) _ _ ∙ ap₂ (row_with cs at) steps-agree windows-agree
