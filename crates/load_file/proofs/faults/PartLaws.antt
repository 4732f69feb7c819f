-- The parts of a row, as they are read: the own fields with the steps and the windows that were read are the row, and
-- what is found of a step's or a window's record is the fault of that part.
use Prim.Native.Nat.{ℕ, zero, suc, ◌+◌, ◌*◌, ◌<◌}
use mathlib.Core.List.{List, ◌++◌}
use mathlib.Core.Path.{◌≡◌, refl, sym, ap, ap₂, ◌∙◌}
use native.Mathlib.Omega.{arith}
use lib.Dec.{eqb}
use Rattle.counting.proofs.lists.ListLaws.{get_or-filled}
use Rattle.refusals.specs.FirstMet.{first_met}
use Rattle.load.specs.declared.Step.{Step}
use Rattle.load.specs.declared.Window.{Window}
use Rattle.load.specs.declared.Row.{Row}
use Rattle.load.specs.Load.{most_steps, most_windows, shown, no_step, no_window}
use Rattle.load.specs.Faults.{step_tests, step_numbers, window_tests, window_numbers, last_before}
use Rattle.load_records.specs.Records.{row_kind, step_kind, window_kind}
use Rattle.load_file.specs.Places.{
  version_said,
  step_in,
  window_in,
  steps_said,
  windows_said,
  step_place,
  window_place,
  row_with,
  row_from,
}
use Rattle.load_file.specs.Reading.{due_tests, step_fault_in, window_fault_in}
use Rattle.load_file.specs.inner.ReadingSteps.{steps_from, windows_from, own_fields, with_steps, last_in}

-- parts of which every number is 0
pub step-none : (s : Step) → (s.cost ≡ 0) × (s.wait ≡ 0) → s ≡ no_step
step-none s e = λ i. record { cost = e.0 i; wait = e.1 i }

pub window-none : (w : Window) → (w.first ≡ 0) × ((w.last ≡ 0) × (w.limit ≡ 0)) → w ≡ no_window
window-none w e = λ i. record { first = e.0 i; last = e.1.0 i; limit = e.1.1 i }

module _ (bs : List ℕ) (at : ℕ) where
  -- of a row whose steps are read, the tests of a step and of a window are those of the row
  pub step_tests-read : (j : ℕ) → j < steps_said bs at
      → step_tests (row_from bs at) j
      ≡ step_numbers (step_in bs (step_place bs at j)) (eqb (shown j) (steps_said bs at))
  unfolding step_tests row_from row_with
  step_tests-read j l =
      ap (λ s. step_numbers s (eqb (shown j) (steps_said bs at)))
      (get_or-filled (λ j. step_in bs (step_place bs at j)) (steps_said bs at) most_steps j no_step no_step l)

  -- the own fields with the steps that were read, and with the windows
  module _ {own : Row} {step : List Step} (fields : own ≡ own_fields bs at)
      (steps : step ≡ steps_from bs (at + (row_kind (version_said bs)).size) (steps_said bs at)) where
    pub steps-put : record {
      identifier = own.identifier;
      box_number = own.box_number;
      phase = own.phase;
      deadline = own.deadline;
      steps = own.steps;
      windows = own.windows;
      class = own.class;
      head = own.head;
      step = step;
      window = own.window;
    } ≡ with_steps bs at
    unfolding row_with
    steps-put = rw (fields, steps)

    pub windows-put : {window : List Window}
        → window ≡ windows_from bs (step_place bs at (steps_said bs at)) (windows_said bs at)
        → record {
          identifier = own.identifier;
          box_number = own.box_number;
          phase = own.phase;
          deadline = own.deadline;
          steps = own.steps;
          windows = own.windows;
          class = own.class;
          head = own.head;
          step = step;
          window = window;
        }
        ≡ row_from bs at
    unfolding row_with row_from
    windows-put windows = rw (fields, steps, windows)

  -- what is found of a step's record is the fault of that step
  pub step_fault-read : (from count j : ℕ) → from ≡ at + (row_kind (version_said bs)).size → count ≡ steps_said bs at
      → j < count
      → first_met (due_tests step_kind bs (from + 6 * j)
      ++ step_numbers (step_in bs (from + 6 * j)) (eqb (shown j) count))
      ≡ step_fault_in bs at j
  unfolding step_fault_in
  step_fault-read from count j place said l =
      rw (place, said)
      (ap (λ ts. first_met (due_tests step_kind bs (step_place bs at j) ++ ts)) (sym (step_tests-read j (omega arith))))

  -- the tests of a window ask the steps of its row, and the window before it
  last_before-read : (from k : ℕ) → from ≡ step_place bs at (steps_said bs at) → k < windows_said bs at
      → last_before (row_from bs at) k ≡ last_in bs from k
  unfolding row_from row_with
  last_before-read from zero place l = refl
  last_before-read from (suc k) place l =
      rw place
      (ap (λ w. w.last)
      (get_or-filled (λ k. window_in bs (window_place bs at k)) (windows_said bs at) most_windows k no_window no_window
      (omega arith)))

  window_tests-read : (from k : ℕ) → from ≡ step_place bs at (steps_said bs at) → k < windows_said bs at
      → window_tests (row_from bs at) k
      ≡ window_numbers (with_steps bs at) (window_in bs (window_place bs at k)) (last_in bs from k)
  unfolding window_tests row_from row_with
  window_tests-read from k place l =
      ap₂ (window_numbers (row_from bs at))
      (get_or-filled (λ k. window_in bs (window_place bs at k))
      (windows_said bs at) most_windows k no_window no_window l)
      (last_before-read from k place l)

  -- what is found of a window's record is the fault of that window
  pub window_fault-read : (from k before : ℕ) → from ≡ step_place bs at (steps_said bs at) → k < windows_said bs at
      → before ≡ last_in bs from k
      → first_met
      (due_tests window_kind bs (from + 6 * k)
      ++ window_numbers (with_steps bs at) (window_in bs (from + 6 * k)) before)
      ≡ window_fault_in bs at k
  unfolding window_fault_in
  window_fault-read from k before place l e =
      let last : before ≡ last_in bs (step_place bs at (steps_said bs at)) k = e ∙ ap (λ f. last_in bs f k) place in
      rw (place, last)
      (ap (λ ts. first_met (due_tests window_kind bs (window_place bs at k) ++ ts))
      (sym (window_tests-read (step_place bs at (steps_said bs at)) k refl l)))
