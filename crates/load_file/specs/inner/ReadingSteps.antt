-- What the parts of the reading call give: definitions that its private functions cite, and no
-- public contract. To be read after Reading.
use Rattle.std.specs.Prelude.{ℕ, zero, suc, ◌+◌, ◌*◌, ◌≤◌, List, [], ◌∷◌, ◌++◌, ◌≡◌, get_or}
use Rattle.std.specs.Prelude.{replicate}
use Rattle.counting.specs.Lists.{filled}
use Rattle.refusals.specs.Checked.{Checked}
use Rattle.refusals.specs.FirstMet.{first_met, first_fault, first_fault_to}
use Rattle.load.specs.declared.Identifier.{Identifier}
use Rattle.load.specs.declared.BoxNumber.{BoxNumber}
use Rattle.load.specs.declared.Step.{Step}
use Rattle.load.specs.declared.Window.{Window}
use Rattle.load.specs.declared.Row.{Row}
use Rattle.load.specs.Load.{most_rows, most_steps, most_windows, no_step, no_window}
use Rattle.load.specs.Faults.{row_tests, taken_tests}
use Rattle.load_records.specs.Records.{Kind, row_kind, step_kind, window_kind}
use Rattle.load_file.specs.Places.{
  version_said,
  step_in,
  window_in,
  steps_said,
  row_with,
  row_from,
  row_place,
  rows_said,
  load_in,
}
use Rattle.load_file.specs.Reading.{steps_fault, windows_fault, end_tests}
use Rattle.load_file.specs.Reading.{row_fault_in}

-- the kind of record with a mark and a size
abbrev pub kind_of : List ℕ → ℕ → Kind
kind_of mark size = record { mark₁ = get_or mark 0 0; mark₂ = get_or mark 1 0; size = size }

-- n step records from a place on, and zeros in the places behind them
abbrev pub steps_from : List ℕ → ℕ → ℕ → List Step
steps_from bs from n = filled (λ j. step_in bs (from + step_kind.size * j)) n most_steps no_step

-- n window records from a place on, and zeros in the places behind them
abbrev pub windows_from : List ℕ → ℕ → ℕ → List Window
windows_from bs from n =
    filled (λ k. window_in bs (from + window_kind.size * k)) n most_windows no_window

-- a row's own fields, with no steps and no windows read yet
abbrev pub own_fields : List ℕ → ℕ → Row
own_fields bs at = row_with bs at (replicate most_steps no_step) (replicate most_windows no_window)

-- with its steps, and no windows read yet
abbrev pub with_steps : List ℕ → ℕ → Row
with_steps bs at =
    row_with bs at
    (steps_from bs (at + (row_kind (version_said bs)).size) (steps_said bs at))
    (replicate most_windows no_window)

-- the last step of the window record before record k from a place on, and 0 where there is none
abbrev pub last_in : List ℕ → ℕ → ℕ → ℕ
last_in bs from zero = 0
last_in bs from (suc k) = (window_in bs (from + window_kind.size * k)).last

-- the identifiers and the boxes of the rows before row i, and zeros in the places behind them
pub record RowsBefore (bs : List ℕ) (i : ℕ) (identifiers : List Identifier)
    (boxes : List BoxNumber) : Type 0 where
  pub said : i ≤ rows_said bs
  pub few : i ≤ most_rows
  pub identifiers-are : identifiers
      ≡ filled (λ k. (row_from bs (row_place bs k)).identifier) i most_rows (record { 0 = 0 })
  pub boxes-are : boxes
      ≡ filled (λ k. (row_from bs (row_place bs k)).box_number) i most_rows (record { 0 = 0 })

-- what row i is refused for by its own fields, and by what it shares with a row before
unfoldable pub fields_fault : List ℕ → ℕ → Row → Checked
fields_fault bs i row = first_met (row_tests row ++ taken_tests (load_in bs) i row)

-- what a row is refused for by its steps and then its windows
abbrev pub parts_fault : List ℕ → ℕ → Checked
parts_fault bs at = first_fault (steps_fault bs at ∷ windows_fault bs at ∷ [])

-- what a file is refused for behind its header
unfoldable pub rows_fault : List ℕ → Checked
rows_fault bs =
    first_fault
    (first_fault_to (row_fault_in bs) (rows_said bs)
    ∷ first_met (end_tests bs (row_place bs (rows_said bs)))
    ∷ [])
