-- "Reading goes front to back and the first faulty record decides; inside a record 1, 2, 3 in field
-- order, then 4, 5 for a row, 6, 7 for a window", with 21 "after 3 and before 4" (2026-04); "other
-- versions stay under 2" (2026-05). To be read after Places. Rests on D1 to D8, D25, D29, D91 and
-- D92.
use Rattle.std.specs.Prelude.{ℕ, ◌+◌, Bool, not, List, [], ◌∷◌, ◌++◌, eqb, ltb, length}
use Rattle.std.specs.Prelude.{Result}
use Rattle.words.specs.LittleEndian.{byte_at, number_at}
use Rattle.refusals.specs.declared.Refusal.{Refusal}
use Rattle.refusals.specs.declared.Refusal.TheVariants.{FileShort, MarkDiffers}
use Rattle.refusals.specs.declared.Refusal.TheVariants.{OutOfRange, EndDiffers}
use Rattle.refusals.specs.Checked.{Checked}
use Rattle.refusals.specs.FirstMet.{first_met, first_fault, first_fault_to}
use Rattle.refusals.specs.Given.{given}
use Rattle.load.specs.declared.Load.{Load}
use Rattle.load.specs.Load.{most_rows}
use Rattle.load.specs.View.{view_of, steps_in_all}
use Rattle.load.specs.Faults.{row_tests, taken_tests, step_tests, window_tests}
use Rattle.load_records.specs.Records.{
  Kind,
  is_version,
  header_kind,
  row_kind,
  step_kind,
  window_kind,
  end_kind,
}
use Rattle.load_file.specs.Places.{
  version_said,
  steps_said,
  windows_said,
  step_place,
  window_place,
  row_from,
  row_place,
  rows_said,
  load_in,
}

-- a record that is due at a place: 1 where the file ends before or inside it, 2 where its mark
-- differs
abbrev pub due_tests : Kind → List ℕ → ℕ → List (Bool × Refusal)
due_tests kind bs at =
    (ltb (length bs) (at + kind.size), FileShort)
    ∷ (not (eqb (byte_at bs at) kind.mark₁), MarkDiffers)
    ∷ (not (eqb (byte_at bs (at + 1)) kind.mark₂), MarkDiffers)
    ∷ []

-- the header
unfoldable pub header_tests : List ℕ → List (Bool × Refusal)
header_tests bs =
    due_tests header_kind bs 0
    ++ (not (is_version (version_said bs)), MarkDiffers)
    ∷ (ltb most_rows (rows_said bs), OutOfRange)
    ∷ []

-- step record j of the row at a place
unfoldable pub step_fault_in : List ℕ → ℕ → ℕ → Checked
step_fault_in bs at j =
    first_met (due_tests step_kind bs (step_place bs at j) ++ step_tests (row_from bs at) j)

-- window record k of the row at a place
unfoldable pub window_fault_in : List ℕ → ℕ → ℕ → Checked
window_fault_in bs at k =
    first_met (due_tests window_kind bs (window_place bs at k) ++ window_tests (row_from bs at) k)

-- row i's own record, at a place
unfoldable pub own_fault : List ℕ → ℕ → ℕ → Checked
own_fault bs i at =
    first_met
    (due_tests (row_kind (version_said bs)) bs at
    ++ row_tests (row_from bs at)
    ++ taken_tests (load_in bs) i (row_from bs at))

-- its step records
abbrev pub steps_fault : List ℕ → ℕ → Checked
steps_fault bs at = first_fault_to (step_fault_in bs at) (steps_said bs at)

-- its window records
abbrev pub windows_fault : List ℕ → ℕ → Checked
windows_fault bs at = first_fault_to (window_fault_in bs at) (windows_said bs at)

-- row i, whose record stands at a place, with its steps and then its windows
unfoldable pub row_fault_at : List ℕ → ℕ → ℕ → Checked
row_fault_at bs i at =
    first_fault (own_fault bs i at ∷ steps_fault bs at ∷ windows_fault bs at ∷ [])

-- row i, where it stands
abbrev pub row_fault_in : List ℕ → ℕ → Checked
row_fault_in bs i = row_fault_at bs i (row_place bs i)

-- the end record: its count, and that no bytes follow
unfoldable pub end_tests : List ℕ → ℕ → List (Bool × Refusal)
end_tests bs at =
    due_tests end_kind bs at
    ++ (not (eqb (number_at 2 bs (at + 2)) (steps_in_all (view_of (load_in bs)))), EndDiffers)
    ∷ (ltb (at + end_kind.size) (length bs), EndDiffers)
    ∷ []

-- what a file is refused for: the first faulty record, front to back
unfoldable pub file_fault : List ℕ → Checked
file_fault bs =
    first_fault
    (first_met (header_tests bs)
    ∷ first_fault_to (row_fault_in bs) (rows_said bs)
    ∷ first_met (end_tests bs (row_place bs (rows_said bs)))
    ∷ [])

-- what the one-reader bench refuses of a file
abbrev pub file_for_bench : List ℕ → Checked
file_for_bench bs = file_fault bs

-- what reading a file gives: its load, and where it is refused the refusal alone
unfoldable pub read_load : List ℕ → Result Load Refusal
read_load bs = given (file_fault bs) (load_in bs)
