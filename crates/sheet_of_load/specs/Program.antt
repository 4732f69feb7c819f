-- "Read a load .. and write one out" (document 02, 2026-02): the program that writes the route
-- sheet of a load file. To be read after load_file's Reading and sheet's Writing. Rests on D92.
use Rattle.std.specs.Prelude.{ℕ, List, [], ◌∷◌, ◌≡◌, Result}
use Rattle.refusals.specs.declared.Refusal.{Refusal}
use Rattle.refusals.specs.Checked.{Checked}
use Rattle.refusals.specs.FirstMet.{first_met, first_fault}
use Rattle.refusals.specs.Given.{WritesOut, found_in}
use Rattle.load.specs.Plain.{carried_tests}
use Rattle.load_file.specs.Places.{load_in}
use Rattle.load_file.specs.Reading.{file_fault}
use Rattle.sheet.specs.Writing.{sheet_bytes}

-- what a file is refused for that is to be a sheet: its own numbers, then 22 for "a class not 0 or
-- a head not 1" (2026-05)
abbrev pub export_fault : List ℕ → Checked
export_fault bs = first_fault (file_fault bs ∷ first_met (carried_tests (load_in bs)) ∷ [])

-- answer(file, sheet): what the file is refused for, and the room as it was; or the load's
-- sheet at the room's front, and its length
pub record Answer (bs out : List ℕ) (r : Result ℕ Refusal) (after : List ℕ) : Type 0 where
  pub writes-out : WritesOut (export_fault bs) (sheet_bytes (load_in bs)) out r after
  -- never 9: the room is enough
  pub never-short : found_in r ≡ export_fault bs
