-- Reading a sheet: 18, 19 and 20 "before 3 to 7, of which too many rows comes first". To be read
-- after SheetRows.
use Rattle.std.specs.Prelude.{ℕ, List, [], ◌∷◌, Result}
use Rattle.refusals.specs.declared.Refusal.{Refusal}
use Rattle.refusals.specs.Checked.{Checked}
use Rattle.refusals.specs.FirstMet.{first_fault}
use Rattle.refusals.specs.Given.{given}
use Rattle.load.specs.declared.Load.{Load}
use Rattle.load.specs.Check.{check_load}
use Rattle.sheet.specs.LineFaults.{lines_fault}
use Rattle.sheet.specs.SheetRows.{load_in_sheet}

-- what a sheet is refused for: its lines, and then its load, whose row count is asked first
unfoldable pub sheet_fault : List ℕ → Checked
sheet_fault bs = first_fault (lines_fault bs ∷ check_load (load_in_sheet bs) ∷ [])

-- what reading a sheet gives: its load, or the refusal alone
unfoldable pub read_sheet : List ℕ → Result Load Refusal
read_sheet bs = given (sheet_fault bs) (load_in_sheet bs)
