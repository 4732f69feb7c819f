-- "Read a load from comma-separated lines" (document 02, 2026-02): the program that writes the
-- version 1 file of a route sheet's load. To be read after sheet's Reading and load_records'
-- Writing.
use Rattle.std.specs.Prelude.{ℕ, List, ◌≡◌, Result}
use Rattle.refusals.specs.declared.Refusal.{Refusal}
use Rattle.refusals.specs.Given.{WritesOut, found_in}
use Rattle.load_records.specs.Writing.{load_bytes}
use Rattle.sheet.specs.SheetRows.{load_in_sheet}
use Rattle.sheet.specs.Reading.{sheet_fault}

-- answer(sheet, file): what reading the sheet refuses, and the room as it was; or the load's
-- version 1 file at the room's front, and its length
pub record Answer (bs out : List ℕ) (r : Result ℕ Refusal) (after : List ℕ) : Type 0 where
  pub writes-out : WritesOut (sheet_fault bs) (load_bytes 1 (load_in_sheet bs)) out r after
  -- never 22: a sheet carries no class and no head (2026-05); never 9: the room is enough
  pub never-short : found_in r ≡ sheet_fault bs
