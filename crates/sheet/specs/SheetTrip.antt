-- "An exported sheet reads back as the same load, and an accepted sheet exports to the same bytes."
-- To be read after Writing and Reading, and after load_file's RoundTrip.
use Rattle.std.specs.Prelude.{ℕ, ◌≤◌, List, ◌≡◌, length, Ok}
use Rattle.words.specs.LittleEndian.{Bytes}
use Rattle.load.specs.declared.Load.{Load}
use Rattle.load.specs.Plain.{check_plain}
use Rattle.load_file.specs.RoundTrip.{Held, accepted}
use Rattle.sheet.specs.SheetRows.{load_in_sheet}
use Rattle.sheet.specs.Reading.{sheet_fault, read_sheet}
use Rattle.sheet.specs.Writing.{sheet_bytes, most_sheet_bytes}

-- bytes that are an accepted sheet, and the load that they read to
pub record AcceptedSheet (bs : List ℕ) (load : Load) : Type 0 where
  pub bytes : Bytes bs
  pub reads : read_sheet bs ≡ accepted load

-- a load held in memory that a sheet can carry, and the bytes that are its sheet
pub record ExportedLoad (load : Load) (bs : List ℕ) : Type 0 where
  pub held : Held load
  -- neither the load's own numbers nor 22: each of its rows has class 0 and head 1 (2026-05)
  pub plain : check_plain load ≡ Ok tt
  pub sheet : bs ≡ sheet_bytes load

-- the two round trips: of bytes and a load, the bytes read to the load exactly when the load is
-- exported as the bytes
pub record SheetTrip : Type 0 where
  -- a sheet that is not refused reads to a load
  pub some-load : (bs : List ℕ) → Bytes bs → sheet_fault bs ≡ Ok tt
      → AcceptedSheet bs (load_in_sheet bs)
  -- and to no other
  pub one-load : (bs : List ℕ) (load other : Load)
      → AcceptedSheet bs load → AcceptedSheet bs other → load ≡ other
  -- an accepted sheet's load passes the check, has class 0 and head 1 in each row, and is exported
  -- to the same bytes; so sheets that read to one load are one sheet
  pub read-write : (bs : List ℕ) (load : Load) → AcceptedSheet bs load → ExportedLoad load bs
  -- an exported sheet reads back as the same load
  pub write_read : (bs : List ℕ) (load : Load) → ExportedLoad load bs → AcceptedSheet bs load
  -- a load's sheet has at most 9,528 bytes
  pub sheet-le : (bs : List ℕ) (load : Load) → ExportedLoad load bs → length bs ≤ most_sheet_bytes
