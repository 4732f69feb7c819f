-- Demand 2 for route sheets: the witness of the round trip, and what follows from it. An accepted sheet reads to one
-- load, which is exported to the same bytes; an exported load reads back as itself.
use Prim.Native.Nat.{ℕ, ◌≤◌}
use mathlib.Core.List.{List, [], ◌∷◌}
use mathlib.Core.Path.{◌≡◌, refl, ap, sym, ◌∙◌}
use lib.ListN.{length}
use Rattle.words.specs.LittleEndian.{Bytes}
use Rattle.refusals.specs.Checked.{Checked}
use Rattle.std.specs.Prelude.{Ok}
use Rattle.refusals.proofs.GivenLaws.{given-good, given-is}
use Rattle.refusals.proofs.FirstFaultLaws.{finding_at, first_fault-good}
use Rattle.load.specs.declared.Load.{Load}
use Rattle.load.specs.Check.{check_load}
use Rattle.load.specs.Plain.{check_plain}
use Rattle.load_file.specs.RoundTrip.{Held, accepted}
use Rattle.sheet.specs.LineFaults.{lines_fault}
use Rattle.sheet.specs.SheetRows.{load_in_sheet}
use Rattle.sheet.specs.Reading.{sheet_fault, read_sheet}
use Rattle.sheet.specs.Writing.{sheet_bytes, most_sheet_bytes}
use Rattle.sheet.specs.SheetTrip.{AcceptedSheet, ExportedLoad, SheetTrip}
use Rattle.sheet.proofs.trip.ReadSheet.{read-sheet, read_plain, read_held}
use Rattle.sheet.proofs.trip.WrittenSheet.{exported-plain, written-load}
use Rattle.sheet.proofs.trip.WrittenLines.{written-lines}
use Rattle.sheet.proofs.trip.ByteLaws.{sheet_bytes-bytes}
use Rattle.sheet.proofs.marks.RowSize.{sheet_bytes-le}

-- what a sheet is refused for, in its order
abbrev findings : List ℕ → List Checked
findings bs = lines_fault bs ∷ check_load (load_in_sheet bs) ∷ []

module _ (bs : List ℕ) (h : sheet_fault bs ≡ Ok tt) where
  finding : (k : ℕ) → finding_at (findings bs) k ≡ Ok tt
  unfolding sheet_fault
  finding = first_fault-good (findings bs) h

  -- a sheet that is not refused spells a load that passes the check
  pub accepted-good : check_load (load_in_sheet bs) ≡ Ok tt
  accepted-good = finding 1

  -- what reading it gives
  pub read_sheet-good : read_sheet bs ≡ accepted (load_in_sheet bs)
  unfolding read_sheet
  read_sheet-good = rw h

  -- its load is exported to it
  pub accepted-exported : ExportedLoad (load_in_sheet bs) bs
  accepted-exported =
      record {
        held = read_held bs accepted-good;
        plain = read_plain bs accepted-good;
        sheet = read-sheet bs (finding 0);
      }

pub good-read_sheet : (bs : List ℕ) (load : Load) → read_sheet bs ≡ accepted load → sheet_fault bs ≡ Ok tt
unfolding read_sheet
good-read_sheet bs load h = given-good (sheet_fault bs) (load_in_sheet bs) load (sym h)

-- an accepted sheet reads to exactly one load
reads_load : (bs : List ℕ) → Bytes bs → sheet_fault bs ≡ Ok tt → AcceptedSheet bs (load_in_sheet bs)
reads_load bs b h = record { bytes = b; reads = read_sheet-good bs h }

AcceptedSheet-unique : (bs : List ℕ) (load other : Load) → AcceptedSheet bs load → AcceptedSheet bs other
    → load ≡ other
AcceptedSheet-unique bs load other a c = given-is (Ok tt) other load (sym a.reads ∙ c.reads)

sheet-exports : (bs : List ℕ) (load : Load) → AcceptedSheet bs load → ExportedLoad load bs
unfolding read_sheet
sheet-exports bs load a =
    let h : sheet_fault bs ≡ (Ok tt) = good-read_sheet bs load a.reads in
    let e : load_in_sheet bs ≡ load = sym (given-is (sheet_fault bs) (load_in_sheet bs) load (sym a.reads)) in
    rw (← e) (accepted-exported bs h)

-- an exported sheet is not refused, and spells the load
module _ (bs : List ℕ) (load : Load) (x : ExportedLoad load bs) where
  exported-load : load_in_sheet bs ≡ load
  exported-load = written-load bs load x

  exported-fault : sheet_fault bs ≡ Ok tt
  unfolding sheet_fault
  exported-fault = rw (written-lines bs load x, ap check_load exported-load ∙ (exported-plain bs load x).load-good)

  exported-reads : AcceptedSheet bs load
  exported-reads =
      record {
        bytes = rw x.sheet (sheet_bytes-bytes load);
        reads = read_sheet-good bs exported-fault ∙ ap accepted exported-load;
      }

  exported-le : length bs ≤ most_sheet_bytes
  exported-le = rw x.sheet (sheet_bytes-le load (exported-plain bs load x).load-good)

pub sheet-trip : SheetTrip
sheet-trip =
    record {
      some-load = reads_load;
      one-load = AcceptedSheet-unique;
      read-write = sheet-exports;
      write_read = exported-reads;
      sheet-le = exported-le;
    }

-- an accepted sheet's load is exported to the same bytes
pub read-write : (bs : List ℕ) (load : Load) → Bytes bs → read_sheet bs ≡ accepted load → sheet_bytes load ≡ bs
read-write bs load b h = sym (sheet-trip.read-write bs load (record { bytes = b; reads = h })).sheet

-- an exported load reads back as itself
pub write_read : (load : Load) → Held load → check_plain load ≡ Ok tt → read_sheet (sheet_bytes load) ≡ accepted load
write_read load held plain =
    (sheet-trip.write_read (sheet_bytes load) load (record { held = held; plain = plain; sheet = refl })).reads
