-- `load_of_sheet::answer` writes the file of a load that was accepted, which has passed its check: so it has no more
-- bytes than the longest file, for which there is room. Version 1 carries it, since it is a sheet's.
use Rattle.std.proofs.Common.{◌≡◌, ◌≤◌, ap, arith, length, List, refl, ℕ}
use Rattle.std.specs.Prelude.{Result, Ok, Err}
use borrow.Author.Tests.{le-ltb}
use Rattle.refusals.specs.declared.Refusal.{Refusal}
use Rattle.refusals.specs.Checked.{Checked}
use Rattle.refusals.specs.Given.{Given}
use Rattle.refusals.proofs.GivenLaws.{enough-given}
use Rattle.refusals.proofs.PassedOn.{passed_on}
use Rattle.load.specs.declared.Load.{Load}
use Rattle.load.specs.Plain.{check_plain}
use Rattle.load_records.specs.Records.{most_file_bytes}
use Rattle.load_records.specs.Writing.{load_bytes}
use Rattle.load_records.specs.Calls.{Version1Size, WriteVersion1}
use Rattle.load_records.proofs.LengthLaws.{load_bytes-le}
use Rattle.sheet.specs.SheetRows.{load_in_sheet}
use Rattle.sheet.specs.Reading.{sheet_fault}
use Rattle.sheet.specs.Calls.{ReadSheet}
use Rattle.sheet.proofs.CallLaws.{ReadSheet-refused, ReadSheet-good, ReadSheet-load}
use Rattle.sheet.proofs.trip.ReadSheet.{read_plain}
use Rattle.sheet.proofs.trip.SheetTrip.{accepted-good}
use Rattle.load_of_sheet.specs.Program.{Answer}
use Rattle.load_of_sheet.proofs.answer.Goals as goal

is-refused : (bs out : List ℕ) (refusal : Refusal) (r : Result ℕ Refusal) → ReadSheet bs (Err refusal)
    → r ≡ Err refusal → Answer bs out r out
is-refused bs out refusal r e is =
    let fault = ReadSheet-refused bs refusal e in
    rw is
    (record {
      writes-out = record { length-is = rw fault; output-is = refl };
      never-short = rw fault;
    })

-- the load that is read is written
module _ (bs out : List ℕ) (load : Load) (e : ReadSheet bs (Ok load)) (room : most_file_bytes ≤ length out)
    (found : Checked) (after : List ℕ) (wrote : WriteVersion1 load out found after) where
  fault : sheet_fault bs ≡ Ok tt
  fault = ReadSheet-good bs load e

  plain : check_plain (load_in_sheet bs) ≡ Ok tt
  plain = read_plain bs (accepted-good bs fault)

  given : Given (Ok tt) (load_bytes 1 (load_in_sheet bs)) out found after
  given = rw (ReadSheet-load bs load e, plain) at wrote

  found-good : found ≡ Ok tt
  found-good =
      let fits = load_bytes-le 1 (load_in_sheet bs) (accepted-good bs fault) in
      enough-given (Ok tt) found (load_bytes 1 (load_in_sheet bs)) out after (omega arith) given

  is-written : (size : ℕ) → Version1Size load size → Answer bs out (Ok size) after
  is-written size sized =
      let file = load_bytes 1 (load_in_sheet bs) in
      let fits = load_bytes-le 1 (load_in_sheet bs) (accepted-good bs fault) in
      let size-is : size ≡ length file = rw (ReadSheet-load bs load e, plain) at sized in
      let room-is = le-ltb (length out) (length file) (omega arith) in
      record {
        writes-out = record {
          length-is = rw (fault, room-is) (ap Ok size-is);
          output-is = rw found-good at given.output-is;
        };
        never-short = rw fault;
      }

pub returns-in_err-load : goal.returns-in_err-load
returns-in_err-load c = is-refused _ _ _ _ c.in_err-load.ensures (passed_on _ _ c.from_residual.ensures.1)

pub returns-in_err-write_version_1 : goal.returns-in_err-write_version_1
returns-in_err-write_version_1 c =
    let found = found-good _ _ _ c.in_ok-load.ensures c.requires _ _ c.in_err-write_version_1.ensures in cc

pub returns : goal.returns
returns c =
    is-written _ _ _ c.in_ok-load.ensures c.requires _ _ c.write_version_1.ensures _ c.version_1_size.ensures
