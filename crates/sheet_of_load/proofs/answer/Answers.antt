-- `sheet_of_load::answer` writes the sheet of a load that was accepted, which has passed its check: so nothing but 22
-- is left to find, and the sheet has no more bytes than the longest, for which there is room.
use Rattle.std.proofs.Common.{◌≡◌, ◌≤◌, ◌∙◌, [], ◌∷◌, ap, arith, length, List, refl, sym, ℕ}
use Rattle.std.specs.Prelude.{Result, Ok, Err}
use borrow.Author.Tests.{le-ltb}
use Rattle.words.specs.LittleEndian.{Bytes}
use Rattle.refusals.specs.declared.Refusal.{Refusal}
use Rattle.refusals.specs.Checked.{Checked}
use Rattle.refusals.specs.FirstMet.{first_met, first_fault}
use Rattle.refusals.specs.Given.{given, found_in, WritesOut}
use Rattle.refusals.proofs.FirstMetLaws.{and_then-last}
use Rattle.refusals.proofs.PassedOn.{passed_on}
use Rattle.load.specs.declared.Load.{Load}
use Rattle.load.specs.Check.{check_load}
use Rattle.load.specs.Plain.{carried_tests, check_plain}
use Rattle.load_file.specs.Places.{load_in}
use Rattle.load_file.specs.Calls.{ReadLoad}
use Rattle.load_file.proofs.CallLaws.{ReadLoad-refused, ReadLoad-good, ReadLoad-load, ReadLoad-accepted}
use Rattle.sheet.specs.Writing.{sheet_bytes, most_sheet_bytes}
use Rattle.sheet.specs.Calls.{WriteSheet}
use Rattle.sheet.proofs.marks.RowSize.{sheet_bytes-le}
use Rattle.sheet_of_load.specs.Program.{export_fault, Answer}
use Rattle.sheet_of_load.proofs.answer.Goals as goal

-- a load that passes its check is refused with 22 or not at all
carried-left : (load : Load) → check_load load ≡ Ok tt → check_plain load
    ≡ first_fault (first_met (carried_tests load) ∷ [])
unfolding check_plain
carried-left load good = rw good

-- what was found, of a length that is given
found-given : (found : Checked) (size : ℕ) → found_in (given found size) ≡ found
found-given (Ok tt) size = refl
found-given (Err refusal) size = refl

is-refused : (bs out : List ℕ) (refusal : Refusal) (r : Result ℕ Refusal) → ReadLoad bs (Err refusal)
    → r ≡ Err refusal → Answer bs out r out
is-refused bs out refusal r e is =
    let own = ReadLoad-refused bs refusal e in
    rw is
    (record {
      writes-out = record { length-is = rw own; output-is = refl };
      never-short = rw own;
    })

-- the load that is read is written, or 22
is-written : (bs out : List ℕ) (load : Load) → ReadLoad bs (Ok load) → Bytes bs → most_sheet_bytes ≤ length out
    → (r : Result ℕ Refusal) (after : List ℕ) → WriteSheet load out r after → Answer bs out r after
is-written bs out load e bytes room r after wrote =
    let is = ReadLoad-load bs load e in
    let good = ap check_load (sym is) ∙ ReadLoad-accepted bs load e bytes in
    let fault : check_plain (load_in bs) ≡ export_fault bs =
    rw (ReadLoad-good bs load e) (carried-left (load_in bs) good) in
    let sheet = sheet_bytes (load_in bs) in
    let told : WritesOut (export_fault bs) sheet out r after = rw (is, fault) at wrote in
    let fits = sheet_bytes-le (load_in bs) good in
    let length-is : r ≡ given (first_fault (export_fault bs ∷ Ok tt ∷ [])) (length sheet) =
    rw (le-ltb (length out) (length sheet) (omega arith)) at told.length-is in
    record {
      writes-out = told;
      never-short =
          ap found_in length-is ∙ found-given _ (length sheet) ∙ and_then-last (export_fault bs);
    }

pub returns-in_err-read_load : goal.returns-in_err-read_load
returns-in_err-read_load c = is-refused _ _ _ _ c.in_err-read_load.ensures (passed_on _ _ c.from_residual.ensures.1)

pub returns : goal.returns
returns c =
    is-written _ _ _ c.in_ok-read_load.ensures (λ at. omega (arith, c.type_inv.file at)) c.requires _ _
    c.write_sheet.ensures
