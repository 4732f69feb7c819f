-- `write_sheet` gives what the check of a plain load refuses, then 9 where the sheet has no room, which it measures
-- first; else the sheet that was written over the front is the sheet with the rest of the output behind it.
use Rattle.std.proofs.Common.{◌≡◌, ◌≤◌, ◌∙◌, ap, arith, length, sym}
use Rattle.std.specs.Prelude.{Ok}
use borrow.Author.Tests.{le-ltb}
use Rattle.words.proofs.OverwriteLaws.{sets-front}
use Rattle.load.specs.declared.Load.{Load}
use Rattle.load.specs.Check.{check_load}
use Rattle.load.specs.Plain.{check_plain}
use Rattle.load.proofs.PlainLaws.{check_plain-good}
use Rattle.sheet.specs.Writing.{sheet_bytes}
use Rattle.sheet.proofs.writing.write_sheet.Goals as goal

-- what writing the rows asks
good : (load : Load) → Ok tt ≡ check_plain load → check_load load ≡ Ok tt
good load plain = (check_plain-good load (sym plain)).load-good

pub write_rows-size-requires : goal.write_rows-size-requires
write_rows-size-requires c = good c.args.load c.in_ok-check_plain.ensures

pub write_rows-requires : goal.write_rows-requires
write_rows-requires c = good c.args.load c.in_ok-check_plain.ensures

pub returns : goal.returns
returns c =
    let out = c.args.out.now in
    let sheet = sheet_bytes c.args.load in
    let room : length sheet ≤ length out = omega (arith, c.if-out-size.false, c.write_rows-size.ensures.value) in
    record {
      length-is =
          rw (sym c.in_ok-check_plain.ensures, le-ltb (length out) (length sheet) room)
          (ap Ok c.write_rows.ensures.value);
      output-is = c.write_rows.ensures.out_after ∙ sets-front out sheet room;
    }
