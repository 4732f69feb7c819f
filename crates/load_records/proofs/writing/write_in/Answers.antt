-- `load_records::writing::write_in` gives what the check refuses, then 9 where the file has no room; else the file
-- that was written over the front is the file with the rest of the output behind it.
use Rattle.std.proofs.Common.{◌≤◌, ◌∙◌, arith, length, sym}
use Rattle.words.proofs.OverwriteLaws.{sets-front}
use Rattle.refusals.proofs.GivenLaws.{written-given}
use Rattle.load_records.specs.Writing.{load_bytes, write_fault}
use Rattle.load_records.proofs.WritingLaws.{written-good}
use Rattle.load_records.proofs.writing.write_in.Goals as goal

pub whole_size-requires : goal.whole_size-requires
whole_size-requires c = written-good c.args.version c.args.load (sym c.in_ok-check_written.ensures)

pub write_file-requires : goal.write_file-requires
write_file-requires c = written-good c.args.version c.args.load (sym c.in_ok-check_written.ensures)

pub returns : goal.returns
returns c =
    let start = c.args in
    let file = load_bytes start.version start.load in
    let room : length file ≤ length start.out.now = omega arith in
    written-given (write_fault start.version start.load) file start.out.now _ (sym c.in_ok-check_written.ensures) room
    (c.write_file.ensures ∙ sets-front start.out.now file room)
