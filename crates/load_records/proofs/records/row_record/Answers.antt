-- `load_records::records::row_record` gives the mark, the four bytes of each of four numbers, and the two counts.
use Rattle.words.specs.LittleEndian.{little_endian}
use Rattle.load_records.proofs.records.row_record.Goals as goal

pub returns : goal.returns
unfolding little_endian
returns c =
    rw (c.bytes32-identifier.ensures, c.bytes32-number.ensures, c.bytes32-phase.ensures, c.bytes32-deadline.ensures)
