-- `load_records::rows::row_length` adds the sizes of the row's own record, of its steps' and of its windows' records.
use Rattle.std.proofs.Common.{arith}
use Rattle.load_records.proofs.LengthLaws.{row_bytes-length}
use Rattle.load_records.proofs.rows.row_length.Goals as goal

pub returns : goal.returns
returns c = omega (arith, c.row_size.ensures, row_bytes-length c.args.version c.args.row)
