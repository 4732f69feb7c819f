-- `window_in` reads the two bytes and the number of the record.
use Rattle.std.proofs.Common.{◌+◌, ◌-◌, ◌∙◌, arith}
use Rattle.load_file.proofs.layout.SliceLaws.{byte-in, number-in}
use Rattle.load_file.proofs.read_parts.window_in.Goals as goal

pub returns : goal.returns
returns c =
    let bs = c.args.bytes.now in
    let at = c.args.at in
    let first = byte-in bs at (at + 6 - at) 2 (omega arith) in
    let last = byte-in bs at (at + 6 - at) 3 (omega arith) in
    let limit = number-in bs at (at + 6 - at) 2 4 (omega arith) in
    rw (c.number16_at.ensures ∙ limit, c.byte_at-2.ensures ∙ last, c.byte_at.ensures ∙ first)
