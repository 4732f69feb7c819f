-- `step_in` reads the two numbers of the record.
use Rattle.std.proofs.Common.{◌+◌, ◌-◌, ◌∙◌, arith}
use Rattle.load_file.proofs.layout.SliceLaws.{number-in}
use Rattle.load_file.proofs.read_parts.step_in.Goals as goal

pub returns : goal.returns
returns c =
    let bs = c.args.bytes.now in
    let at = c.args.at in
    let cost = number-in bs at (at + 6 - at) 2 2 (omega arith) in
    let wait = number-in bs at (at + 6 - at) 2 4 (omega arith) in
    rw (c.number16_at-2.ensures ∙ wait, c.number16_at.ensures ∙ cost)
