-- `own_fields` reads the fields of the row's own record.
use Rattle.std.proofs.Common.{ℕ, ◌+◌, ◌-◌, ◌∙◌, arith}
use Rattle.load_file.specs.Places.{row_with}
use Rattle.load_file.proofs.layout.SliceLaws.{byte-in, number-in}
use Rattle.load_file.proofs.faults.PartLaws.{step-none, window-none}
use Rattle.load_file.proofs.read_parts.own_fields.Goals as goal

pub returns : goal.returns
unfolding row_with
returns c =
    let bs = c.args.bytes.now in
    let at = c.args.at in
    let size : ℕ = at + 20 - at in
    rw (
      window-none c.default-2.result c.default-2.ensures,
      step-none c.default.result c.default.ensures,
      c.«said_in-2».ensures,
      c.said_in.ensures,
      c.byte_at-2.ensures ∙ byte-in bs at size 19 (omega arith),
      c.byte_at.ensures ∙ byte-in bs at size 18 (omega arith),
      c.number32_at-4.ensures ∙ number-in bs at size 4 14 (omega arith),
      c.number32_at-3.ensures ∙ number-in bs at size 4 10 (omega arith),
      c.number32_at-2.ensures ∙ number-in bs at size 4 6 (omega arith),
      c.number32_at.ensures ∙ number-in bs at size 4 2 (omega arith),
    )
