-- `words::overwrite` copies what fits over the output from the place on, or from its end on.
use native.Mathlib.Omega.{arith}
use Rattle.std.proofs.lemmas.Grind.{common_steps}
use Rattle.words.proofs.OverwriteLaws.{copied-fitting}
use Rattle.words.proofs.overwrite.Goals as goal

pub returns : goal.returns
returns c =
    let start = c.args in
    copied-fitting start.out.now start.bytes.now c.copy_from_slice.new.self start.at _ c.min-count.result _
    (omega arith) (omega arith) (omega arith) (grind (arith, common_steps, c.copy_from_slice.ensures.after))
