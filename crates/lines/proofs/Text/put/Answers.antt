-- `lines::Text::put` writes the bytes where those of the text end.
use native.Mathlib.Omega.{arith}
use Rattle.lines.proofs.PutLaws.{puts-written}
use Rattle.lines.proofs.Text.put.Goals as goal

pub returns : goal.returns
returns c =
    puts-written c.args.self.now c.args.bytes.now _ _ c.overwrite.ensures
    (omega (arith, c.min-self.ensures, c.saturating_add.ensures))
