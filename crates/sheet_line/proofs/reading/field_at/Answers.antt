-- `sheet_line::reading::field_at` reads the number, and the byte behind it. Where a number stands its digits lie
-- inside, so the places fit.
use native.Mathlib.Omega.{arith}
use Rattle.words.proofs.ReadLaws.{given-some}
use Rattle.sheet_line.proofs.reading.field_at.Goals as goal

pub overflow_add-behind : goal.overflow_add-behind
overflow_add-behind c =
    let read = given-some c.args.bytes.now c.args.place c.in_ok-digits.digits c.in_ok-digits.ensures in
    omega (arith, read.inside)
