-- `lines::Text::put_signed` puts the word of the whole number, which has at most ten digits and a sign.
use native.Mathlib.Omega.{arith}
use mir.Facts.{to_z-of_z}
use Rattle.words.specs.Decimal.{signed_decimal}
use Rattle.words.proofs.DecimalLaws.{signed_decimal-length-le}
use Rattle.words.proofs.SignLaws.{nat_abs-lt}
use Rattle.lines.proofs.PutLaws.{put-held}
use Rattle.lines.proofs.Text.put_signed.Goals as goal

pub returns : goal.returns
returns c =
    let z = c.args.number in
    let made = rw (to_z-of_z c.ranges.number) at c.signed_of.ensures in
    let few = signed_decimal-length-le 9 z (omega (arith, nat_abs-lt 31 z c.ranges.number.sfits)) in
    (put-held _ (signed_decimal z) 11 made few c.put_word.ensures).0
