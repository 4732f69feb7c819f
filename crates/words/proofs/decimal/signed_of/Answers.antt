-- `words::decimal::signed_of` writes a minus sign at the front of a word of zeros, where the number is negative, and
-- the digits of the number without its sign behind it.
use Prim.Native.Nat.{◌+◌}
use mathlib.Core.Bool.{true}
use mathlib.Core.List.{◌∷◌}
use mathlib.Core.Path.{◌≡◌, ap, sym, ◌∙◌}
use native.Mathlib.Omega.{arith}
use lib.IntN.{pos, nat_abs}
use lib.ListN.{length, replicate}
use lib.Seq.{sets}
use lib.Signed.{lt_z}
use mir.Facts.{to_z-of_z}
use Rattle.words.specs.Decimal.{decimal}
use Rattle.words.specs.Calls.{word_places, word_holding}
use Rattle.words.proofs.DecimalLaws.{decimal-length-le, word_holding-is}
use Rattle.words.proofs.SignLaws.{signed_decimal-negative, nat_abs-lt}
use Rattle.words.proofs.decimal.signed_of.Goals as goal
use Rattle.words.proofs.decimal.signed_of.Goals.{After-unsigned_abs-digits}

digits_are : (c : After-unsigned_abs-digits) → c.unsigned_abs-digits.result ≡ nat_abs c.args.number
digits_are c = rw (to_z-of_z c.ranges.number) at c.unsigned_abs-digits.ensures.value

pub returns-then-number-lt0 : goal.returns-then-number-lt0
returns-then-number-lt0 c =
    let z = c.args.number in
    let h = c.ranges.number in
    let digits = decimal (nat_abs z) in
    let few = decimal-length-le 9 (nat_abs z) (omega (arith, nat_abs-lt 31 z h.sfits)) in
    let negative : lt_z z (pos 0) ≡ true = rw (to_z-of_z h) at c.if-number-lt0.true in
    c.with_digits.ensures
    ∙ ap (λ n. record { length = 1 + length (decimal n); bytes = sets (replicate word_places 0) 0 (45 ∷ decimal n) })
    (digits_are (goal.at.returns-then-number-lt0 c).After-unsigned_abs-digits)
    ∙ word_holding-is (45 ∷ digits) (1 + length digits) (omega arith) (omega arith)
    ∙ ap word_holding (sym (signed_decimal-negative z negative))
