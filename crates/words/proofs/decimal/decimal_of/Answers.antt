-- `words::decimal::decimal_of` writes the digits at the front of a word of zeros.
use Prim.Native.Nat.{◌+◌}
use mathlib.Core.Path.{◌∙◌}
use native.Mathlib.Omega.{arith}
use borrow.Author.Rules.{rules}
use lib.ListN.{length}
use Rattle.words.specs.Decimal.{decimal}
use Rattle.words.proofs.DecimalLaws.{decimal-length-le, word_holding-is}
use Rattle.words.proofs.decimal.decimal_of.Goals as goal

pub returns : goal.returns
returns c =
    let digits = decimal c.args.number in
    let few = decimal-length-le 9 c.args.number (search rules) in
    c.with_digits.ensures ∙ word_holding-is digits (0 + length digits) (omega arith) (omega arith)
