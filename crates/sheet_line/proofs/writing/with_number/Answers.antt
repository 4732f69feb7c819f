-- `sheet_line::writing::with_number` puts the bytes that the number's word holds behind the text.
use Prim.Native.Nat.{◌≤◌}
use mathlib.Core.Path.{◌≡◌, ap, sym, ◌∙◌}
use native.Mathlib.Omega.{arith}
use borrow.Author.Rules.{rules}
use lib.ListN.{length, take}
use lib.Seq.{length-take-le}
use Rattle.words.specs.Decimal.{decimal}
use Rattle.sheet_line.specs.inner.Behind.{behind}
use Rattle.words.proofs.DecimalLaws.{decimal-length-most, word-taken}
use Rattle.sheet_line.proofs.TextLaws.{word-inside}
use Rattle.sheet_line.proofs.writing.with_number.Goals as goal
use Rattle.sheet_line.proofs.writing.with_number.Goals.{After-decimal_of-word}

module _ (c : After-decimal_of-word) where
  there : c.decimal_of-word.result.length ≤ length c.decimal_of-word.result.bytes
  there = word-inside c.args.number _ c.decimal_of-word.ensures

  taken : take c.decimal_of-word.result.length c.decimal_of-word.result.bytes ≡ decimal c.args.number
  taken = word-taken _ _ c.decimal_of-word.ensures

pub with_bytes-requires : goal.with_bytes-requires
with_bytes-requires c =
    let l = decimal-length-most c.args.number in
    let e = ap length (taken (goal.at.with_bytes-requires c).After-decimal_of-word) in
    (search rules, omega arith)

pub returns : goal.returns
returns c =
    c.with_bytes.ensures ∙ ap (behind c.args.text) (taken (goal.at.returns c).After-decimal_of-word)

pub slice_bounds-with_bytes-end : goal.slice_bounds-with_bytes-end
slice_bounds-with_bytes-end
    c = sym (length-take-le _ _ (there (goal.at.slice_bounds-with_bytes-end c).After-decimal_of-word))
