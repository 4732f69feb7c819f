-- `blame::answer` makes the text of the bytes that were read, one more than the longest load file has.
use mathlib.Core.Bool.{true}
use mathlib.Core.Path.{sym}
use native.Mathlib.Omega.{arith}
use borrow.Author.Rules.{rules}
use lib.Seq.{length-take-le}
use Rattle.lines.proofs.PrintedFront.{text-front}
use Rattle.blame.proofs.answer.Goals as goal

pub slice_bounds-blamed_text_of-end : goal.slice_bounds-blamed_text_of-end
slice_bounds-blamed_text_of-end c = sym (length-take-le _ _ (search rules))

pub returns : goal.returns
returns c =
    let args = c.args in
    text-front true args.file args.size _ (omega arith) c.blamed_text_of.ensures
