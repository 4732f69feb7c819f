-- `lines::text_by` puts what is printed into a text that has nothing, where there is room for every text.
use borrow.Author.Rules.{rules}
use Rattle.lines.proofs.PutLaws.{puts-holding}
use Rattle.lines.proofs.LengthLaws.{printed_by-le}
use Rattle.lines.proofs.text_by.Goals as goal

pub returns : goal.returns
returns c =
    puts-holding _ _ c.put_printed.ensures
    (printed_by-le c.args.blamed _ (search rules))
