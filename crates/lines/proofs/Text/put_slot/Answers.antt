-- `lines::Text::put_slot` puts the words of the line, one behind the other.
use Rattle.words.specs.Decimal.{text}
use Rattle.lines.specs.Lines.{slot_line}
use Rattle.lines.proofs.PutLaws.{puts-more}
use Rattle.lines.proofs.LineLaws.{first_word, next_word}
use Rattle.lines.proofs.Text.put_slot.Goals as goal

pub returns : goal.returns
unfolding text slot_line
returns c =
    let p₀ = first_word _ c.put.ensures in
    let p₁ = next_word _ _ _ p₀ c.put_number.ensures in
    let p₂ = next_word _ _ _ p₁ c.put_number-2.ensures in
    let p₃ = next_word _ _ _ p₂ c.put_number-3.ensures in
    puts-more p₃ c.put-2.ensures
