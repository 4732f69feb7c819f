-- `lines::Text::put_first` puts the words of the line, one behind the other.
use Rattle.words.specs.Decimal.{text}
use Rattle.lines.specs.Lines.{first_line_of}
use Rattle.lines.proofs.PutLaws.{puts-more}
use Rattle.lines.proofs.LineLaws.{first_word, next_word}
use Rattle.lines.proofs.Text.put_first.Goals as goal

pub returns : goal.returns
unfolding text first_line_of
returns c =
    let p₀ = first_word _ c.put.ensures in
    let p₁ = next_word _ _ _ p₀ c.put_number.ensures in
    let p₂ = next_word _ _ _ p₁ c.put_number-2.ensures in
    let p₃ = next_word _ _ _ p₂ c.put_number-3.ensures in
    let p₄ = next_word _ _ _ p₃ c.put_number-4.ensures in
    let p₅ = next_word _ _ _ p₄ c.put_verdict.ensures in
    puts-more p₅ c.put-2.ensures
