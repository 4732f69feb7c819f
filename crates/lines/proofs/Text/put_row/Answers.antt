-- `lines::Text::put_row` puts the words of the line, one behind the other.
use mathlib.Core.List.{◌∷◌}
use mathlib.Core.Path.{ap}
use mir.Facts.{to_z-of_z}
use Rattle.words.specs.Decimal.{text, signed_decimal}
use Rattle.lines.specs.Lines.{row_line_of}
use Rattle.lines.proofs.PutLaws.{puts-more, puts_same}
use Rattle.lines.proofs.LineLaws.{first_word, next_word, next-words}
use Rattle.lines.proofs.Text.put_row.Goals as goal

pub returns : goal.returns
unfolding text row_line_of
returns c =
    let signed = ap (λ z. 32 ∷ signed_decimal z) (to_z-of_z c.ranges.margin) in
    let p₀ = first_word _ c.put.ensures in
    let p₁ = next_word _ _ _ p₀ c.put_number.ensures in
    let p₂ = next_word _ _ _ p₁ c.put_number-2.ensures in
    let p₃ = next_word _ _ _ p₂ c.put_number-3.ensures in
    let p₄ = next_word _ _ _ p₃ (puts_same signed c.put_signed.ensures) in
    let p₅ = next-words _ _ _ p₄ c.put_blame.ensures in
    puts-more p₅ c.put-2.ensures
