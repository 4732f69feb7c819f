-- `lines::Text::put_refused` puts the words of the line, one behind the other.
use mathlib.Core.List.{◌∷◌}
use mathlib.Core.Path.{ap}
use Rattle.words.specs.Decimal.{text, decimal}
use Rattle.lines.specs.Lines.{refused_line}
use Rattle.lines.proofs.PutLaws.{puts-more, puts_same}
use Rattle.lines.proofs.LineLaws.{first_word, next_word}
use Rattle.lines.proofs.Text.put_refused.Goals as goal

pub returns : goal.returns
unfolding text refused_line
returns c =
    let is_number = ap (λ n. 32 ∷ decimal n) c.number_of.ensures in
    let p₀ = first_word _ c.put.ensures in
    let p₁ = next_word _ _ _ p₀ (puts_same is_number c.put_number.ensures) in
    puts-more p₁ c.put-2.ensures
