-- `sheet_line::writing::with_field` puts the number behind the text, and the comma behind both.
use mathlib.Core.List.{[], ◌∷◌}
use mathlib.Core.Path.{ap, ◌∙◌}
use native.Mathlib.Omega.{arith}
use Rattle.words.specs.Decimal.{decimal}
use Rattle.sheet_line.specs.declared.LineText.{LineText}
use Rattle.sheet_line.specs.LineText.{comma}
use Rattle.sheet_line.specs.inner.Behind.{behind}
use Rattle.words.proofs.DecimalLaws.{decimal-length-most}
use Rattle.sheet_line.proofs.TextLaws.{behind_more}
use Rattle.sheet_line.proofs.writing.with_field.Goals as goal

pub with_bytes-requires : goal.with_bytes-requires
with_bytes-requires c =
    let l = decimal-length-most c.args.number in
    let e = ap (λ (t : LineText). t.length) c.with_number.ensures in
    (omega arith, omega arith)

pub returns : goal.returns
returns c =
    c.with_bytes.ensures
    ∙ ap (λ t. behind t (comma ∷ [])) c.with_number.ensures
    ∙ behind_more c.args.text (decimal c.args.number) (comma ∷ [])
