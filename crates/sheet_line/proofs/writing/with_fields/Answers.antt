-- `sheet_line::writing::with_fields` puts one number a turn behind the text: after so many turns the first of them, a
-- comma behind each.
use mathlib.Core.Path.{◌≡◌, ap, sym, ◌∙◌}
use native.Mathlib.Omega.{arith}
use borrow.Author.Rules.{rules}
use Rattle.counting.specs.Lists.{member_at}
use Rattle.counting.proofs.lists.ListLaws.{join_to-zero}
use Rattle.sheet_line.specs.declared.LineText.{LineText}
use Rattle.sheet_line.specs.inner.Behind.{behind}
use Rattle.sheet_line.proofs.TextLaws.{behind-none, field_bytes-length-most, fields_text-next}
use Rattle.sheet_line.proofs.writing.with_fields.Goals as goal

pub loop-number-init : goal.loop-number-init
loop-number-init c = (search rules, sym (ap (behind _) (join_to-zero _) ∙ behind-none _))

pub loop-number-preserved : goal.loop-number-preserved
loop-number-preserved c =
    let start = c.args in
    let l = field_bytes-length-most (member_at start.numbers.now c.loop-number.number-index) in
    let e = ap (λ (t : LineText). t.length) c.with_field-held.ensures in (
      omega arith,
      fields_text-next start.text c.loop-number.held _ start.numbers.now c.loop-number.number-index
          c.loop-number.invariant.1 c.with_field-held.ensures,
    )

pub returns : goal.returns
returns c =
    let e : c.loop-number.number-index ≡ 6 = omega arith in
    rw e at c.loop-number.invariant.1
