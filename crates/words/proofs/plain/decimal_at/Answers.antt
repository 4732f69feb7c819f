-- `words::plain::decimal_at` takes the digits that stand from the place on, and reads them where they are a plain
-- decimal.
use mathlib.Core.Path.{sym, ◌∙◌}
use Rattle.words.proofs.ReadLaws.{taken-digits, taken-none, taken-some}
use Rattle.words.proofs.plain.decimal_at.Goals as goal

pub returns-then-not-is_plain : goal.returns-then-not-is_plain
returns-then-not-is_plain c =
    taken-none c.args.bytes.now c.bytes_from-rest.result.now c.args.at c.digit_run.result c.bytes_from-rest.ensures
    c.digit_run.ensures (sym c.is_plain.ensures ∙ c.if-not-is_plain.true)

pub spelled-requires-clause-are : goal.spelled-requires-clause-are
spelled-requires-clause-are c =
    taken-digits c.args.bytes.now c.bytes_from-rest.result.now c.args.at c.digit_run.result c.bytes_from-rest.ensures
    c.digit_run.ensures

pub returns : goal.returns
returns c =
    taken-some c.args.bytes.now c.bytes_from-rest.result.now c.args.at c.digit_run.result c.bytes_from-rest.ensures
    c.digit_run.ensures c.spelled.result (sym c.is_plain.ensures ∙ c.if-not-is_plain.false) c.spelled.ensures
