-- `sheet_line::writing::with_mark_in` asks whether the step is the window's first: a limit, or else a dash.
use mathlib.Core.Path.{ap, sym, ◌∙◌}
use borrow.Author.Rules.{rules}
use borrow.Author.Tests.{eq-eqb, ne_eqb}
use Rattle.words.specs.Decimal.{decimal}
use Rattle.load.specs.Load.{shown}
use Rattle.sheet_line.specs.LineText.{mark_bytes}
use Rattle.sheet_line.specs.inner.Behind.{behind}
use Rattle.sheet_line.proofs.MarkLaws.{mark_in-length-le}
use Rattle.sheet_line.proofs.writing.with_mark_in.Goals as goal

pub returns-then-j-from-clause-is : goal.returns-then-j-from-clause-is
unfolding mark_bytes
returns-then-j-from-clause-is c =
    let start = c.args in
    rw (eq-eqb (shown start.j) start.window.first (c.if-j-from.true ∙ c.from.ensures))
    (c.with_number.ensures ∙ ap (λ n. behind start.text (decimal n)) c.from-then-j-from.ensures)

pub returns-clause-is : goal.returns-clause-is
unfolding mark_bytes
returns-clause-is c =
    let start = c.args in
    rw (ne_eqb (shown start.j) start.window.first (λ e. c.if-j-from.false (e ∙ sym c.from.ensures)))
    c.with_bytes.ensures

pub returns-then-j-from-clause-few : goal.returns-then-j-from-clause-few
returns-then-j-from-clause-few c = mark_in-length-le c.args.j c.args.window (search rules)

pub returns-clause-few : goal.returns-clause-few
returns-clause-few c = mark_in-length-le c.args.j c.args.window (search rules)
