-- `sheet_line::reading::line_at` reads the fields, the mark behind them and CR LF behind it: where all of it stands
-- there it is the line, and where any does not there is none.
use mathlib.Core.Path.{sym, ◌∙◌}
use Rattle.sheet_line.proofs.ReadingLaws.{fields-lack, end-lacks, line_read}
use Rattle.sheet_line.proofs.reading.line_at.Goals as goal

pub returns-in_err-fields : goal.returns-in_err-fields
returns-in_err-fields c =
    c.from_residual.ensures ∙ fields-lack c.args.bytes.now c.args.at c.in_err-fields.ensures

pub returns-then-not-ends_at : goal.returns-then-not-ends_at
returns-then-not-ends_at c =
    end-lacks c.args.bytes.now c.args.at c.in_ok-fields.fields c.in_ok-fields.ensures c.mark_at-marked.result
    c.mark_at-marked.ensures (sym c.ends_at.ensures ∙ c.if-not-ends_at.true)

pub returns : goal.returns
returns c =
    line_read c.args.bytes.now c.args.at c.in_ok-fields.fields c.in_ok-fields.ensures c.mark_at-marked.result
    c.mark_at-marked.ensures (sym c.ends_at.ensures ∙ c.if-not-ends_at.false)
