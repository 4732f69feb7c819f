-- `read_sheet` reads the rows where no line is refused.
use mathlib.Core.Path.{sym, ◌∙◌}
use Rattle.refusals.proofs.PassedOn.{passed_on}
use Rattle.sheet.proofs.walk.SheetWalk.{lines-refused}
use Rattle.sheet.proofs.reading.read_sheet.Goals as goal

pub returns-in_err-check_lines : goal.returns-in_err-check_lines
returns-in_err-check_lines c =
    passed_on _ _ c.from_residual.ensures.1
    ∙ sym (lines-refused c.args.bytes.now _ (sym c.in_err-check_lines.ensures))
