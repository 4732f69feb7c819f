-- `check_windows` asks one window a turn: the first fault ends the search, and is that of all.
use Rattle.std.proofs.Common.{◌∙◌, sym}
use Rattle.refusals.proofs.FirstMetLaws.{first_fault_to-zero, first_fault_to-one_more, first_fault_to-refused}
use Rattle.refusals.proofs.PassedOn.{passed_on}
use Rattle.load.specs.Check.{check_window}
use Rattle.load.proofs.check.check_windows.Goals as goal

pub loop-k-init : goal.loop-k-init
loop-k-init c = first_fault_to-zero _

pub returns-in_err-check_window_at : goal.returns-in_err-check_window_at
returns-in_err-check_window_at c =
    passed_on _ _ c.from_residual.ensures.1
    ∙ sym
    (first_fault_to-refused (check_window c.args.row) _ c.loop-k.k _ c.loop-k-test.true c.loop-k.invariant
    (sym c.in_err-check_window_at.ensures))

pub loop-k-preserved : goal.loop-k-preserved
loop-k-preserved c = first_fault_to-one_more _ _ c.loop-k.invariant (sym c.in_ok-check_window_at.ensures)
