-- `check_steps` asks one step a turn: the first fault ends the search, and is that of all.
use Rattle.std.proofs.Common.{◌∙◌, sym}
use Rattle.refusals.proofs.FirstMetLaws.{first_fault_to-zero, first_fault_to-one_more, first_fault_to-refused}
use Rattle.refusals.proofs.PassedOn.{passed_on}
use Rattle.load.specs.Check.{check_step}
use Rattle.load.proofs.check.check_steps.Goals as goal

pub loop-j-init : goal.loop-j-init
loop-j-init c = first_fault_to-zero _

pub returns-in_err-check_step_at : goal.returns-in_err-check_step_at
returns-in_err-check_step_at c =
    passed_on _ _ c.from_residual.ensures.1
    ∙ sym
    (first_fault_to-refused (check_step c.args.row) _ c.loop-j.j _ c.loop-j-test.true c.loop-j.invariant
    (sym c.in_err-check_step_at.ensures))

pub loop-j-preserved : goal.loop-j-preserved
loop-j-preserved c = first_fault_to-one_more _ _ c.loop-j.invariant (sym c.in_ok-check_step_at.ensures)
