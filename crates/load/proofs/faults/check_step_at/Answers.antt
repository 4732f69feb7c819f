-- `check_step_at` asks the step that `step_at` gives, and whether it is the row's last.
use mathlib.Core.Path.{◌∙◌}
use Rattle.load.specs.Faults.{step_tests}
use Rattle.load.proofs.faults.check_step_at.Goals as goal

pub returns : goal.returns
unfolding step_tests
returns c = c.check_step.ensures ∙ rw (c.is_last.ensures, c.step_at.ensures)
