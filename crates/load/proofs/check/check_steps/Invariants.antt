-- `check_steps` asks one step a turn: those asked so far have no fault.
use Rattle.std.proofs.Common.{◌≡◌}
use Rattle.std.specs.Prelude.{Ok}
use Rattle.refusals.specs.FirstMet.{first_fault_to}
use Rattle.load.specs.Check.{check_step}
use Rattle.load.proofs.check.check_steps.Given as goal

abbrev pub invariant-loop-j : goal.invariant-loop-j
invariant-loop-j l = first_fault_to (check_step l.row) l.j ≡ Ok tt
