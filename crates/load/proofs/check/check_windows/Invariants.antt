-- `check_windows` asks one window a turn: those asked so far have no fault.
use Rattle.std.proofs.Common.{◌≡◌}
use Rattle.std.specs.Prelude.{Ok}
use Rattle.refusals.specs.FirstMet.{first_fault_to}
use Rattle.load.specs.Check.{check_window}
use Rattle.load.proofs.check.check_windows.Given as goal

abbrev pub invariant-loop-k : goal.invariant-loop-k
invariant-loop-k l = first_fault_to (check_window l.row) l.k ≡ Ok tt
