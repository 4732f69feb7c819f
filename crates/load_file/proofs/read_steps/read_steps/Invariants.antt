-- `read_steps` reads one step a turn: before turn j no fault is found in the first j, and they are kept.
use Rattle.std.proofs.Common.{◌≡◌}
use Rattle.std.specs.Prelude.{Ok}
use Rattle.refusals.specs.FirstMet.{first_fault_to}
use Rattle.load_file.specs.Reading.{step_fault_in}
use Rattle.load_file.specs.inner.ReadingSteps.{steps_from}
use Rattle.load_file.proofs.read_steps.read_steps.Given as goal

abbrev pub invariant-loop-j : goal.invariant-loop-j
invariant-loop-j l =
    record {
      no_fault : first_fault_to (step_fault_in l.bytes l.fn.at) l.j ≡ Ok tt;
      read : l.kept ≡ steps_from l.bytes l.from l.j;
    }
