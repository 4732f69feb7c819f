-- `costs_to` adds one cost a turn, each below 65,536.
use Rattle.std.proofs.Common.{◌*◌, ◌≤◌, ◌≡◌}
use Rattle.counting.specs.Sums.{sum_to}
use Rattle.load.specs.Load.{step_at}
use Rattle.bound.proofs.cut.costs_to.Given as goal

abbrev pub invariant-loop-step : goal.invariant-loop-step
invariant-loop-step l =
    record {
      so_far : l.sum ≡ sum_to (λ j. (step_at l.fn.row j).cost) l.step-index;
      few : l.sum ≤ 65535 * l.step-index;
    }
