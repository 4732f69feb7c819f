-- `count_marked` counts one row a turn.
use Rattle.std.proofs.Common.{◌≤◌, ◌≡◌}
use Rattle.counting.specs.Sums.{count_to}
use Rattle.counting.specs.Lists.{is_marked}
use Rattle.bound.proofs.smallest.count_marked.Given as goal

abbrev pub invariant-loop-marked : goal.invariant-loop-marked
invariant-loop-marked l =
    record {
      so_far : l.count ≡ count_to (is_marked l.fn.marks) l.marked-index;
      few : l.count ≤ l.marked-index;
    }
