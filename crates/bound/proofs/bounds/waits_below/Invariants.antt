-- `waits_below` adds the largest W of one place a turn, and stores the sum at the next place.
use Rattle.std.proofs.Common.{◌+◌, ◌*◌, ◌≤◌, ◌≡◌}
use Rattle.counting.specs.Lists.{filled}
use Rattle.bound.specs.inner.CutTerms.{waits_below}
use Rattle.bound.proofs.bounds.waits_below.Given as goal

abbrev pub invariant-loop-k : goal.invariant-loop-k
invariant-loop-k l =
    record {
      so_far : l.sum ≡ waits_below l.fn.places l.k;
      few : l.sum ≤ 65535 * l.k;
      stored : l.sums ≡ filled (waits_below l.fn.places) (l.k + 1) 8 0;
    }
