-- `cut_blames` looks at one place a turn, keeps the worst so far, and stores it for the next number of steps.
use Rattle.std.proofs.Common.{◌+◌, ◌≡◌}
use Rattle.counting.specs.Sums.{max_to}
use Rattle.counting.specs.Lists.{filled}
use Rattle.rules.specs.Blame.{nobody, blame_among}
use Rattle.bound.specs.inner.CutTerms.{place_in}
use Rattle.bound.proofs.blames.cut_blames.Given as goal

abbrev pub invariant-loop-k : goal.invariant-loop-k
invariant-loop-k l =
    record {
      largest : l.most ≡ max_to (λ j. (place_in l.fn.places j).left) l.k;
      blamed : l.worst ≡ blame_among (place_in l.fn.places) l.k;
      stored : l.blames ≡ filled (blame_among (place_in l.fn.places)) (l.k + 1) 8 nobody;
    }
