-- The worked cases of the bound and the margins hold, by computing.
use mathlib.Core.Path.{refl}
use Rattle.rules.specs.WorkedBound.{WorkedBound, WorkedMargins}
use Rattle.rules.proofs.worked.WorkedComputing.{computing}

pub worked-bound : WorkedBound
unfolding computing
worked-bound =
    record {
      r-smallest = refl;
      both-exist = refl;
      other-rows = refl;
      first-free = refl;
      second-free = refl;
      wait-free = refl;
      largest = refl;
      each-place = refl;
      phase-and-embedded = refl;
      followers-kept = refl;
      last-wait = refl;
      wait-dropped = refl;
    }

pub worked-margins : WorkedMargins
unfolding computing
worked-margins = record { exact = refl; missing = refl; judged = refl; spelled = refl }
