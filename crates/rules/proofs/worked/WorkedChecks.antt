-- The worked cases of the schedule check hold, by computing.
use mathlib.Core.Path.{refl}
use Rattle.rules.specs.WorkedChecks.{WorkedChecks}
use Rattle.rules.proofs.worked.WorkedComputing.{computing}

pub worked-checks : WorkedChecks
unfolding computing
worked-checks =
    record {
      yes = refl;
      any_order = refl;
      count = refl;
      no_such = refl;
      not-next = refl;
      past-last-moment = refl;
      no-such-first = refl;
      overlaps = refl;
      overlaps-first = refl;
      before-phase = refl;
      before-wait = refl;
      early-first = refl;
      window-late = refl;
      second-window = refl;
      window-late-first = refl;
      row-late = refl;
      row_ends = refl;
      slot-by-slot = refl;
      load-first = refl;
      load-first-too = refl;
    }
