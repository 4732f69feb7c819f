-- The worked cases of one move of the bench hold, by computing: the steps that are ready, allowed and candidates, the
-- stacking plan, the shape of a state, what a move hands back, and the order by class.
use mathlib.Core.Path.{refl}
use Rattle.rules.specs.State.{fresh}
use Rattle.rules.specs.Run.{starts_by, schedule_by}
use Rattle.rules.specs.WorkedReady.{WorkedReady}
use Rattle.rules.specs.WorkedPlan.{WorkedPlan}
use Rattle.rules.specs.WorkedShape.{WorkedShape}
use Rattle.rules.specs.WorkedMoves.{WorkedMoves}
use Rattle.rules.specs.WorkedUrgent.{WorkedUrgent}
use Rattle.rules.proofs.worked.WorkedComputing.{computing}

pub worked-ready : WorkedReady
unfolding computing
worked-ready =
    record {
      by-step = refl;
      at-phase = refl;
      phase-once = refl;
      after-wait = refl;
      allowed = refl;
      fewer-steps = refl;
      embedded-at-once = refl;
      by-last-moment = refl;
    }

pub worked-plan : WorkedPlan
unfolding computing
worked-plan =
    record {
      by-due = refl;
      not-by-limit = refl;
      then-by-row = refl;
      each-asked = refl;
      one-late = refl;
      from_end = refl;
      later-of-two = refl;
      too-late = refl;
      goes_on = refl;
      goes-on-late = refl;
      second-window = refl;
      own-ended = refl;
      own-begun = refl;
      refused-now = refl;
      a-tick-later = refl;
      lost = refl;
    }

pub worked-shape : WorkedShape
unfolding computing
worked-shape =
    record {
      clock = refl;
      finished = refl;
      end = refl;
      end-of-none = refl;
      opening = refl;
      opening-of-none = refl;
      unused = refl;
      unused-last = refl;
      second-row = refl;
    }

pub worked-moves : WorkedMoves
unfolding computing
worked-moves =
    record {
      starts = refl;
      inside = refl;
      closes = refl;
      idles = refl;
      done = refl;
      done-at-last = refl;
      full = refl;
      not-yet-full = refl;
      no-shape = refl;
    }

pub worked-urgent : WorkedUrgent
unfolding computing fresh starts_by schedule_by
worked-urgent =
    record {
      by-class = refl;
      one_class = refl;
      step-first = refl;
      stack-by-due = refl;
      stack-by-row = refl;
      load-a = refl;
      falling = refl;
      waits-for-step = refl;
    }
