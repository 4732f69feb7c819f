-- The worked cases of what is looked up and chosen hold, by computing.
use mathlib.Core.Path.{refl}
use Rattle.rules.proofs.worked.WorkedComputing.{computing}
use Rattle.counting.specs.Searches.{first_to}
use Rattle.plan.specs.Looks.{look_of}
use Rattle.plan.specs.Choices.{passes_in, chosen_in}
use Rattle.plan.specs.WorkedLooks.{WorkedLooks}
use Rattle.plan.specs.WorkedChoices.{WorkedChoices}
use Rattle.plan.specs.WorkedStarts.{WorkedStarts}

pub looks-hold : WorkedLooks
unfolding computing look_of
looks-hold =
    record {
      shut-before = refl;
      open-inside = refl;
      shut-behind = refl;
      looked-before = refl;
      looked-inside = refl;
      looked-past = refl;
      opening-kept = refl;
      opening-new = refl;
      opening-none = refl;
      opening_past = refl;
      clock-past = refl;
    }

pub choices-hold : WorkedChoices
unfolding computing passes_in chosen_in
choices-hold =
    record {
      lower-step-first = refl;
      lower-row-first = refl;
      not-ready = refl;
      embedded-later = refl;
      refused-by-plan = refl;
      ends-in-time = refl;
      ends-too-late = refl;
      none-there = refl;
      rows-past = refl;
      steps-past = refl;
      higher-class-first = refl;
      row-within-class = refl;
      urgent-not-ready = refl;
      step-before-class = refl;
      class-past = refl;
    }

pub starts-hold : WorkedStarts
unfolding computing passes_in
    chosen_in first_to
starts-hold =
    record {
      now = (refl, refl);
      released = (refl, refl);
      never = (refl, refl);
      clock-past = (refl, refl);
      refused-free = (refl, refl);
      refused-before = (refl, refl);
      refused-crowded = (refl, refl);
      refused-own = (refl, refl);
      refused-behind = (refl, refl);
      refused-tie = (refl, refl);
      urgent-first = (refl, refl);
      sooner-first = (refl, refl);
    }
