-- The worked cases of the blame hold, by computing.
use mathlib.Core.Path.{refl}
use Rattle.rules.specs.WorkedBlame.{WorkedBlame}
use Rattle.rules.proofs.worked.WorkedComputing.{computing}

pub worked-blame : WorkedBlame
unfolding computing
worked-blame =
    record {
      one-row = record { at_places = refl; by_rows = refl };
      largest = record { at_places = refl; by_rows = refl };
      alike = record { at_places = refl; by_rows = refl };
      cut-decides = record { at_places = refl; by_rows = refl };
      no_place = record { at_places = refl; by_rows = refl };
      all-filled = record { at_places = refl; by_rows = refl };
      none_free = record { at_places = refl; by_rows = refl };
      by-w = record { at_places = refl; by_rows = refl };
      behind-a-window = record { at_places = refl; by_rows = refl };
      window-whole = record { at_places = refl; by_rows = refl };
      last-place = record { at_places = refl; by_rows = refl };
      no_rows = record { at_places = refl; by_rows = refl };
    }
