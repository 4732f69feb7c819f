-- Two loads that differ only in identifiers and box numbers have the same view, and so the same bound, margins,
-- verdict and blame, and whatever else is defined over the view.
use mathlib.Core.Path.{◌≡◌, ap}
use lib.ListN.{get_or, take}
use Rattle.load.specs.declared.Load.{Load}
use Rattle.load.specs.Load.{no_step}
use Rattle.load.specs.View.{view_of}
use Rattle.rules.specs.SameLoads.{SameLoad}
use Rattle.rules.specs.Bound.{bound}
use Rattle.rules.specs.Margins.{margins, verdict}
use Rattle.rules.specs.Blame.{place_waits, blames}

pub view_of-same : (a b : Load) → SameLoad a b → view_of a ≡ view_of b
unfolding view_of
view_of-same a b same =
    λ t. record {
      rows = same.rows t;
      phase = λ i. (same.row i).phase t;
      deadline = λ i. (same.row i).deadline t;
      steps = λ i. (same.row i).steps t;
      cost = λ i j. ap (λ l. (get_or l j no_step).cost) (same.row i).step t;
      wait = λ i j. ap (λ l. (get_or l j no_step).wait) (same.row i).step t;
      windows = λ i. take ((same.row i).windows t) ((same.row i).window t);
      class = λ i. (same.row i).class t;
    }

-- what is defined over the view is the same
pub bound-same : (a b : Load) → SameLoad a b → bound (view_of a) ≡ bound (view_of b)
bound-same a b same = ap bound (view_of-same a b same)

pub margins-same : (a b : Load) → SameLoad a b → margins (view_of a) ≡ margins (view_of b)
margins-same a b same = ap margins (view_of-same a b same)

pub verdict-same : (a b : Load) → SameLoad a b → verdict (view_of a) ≡ verdict (view_of b)
verdict-same a b same = ap verdict (view_of-same a b same)

pub place_waits-same : (a b : Load) → SameLoad a b → place_waits (view_of a) ≡ place_waits (view_of b)
place_waits-same a b same = ap place_waits (view_of-same a b same)

pub blames-same : (a b : Load) → SameLoad a b → blames (view_of a) ≡ blames (view_of b)
blames-same a b same = ap blames (view_of-same a b same)
