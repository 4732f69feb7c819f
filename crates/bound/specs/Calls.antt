-- What each public call's contract says: one relation a call, over what it takes and what it gives.
-- Calls that take a load check it first; a refusal comes alone. Rests on D84.
use Rattle.std.specs.Prelude.{ℕ, Bool, List, ◌≡◌, ℤ, Result}
use Rattle.refusals.specs.declared.Refusal.{Refusal}
use Rattle.refusals.specs.Given.{given}
use Rattle.load.specs.declared.Load.{Load}
use Rattle.load.specs.View.{view_of}
use Rattle.load.specs.Check.{for_bench}
use Rattle.rules.specs.declared.LargestW.{LargestW}
use Rattle.rules.specs.Bound.{bound}
use Rattle.rules.specs.Margins.{margins, verdict, bytes_of_margins}
use Rattle.rules.specs.Blame.{place_waits, blames}
use Rattle.bound.specs.declared.Answered.{Answered}
use Rattle.bound.specs.declared.Blamed.{Blamed}

-- answers_of(load): bound, margins, verdict and blames of a load that the check passes (2026-01)
abbrev pub AnswersOf : Load → Result Answered Refusal → Type 0
AnswersOf load r =
    r ≡ given (for_bench load) (record {
      bound = bound (view_of load);
      margins = margins (view_of load);
      verdict = verdict (view_of load);
      blames = blames (view_of load);
    })

-- bound_of(load): the bound of a load that the check passes
abbrev pub BoundOf : Load → Result ℕ Refusal → Type 0
BoundOf load r = r ≡ given (for_bench load) (bound (view_of load))

-- margins_of(load): all margins of a load that the check passes
abbrev pub MarginsOf : Load → Result (List ℤ) Refusal → Type 0
MarginsOf load r = r ≡ given (for_bench load) (margins (view_of load))

-- verdict_of(load): the verdict of a load that the check passes
abbrev pub VerdictOf : Load → Result Bool Refusal → Type 0
VerdictOf load r = r ≡ given (for_bench load) (verdict (view_of load))

-- blames_of(load): all margins, and whom each row blames, of a load that the check passes (2026-01)
abbrev pub BlamesOf : Load → Result Blamed Refusal → Type 0
BlamesOf load r =
    r ≡ given (for_bench load) (record {
      margins = margins (view_of load);
      blames = blames (view_of load);
    })

-- place_waits_of(load): the largest W of each place with its row, of a load that the check passes
-- (2026-01)
abbrev pub PlaceWaitsOf : Load → Result (List LargestW) Refusal → Type 0
PlaceWaitsOf load r = r ≡ given (for_bench load) (place_waits (view_of load))

-- margin_bytes(margins): 4 bytes to a row, little-endian two's complement
abbrev pub MarginBytes : List ℤ → List ℕ → Type 0
MarginBytes margins r = r ≡ bytes_of_margins margins
