-- What the calls give of a load that is not refused: bound, margins, verdict and blames as the rules define them. What
-- one call gives together is what four give one by one, and what one refuses all refuse alike.
use Rattle.std.proofs.Common.{ℕ, Bool, List, ◌≡◌, ap}
use Rattle.std.specs.Prelude.{ℤ, Ok, Err}
use Rattle.refusals.specs.declared.Refusal.{Refusal}
use Rattle.refusals.proofs.GivenParts.{given-told, given-part, given-refused}
use Rattle.load.specs.declared.Load.{Load}
use Rattle.load.specs.View.{view_of}
use Rattle.load.specs.Check.{for_bench}
use Rattle.rules.specs.declared.LargestW.{LargestW}
use Rattle.rules.specs.Bound.{bound}
use Rattle.rules.specs.Margins.{margins, verdict}
use Rattle.rules.specs.Blame.{place_waits, blames}
use Rattle.bound.specs.declared.Answered.{Answered}
use Rattle.bound.specs.declared.Blamed.{Blamed}
use Rattle.bound.specs.Calls.{AnswersOf, BoundOf, MarginsOf, VerdictOf, BlamesOf, PlaceWaitsOf}

module _ (load : Load) where
  pub BoundOf-good : (n : ℕ) → BoundOf load (Ok n) → n ≡ bound (view_of load)
  BoundOf-good n e = given-told (for_bench load) _ _ e

  pub MarginsOf-good : (zs : List ℤ) → MarginsOf load (Ok zs) → zs ≡ margins (view_of load)
  MarginsOf-good zs e = given-told (for_bench load) _ _ e

  pub VerdictOf-good : (passes : Bool) → VerdictOf load (Ok passes) → passes ≡ verdict (view_of load)
  VerdictOf-good passes e = given-told (for_bench load) _ _ e

  -- the margins beside the blames are the margins
  pub BlamesOf-margins : (r : Blamed) → BlamesOf load (Ok r) → MarginsOf load (Ok r.margins)
  BlamesOf-margins r e = given-part (λ (x : Blamed). x.margins) (for_bench load) _ _ e

  pub BlamesOf-good : (r : Blamed) → BlamesOf load (Ok r) → r.blames ≡ blames (view_of load)
  BlamesOf-good r e = ap (λ (x : Blamed). x.blames) (given-told (for_bench load) _ _ e)

  pub PlaceWaitsOf-good : (places : List LargestW) → PlaceWaitsOf load (Ok places) → places ≡ place_waits (view_of load)
  PlaceWaitsOf-good places e = given-told (for_bench load) _ _ e

  -- the parts of what one call gives
  module _ (r : Answered) (e : AnswersOf load (Ok r)) where
    pub AnswersOf-bound : BoundOf load (Ok r.bound)
    AnswersOf-bound = given-part (λ (x : Answered). x.bound) (for_bench load) _ _ e

    pub AnswersOf-margins : MarginsOf load (Ok r.margins)
    AnswersOf-margins = given-part (λ (x : Answered). x.margins) (for_bench load) _ _ e

    pub AnswersOf-verdict : VerdictOf load (Ok r.verdict)
    AnswersOf-verdict = given-part (λ (x : Answered). x.verdict) (for_bench load) _ _ e

    pub AnswersOf-blames : BlamesOf load (Ok (record { margins = r.margins; blames = r.blames }))
    AnswersOf-blames =
        given-part (λ (x : Answered). record { margins = x.margins; blames = x.blames }) (for_bench load) _ _ e

  -- and what it refuses
  module _ (refusal : Refusal) where
    pub BlamesOf-margins-refused : BlamesOf load (Err refusal) → MarginsOf load (Err refusal)
    BlamesOf-margins-refused e = given-refused (for_bench load) refusal _ _ e

    pub AnswersOf-bound-refused : AnswersOf load (Err refusal) → BoundOf load (Err refusal)
    AnswersOf-bound-refused e = given-refused (for_bench load) refusal _ _ e

    pub AnswersOf-margins-refused : AnswersOf load (Err refusal) → MarginsOf load (Err refusal)
    AnswersOf-margins-refused e = given-refused (for_bench load) refusal _ _ e

    pub AnswersOf-verdict-refused : AnswersOf load (Err refusal) → VerdictOf load (Err refusal)
    AnswersOf-verdict-refused e = given-refused (for_bench load) refusal _ _ e

    pub AnswersOf-blames-refused : AnswersOf load (Err refusal) → BlamesOf load (Err refusal)
    AnswersOf-blames-refused e = given-refused (for_bench load) refusal _ _ e
