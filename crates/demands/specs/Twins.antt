-- "A wait kept under the identifier and not the row" is the trade's mistake: here nothing is. Two
-- accepted loads that differ in identifiers and boxes alone get the same answers from every call
-- that plans. To be read after PublicCalls.
use Rattle.std.specs.Prelude.{◌≡◌, Ok, ℕ, ℤ, Bool, List, Result}
use Rattle.refusals.specs.declared.Refusal.{Refusal}
use Rattle.load.specs.declared.Load.{Load}
use Rattle.load.specs.Calls.{CheckLoad}
use Rattle.rules.specs.declared.LargestW.{LargestW}
use Rattle.rules.specs.SameLoads.{SameLoad}
use Rattle.bound.specs.declared.Answered.{Answered}
use Rattle.bound.specs.declared.Blamed.{Blamed}
use Rattle.bound.specs.Calls.{AnswersOf, BoundOf, MarginsOf, VerdictOf, BlamesOf, PlaceWaitsOf}
use Rattle.bench.specs.declared.Bench.{Bench}
use Rattle.bench.specs.declared.Moved.{Moved}
use Rattle.bench.specs.declared.Ran.{Ran}
use Rattle.bench.specs.Calls.{NextMove, Runs}

-- the same answers for two loads
pub record SameAnswers (a b : Load) : Type 0 where
  -- one largest W at each place, and one row for it
  pub place-waits : (r s : Result (List LargestW) Refusal) → PlaceWaitsOf a r → PlaceWaitsOf b s
      → r ≡ s
  -- one bound, one verdict, the same margins and blames, one by one and together
  pub bounds : (r s : Result ℕ Refusal) → BoundOf a r → BoundOf b s → r ≡ s
  pub verdicts : (r s : Result Bool Refusal) → VerdictOf a r → VerdictOf b s → r ≡ s
  pub margins : (r s : Result (List ℤ) Refusal) → MarginsOf a r → MarginsOf b s → r ≡ s
  pub blames : (r s : Result Blamed Refusal) → BlamesOf a r → BlamesOf b s → r ≡ s
  pub together : (r s : Result Answered Refusal) → AnswersOf a r → AnswersOf b s → r ≡ s
  -- the same moves and schedule
  pub moves : (bench : Bench) (r s : Moved) → NextMove a bench r → NextMove b bench s → r ≡ s
  pub schedules : (r s : Result Ran Refusal) → Runs a r → Runs b s → r ≡ s

-- two accepted loads that differ in identifiers and boxes alone
abbrev pub Twins : Type 0
Twins =
    (a b : Load) → SameLoad a b → CheckLoad a (Ok tt) → CheckLoad b (Ok tt) → SameAnswers a b
