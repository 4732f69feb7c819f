-- "What the contracts have to say": every public call on bounds, margins and blames, once.
-- To be read after the Calls of the crates that it names.
use Rattle.std.specs.Prelude.{ℕ, Bool, List, ℤ, Result}
use Rattle.refusals.specs.declared.Refusal.{Refusal}
use Rattle.load.specs.declared.Load.{Load}
use Rattle.rules.specs.declared.LargestW.{LargestW}
use Rattle.bound.specs.declared.Answered.{Answered}
use Rattle.bound.specs.declared.Blamed.{Blamed}
use Rattle.bound.specs.Calls.{
  AnswersOf,
  BoundOf,
  MarginsOf,
  VerdictOf,
  BlamesOf,
  PlaceWaitsOf,
  MarginBytes,
}

-- what is claimed of the relation of each call on bounds, margins and blames, for all that it is
-- given
pub record EveryBoundCall {ℓ} (Claim : (A : Type 0) → (A → Type 0) → Type ℓ) : Type ℓ where
  -- bound
  pub answers_of : (load : Load) → Claim (Result Answered Refusal) (AnswersOf load)
  pub bound_of : (load : Load) → Claim (Result ℕ Refusal) (BoundOf load)
  pub margins-of : (load : Load) → Claim (Result (List ℤ) Refusal) (MarginsOf load)
  pub verdict-of : (load : Load) → Claim (Result Bool Refusal) (VerdictOf load)
  pub blames-of : (load : Load) → Claim (Result Blamed Refusal) (BlamesOf load)
  pub place-waits-of : (load : Load) → Claim (Result (List LargestW) Refusal) (PlaceWaitsOf load)
  pub margin-bytes : (margins : List ℤ) → Claim (List ℕ) (MarginBytes margins)
