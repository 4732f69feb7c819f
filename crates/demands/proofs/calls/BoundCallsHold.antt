-- The calls on bounds, margins and blames: each contract is its relation in BoundCalls, which a result meets, and one
-- only.
use mathlib.Core.Path.{refl}
use Rattle.bound.proofs.CallLaws.{
  AnswersOf-unique,
  BoundOf-unique,
  MarginsOf-unique,
  VerdictOf-unique,
  BlamesOf-unique,
  PlaceWaitsOf-unique,
  MarginBytes-unique,
}
use Rattle.demands.specs.BoundCalls.{EveryBoundCall}
use Rattle.demands.specs.Sameness.{OneResult}
use Rattle.demands.specs.JoinedContract.{Relation}
use Rattle.demands.specs.Demand1.{Answer}
use Rattle.demands.proofs.contracts.BoundContracts.{BoundContracts}
use Rattle.demands.proofs.calls.CallAnswers.{listed, is}

abbrev pub bound-relations : EveryBoundCall Relation
bound-relations =
    record {
      answers_of = λ load. listed;
      bound_of = λ load. listed;
      margins-of = λ load. listed;
      verdict-of = λ load. listed;
      blames-of = λ load. listed;
      place-waits-of = λ load. listed;
      margin-bytes = λ margins. listed;
    }

pub bound-contracts : BoundContracts bound-relations
bound-contracts =
    record {
      answers_of = refl;
      bound_of = refl;
      margins-of = refl;
      verdict-of = refl;
      blames-of = refl;
      place-waits-of = refl;
      margin-bytes = refl;
    }

pub bound-same : EveryBoundCall OneResult
bound-same =
    record {
      answers_of = AnswersOf-unique;
      bound_of = BoundOf-unique;
      margins-of = MarginsOf-unique;
      verdict-of = VerdictOf-unique;
      blames-of = BlamesOf-unique;
      place-waits-of = PlaceWaitsOf-unique;
      margin-bytes = MarginBytes-unique;
    }

pub bound-answers : EveryBoundCall Answer
bound-answers =
    record {
      answers_of = λ load. is _;
      bound_of = λ load. is _;
      margins-of = λ load. is _;
      verdict-of = λ load. is _;
      blames-of = λ load. is _;
      place-waits-of = λ load. is _;
      margin-bytes = λ margins. is _;
    }
