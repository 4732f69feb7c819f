-- Any two results that meet a call's contract are equal.
use Rattle.std.proofs.Common.{ℕ, Bool, List, ◌≡◌, sym, ◌∙◌}
use Rattle.std.specs.Prelude.{ℤ, Result}
use Rattle.refusals.specs.declared.Refusal.{Refusal}
use Rattle.load.specs.declared.Load.{Load}
use Rattle.rules.specs.declared.LargestW.{LargestW}
use Rattle.bound.specs.declared.Answered.{Answered}
use Rattle.bound.specs.declared.Blamed.{Blamed}
use Rattle.bound.specs.Calls.{
  AnswersOf,
  BoundOf,
  MarginsOf,
  VerdictOf,
  BlamesOf,
  PlaceWaitsOf,
  MarginBytes,
}

pub AnswersOf-unique : (load : Load) (r s : Result Answered Refusal) → AnswersOf load r → AnswersOf load s → r ≡ s
AnswersOf-unique load r s p q = p ∙ sym q

pub BoundOf-unique : (load : Load) (r s : Result ℕ Refusal) → BoundOf load r → BoundOf load s → r ≡ s
BoundOf-unique load r s p q = p ∙ sym q

pub MarginsOf-unique : (load : Load) (r s : Result (List ℤ) Refusal) → MarginsOf load r → MarginsOf load s → r ≡ s
MarginsOf-unique load r s p q = p ∙ sym q

pub VerdictOf-unique : (load : Load) (r s : Result Bool Refusal) → VerdictOf load r → VerdictOf load s → r ≡ s
VerdictOf-unique load r s p q = p ∙ sym q

pub BlamesOf-unique : (load : Load) (r s : Result Blamed Refusal) → BlamesOf load r → BlamesOf load s → r ≡ s
BlamesOf-unique load r s p q = p ∙ sym q

pub PlaceWaitsOf-unique : (load : Load) (r s : Result (List LargestW) Refusal) → PlaceWaitsOf load r
    → PlaceWaitsOf load s → r ≡ s
PlaceWaitsOf-unique load r s p q = p ∙ sym q

pub MarginBytes-unique : (margins : List ℤ) (r s : List ℕ) → MarginBytes margins r → MarginBytes margins s → r ≡ s
MarginBytes-unique margins r s p q = p ∙ sym q
