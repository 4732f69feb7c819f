-- The contract of each call on bounds, margins and blames is its relation in BoundCalls, at the call's own parameters,
-- and asks nothing. This is a statement, a part of Joined.
use Rattle.bound.specs.contracts as bound
use Rattle.demands.specs.BoundCalls.{EveryBoundCall}
use Rattle.demands.specs.JoinedContract.{Says, Relation}

pub record BoundContracts (relation : EveryBoundCall Relation) : Type 2 where
  -- bound
  pub answers_of : Says bound.answers_of.ended (λ M 𝓤. bound.answers_of.spec)
      (λ κs a r s. (relation.answers_of a.0).meets r)
  pub bound_of : Says bound.bound_of.ended (λ M 𝓤. bound.bound_of.spec)
      (λ κs a r s. (relation.bound_of a.0).meets r)
  pub margins-of : Says bound.margins_of.ended (λ M 𝓤. bound.margins_of.spec)
      (λ κs a r s. (relation.margins-of a.0).meets r)
  pub verdict-of : Says bound.verdict_of.ended (λ M 𝓤. bound.verdict_of.spec)
      (λ κs a r s. (relation.verdict-of a.0).meets r)
  pub blames-of : Says bound.blames_of.ended (λ M 𝓤. bound.blames_of.spec)
      (λ κs a r s. (relation.blames-of a.0).meets r)
  pub place-waits-of : Says bound.place_waits_of.ended (λ M 𝓤. bound.place_waits_of.spec)
      (λ κs a r s. (relation.place-waits-of a.0).meets r)
  pub margin-bytes : Says bound.margin_bytes.ended (λ M 𝓤. bound.margin_bytes.spec)
      (λ κs a r s. (relation.margin-bytes a.0).meets r)
