-- The contract of each call on words and refusals is its relation in WordCalls, at the call's own parameters,
-- and asks nothing. This is a statement, a part of Joined.
use Rattle.words.specs.contracts as words
use Rattle.refusals.specs.contracts as refusals
use Rattle.demands.specs.WordCalls.{EveryWordCall}
use Rattle.demands.specs.JoinedContract.{Says, Relation}

pub record WordContracts (relation : EveryWordCall Relation) : Type 2 where
  -- words
  pub byte-at : Says words.byte_at.ended (λ M 𝓤. words.byte_at.spec)
      (λ κs a r s. (relation.byte-at a.0.now a.1.0).meets r)
  pub number16-at : Says words.number16_at.ended (λ M 𝓤. words.number16_at.spec)
      (λ κs a r s. (relation.number16-at a.0.now a.1.0).meets r)
  pub number32-at : Says words.number32_at.ended (λ M 𝓤. words.number32_at.spec)
      (λ κs a r s. (relation.number32-at a.0.now a.1.0).meets r)
  pub overwrite : Says words.overwrite.ended (λ M 𝓤. words.overwrite.spec)
      (λ κs a r s. (relation.overwrite a.0.now a.1.0 a.1.1.0.now).meets s.0.now)
  pub bytes16 : Says words.bytes16.ended (λ M 𝓤. words.bytes16.spec)
      (λ κs a r s. (relation.bytes16 a.0).meets r)
  pub bytes32 : Says words.bytes32.ended (λ M 𝓤. words.bytes32.spec)
      (λ κs a r s. (relation.bytes32 a.0).meets r)
  pub complement32 : Says words.complement32.ended (λ M 𝓤. words.complement32.spec)
      (λ κs a r s. (relation.complement32 a.0).meets r)
  pub decimal-of : Says words.decimal_of.ended (λ M 𝓤. words.decimal_of.spec)
      (λ κs a r s. (relation.decimal-of a.0).meets r)
  pub signed_of : Says words.signed_of.ended (λ M 𝓤. words.signed_of.spec)
      (λ κs a r s. (relation.signed_of a.0).meets r)
  pub decimal-at : Says words.decimal_at.ended (λ M 𝓤. words.decimal_at.spec)
      (λ κs a r s. (relation.decimal-at a.0.now a.1.0).meets r)
  -- refusals
  pub number_of : Says refusals.number_of.ended (λ M 𝓤. refusals.number_of.spec)
      (λ κs a r s. (relation.number_of a.0).meets r)
  pub number-given : Says refusals.number_given.ended (λ M 𝓤. refusals.number_given.spec)
      (λ κs a r s. (relation.number-given a.0).meets r)
