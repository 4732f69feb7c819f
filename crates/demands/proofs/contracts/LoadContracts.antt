-- The contract of each call on a load in memory is its relation in LoadCalls, at the call's own parameters,
-- and asks nothing. This is a statement, a part of Joined.
use Rattle.load.specs.contracts as load
use Rattle.demands.specs.LoadCalls.{EveryLoadCall}
use Rattle.demands.specs.JoinedContract.{Says, Relation}

pub record LoadContracts (relation : EveryLoadCall Relation) : Type 2 where
  -- load
  pub check-load : Says load.check_load.ended (λ M 𝓤. load.check_load.spec)
      (λ κs a r s. (relation.check-load a.0).meets r)
  pub check-plain : Says load.check_plain.ended (λ M 𝓤. load.check_plain.spec)
      (λ κs a r s. (relation.check-plain a.0).meets r)
  pub check-fields : Says load.check_fields.ended (λ M 𝓤. load.check_fields.spec)
      (λ κs a r s. (relation.check-fields a.0).meets r)
  pub check-step : Says load.check_step.ended (λ M 𝓤. load.check_step.spec)
      (λ κs a r s. (relation.check-step a.0 a.1.0).meets r)
  pub check-window : Says load.check_window.ended (λ M 𝓤. load.check_window.spec)
      (λ κs a r s. (relation.check-window a.0 a.1.0 a.1.1.0).meets r)
  pub check-parts : Says load.check_parts.ended (λ M 𝓤. load.check_parts.spec)
      (λ κs a r s. (relation.check-parts a.0).meets r)
  pub identifier-taken : Says load.identifier_taken.ended (λ M 𝓤. load.identifier_taken.spec)
      (λ κs a r s. (relation.identifier-taken a.0 a.1.0 a.1.1.0).meets r)
  pub box-taken : Says load.box_taken.ended (λ M 𝓤. load.box_taken.spec)
      (λ κs a r s. (relation.box-taken a.0 a.1.0 a.1.1.0).meets r)
  pub row-at : Says load.row_at.ended (λ M 𝓤. load.row_at.spec)
      (λ κs a r s. (relation.row-at a.0 a.1.0).meets r)
  pub step-at : Says load.step_at.ended (λ M 𝓤. load.step_at.spec)
      (λ κs a r s. (relation.step-at a.0 a.1.0).meets r)
  pub window-at : Says load.window_at.ended (λ M 𝓤. load.window_at.spec)
      (λ κs a r s. (relation.window-at a.0 a.1.0).meets r)
  pub embedded-at : Says load.embedded_at.ended (λ M 𝓤. load.embedded_at.spec)
      (λ κs a r s. (relation.embedded-at a.0 a.1.0).meets r)
  pub chain-between : Says load.chain_between.ended (λ M 𝓤. load.chain_between.spec)
      (λ κs a r s. (relation.chain-between a.0 a.1.0 a.1.1.0).meets r)
  pub steps-in : Says load.steps_in.ended (λ M 𝓤. load.steps_in.spec)
      (λ κs a r s. (relation.steps-in a.0).meets r)
  pub zero_row : Says load.zero_row.ended (λ M 𝓤. load.zero_row.spec)
      (λ κs a r s. relation.zero_row.meets r)
  pub zero-load : Says load.zero_load.ended (λ M 𝓤. load.zero_load.spec)
      (λ κs a r s. relation.zero-load.meets r)
