-- The contract of each call on plan and bench is its relation in BenchCalls, at the call's own parameters,
-- and asks nothing. This is a statement, a part of Joined.
use Rattle.plan.specs.contracts as plan
use Rattle.bench.specs.contracts as bench
use Rattle.demands.specs.BenchCalls.{EveryBenchCall}
use Rattle.demands.specs.JoinedContract.{Says, Relation, wrote}

pub record BenchContracts (relation : EveryBenchCall Relation) : Type 2 where
  -- plan
  pub open-window : Says plan.open_window.ended (λ M 𝓤. plan.open_window.spec)
      (λ κs a r s. (relation.open-window a.0 a.1.0).meets r)
  pub look-of : Says plan.look_of.ended (λ M 𝓤. plan.look_of.spec)
      (λ κs a r s. (relation.look-of a.0 a.1.0 a.1.1.0 a.1.1.1.0).meets r)
  pub look_at : Says plan.look_at.ended (λ M 𝓤. plan.look_at.spec)
      (λ κs a r s. (relation.look_at a.0.now a.1.0).meets r)
  pub put-look : Says plan.put_look.ended (λ M 𝓤. plan.put_look.spec)
      (λ κs a r s. (relation.put-look a.0.now a.1.0 a.1.1.0).meets s.0.now)
  pub opening-after : Says plan.opening_after.ended (λ M 𝓤. plan.opening_after.spec)
      (λ κs a r s. (relation.opening-after a.0 a.1.0 a.1.1.0 a.1.1.1.0).meets r)
  pub chosen-row : Says plan.chosen_row.ended (λ M 𝓤. plan.chosen_row.spec)
      (λ κs a r s. (relation.chosen-row a.0.now a.1.0.now a.1.1.0 a.1.1.1.0).meets r)
  pub next_start : Says plan.next_start.ended (λ M 𝓤. plan.next_start.spec)
      (λ κs a r s. (relation.next_start a.0.now a.1.0.now a.1.1.0 a.1.1.1.0).meets r)
  -- bench
  pub fresh : Says bench.fresh.ended (λ M 𝓤. bench.fresh.spec)
      (λ κs a r s. relation.fresh.meets r)
  pub next-move : Says bench.next_move.ended (λ M 𝓤. bench.next_move.spec)
      (λ κs a r s. (relation.next-move a.0 a.1.0).meets r)
  pub run : Says bench.run.ended (λ M 𝓤. bench.run.spec)
      (λ κs a r s. (relation.run a.0).meets r)
  pub write-run : Says bench.write_run.ended (λ M 𝓤. bench.write_run.spec)
      (λ κs a r s. (relation.write-run a.0.now a.1.0.now).meets (wrote r s.1.0.now))
