-- The contract of each call on what the host gets is its relation in HostCalls, at the call's own parameters,
-- and asks nothing. This is a statement, a part of Joined.
use Rattle.lines.specs.contracts as lines
use Rattle.reading_bench.specs.contracts as reading_bench
use Rattle.demands.specs.HostCalls.{EveryHostCall}
use Rattle.demands.specs.JoinedContract.{Says, Relation, wrote}

pub record HostContracts (relation : EveryHostCall Relation) : Type 2 where
  -- lines
  pub text_of : Says lines.text_of.ended (λ M 𝓤. lines.text_of.spec)
      (λ κs a r s. (relation.text_of a.0.now).meets r)
  pub blamed-text-of : Says lines.blamed_text_of.ended (λ M 𝓤. lines.blamed_text_of.spec)
      (λ κs a r s. (relation.blamed-text-of a.0.now).meets r)
  pub print-lines : Says lines.print_lines.ended (λ M 𝓤. lines.print_lines.spec)
      (λ κs a r s. (relation.print-lines a.0.now a.1.0.now).meets (wrote r s.1.0.now))
  pub print-blames : Says lines.print_blames.ended (λ M 𝓤. lines.print_blames.spec)
      (λ κs a r s. (relation.print-blames a.0.now a.1.0.now).meets (wrote r s.1.0.now))
  -- reading_bench
  pub bench-bound : Says reading_bench.bench_bound.ended (λ M 𝓤. reading_bench.bench_bound.spec)
      (λ κs a r s. (relation.bench-bound a.0.now a.1.0.now).meets (wrote r s.1.0.now))
  pub bench-verdict : Says reading_bench.bench_verdict.ended (λ M 𝓤. reading_bench.bench_verdict.spec)
      (λ κs a r s. (relation.bench-verdict a.0.now a.1.0.now).meets (wrote r s.1.0.now))
  pub bench-margins : Says reading_bench.bench_margins.ended (λ M 𝓤. reading_bench.bench_margins.spec)
      (λ κs a r s. (relation.bench-margins a.0.now a.1.0.now).meets (wrote r s.1.0.now))
  pub bench-schedule : Says reading_bench.bench_schedule.ended (λ M 𝓤. reading_bench.bench_schedule.spec)
      (λ κs a r s. (relation.bench-schedule a.0.now a.1.0.now).meets (wrote r s.1.0.now))
