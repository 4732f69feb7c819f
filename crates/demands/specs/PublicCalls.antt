-- "What the contracts have to say": every public call, once. Each layer has a file with a field a
-- call, over the relation that the call's contract cites, and here it has a field. What is claimed
-- of all calls is claimed through this list. To be read after WordCalls to HostCalls. Rests on D64.
use Rattle.demands.specs.WordCalls.{EveryWordCall}
use Rattle.demands.specs.LoadCalls.{EveryLoadCall}
use Rattle.demands.specs.FileCalls.{EveryFileCall}
use Rattle.demands.specs.SheetCalls.{EverySheetCall}
use Rattle.demands.specs.BoundCalls.{EveryBoundCall}
use Rattle.demands.specs.BenchCalls.{EveryBenchCall}
use Rattle.demands.specs.ScheduleCalls.{EveryScheduleCall}
use Rattle.demands.specs.HostCalls.{EveryHostCall}

-- what is claimed of the relation of each public call, for all that the call is given
pub record EveryCall {ℓ} (Claim : (A : Type 0) → (A → Type 0) → Type ℓ) : Type ℓ where
  pub words : EveryWordCall Claim
  pub loads : EveryLoadCall Claim
  pub files : EveryFileCall Claim
  pub sheets : EverySheetCall Claim
  pub bounds : EveryBoundCall Claim
  pub benches : EveryBenchCall Claim
  pub schedules : EveryScheduleCall Claim
  pub hosts : EveryHostCall Claim
