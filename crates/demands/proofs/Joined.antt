-- "Each public call's contract decides the result and every lent byte and slot afterwards, for all inputs and each
-- refusal": each public call's contract is its relation in PublicCalls, at the call's own parameters, and asks nothing.
-- This is a statement, and JoinedHolds proves it. It stands beside its witness: contracts were once generated under
-- proofs, which no specs file cites. A file a layer in contracts has a field a call. A call's parameters are `a.0`,
-- `a.1.0` and so on, and `.now` is what is lent; tests/contracts compares each field with the line of its function.
-- To be read after JoinedContract.
use Rattle.demands.specs.PublicCalls.{EveryCall}
use Rattle.demands.specs.JoinedContract.{Relation}
use Rattle.demands.proofs.contracts.WordContracts.{WordContracts}
use Rattle.demands.proofs.contracts.LoadContracts.{LoadContracts}
use Rattle.demands.proofs.contracts.FileContracts.{FileContracts}
use Rattle.demands.proofs.contracts.SheetContracts.{SheetContracts}
use Rattle.demands.proofs.contracts.BoundContracts.{BoundContracts}
use Rattle.demands.proofs.contracts.BenchContracts.{BenchContracts}
use Rattle.demands.proofs.contracts.ScheduleContracts.{ScheduleContracts}
use Rattle.demands.proofs.contracts.HostContracts.{HostContracts}

-- the contracts and the demands are joined
pub record Joined : Type 2 where
  -- the relations, out of the list that the demands speak of
  pub relation : EveryCall Relation
  -- the contracts of each layer
  pub words : WordContracts relation.words
  pub loads : LoadContracts relation.loads
  pub files : FileContracts relation.files
  pub sheets : SheetContracts relation.sheets
  pub bounds : BoundContracts relation.bounds
  pub benches : BenchContracts relation.benches
  pub schedules : ScheduleContracts relation.schedules
  pub hosts : HostContracts relation.hosts
