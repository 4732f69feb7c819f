-- Each public call's contract is its relation in PublicCalls, and nothing else: the two are one text, so each is shown
-- by computing, layer by layer.
use Rattle.demands.specs.PublicCalls.{EveryCall}
use Rattle.demands.specs.JoinedContract.{Relation}
use Rattle.demands.proofs.Joined.{Joined}
use Rattle.demands.proofs.calls.WordCallsHold.{word-relations, word-contracts}
use Rattle.demands.proofs.calls.LoadCallsHold.{load-relations, load-contracts}
use Rattle.demands.proofs.calls.FileCallsHold.{file-relations, file-contracts}
use Rattle.demands.proofs.calls.SheetCallsHold.{sheet-relations, sheet-contracts}
use Rattle.demands.proofs.calls.BoundCallsHold.{bound-relations, bound-contracts}
use Rattle.demands.proofs.calls.BenchCallsHold.{bench-relations, bench-contracts}
use Rattle.demands.proofs.calls.ScheduleCallsHold.{schedule-relations, schedule-contracts}
use Rattle.demands.proofs.calls.HostCallsHold.{host-relations, host-contracts}

abbrev relations : EveryCall Relation
relations =
    record {
      words = word-relations;
      loads = load-relations;
      files = file-relations;
      sheets = sheet-relations;
      bounds = bound-relations;
      benches = bench-relations;
      schedules = schedule-relations;
      hosts = host-relations;
    }

pub joined : Joined
joined =
    record {
      relation = relations;
      words = word-contracts;
      loads = load-contracts;
      files = file-contracts;
      sheets = sheet-contracts;
      bounds = bound-contracts;
      benches = bench-contracts;
      schedules = schedule-contracts;
      hosts = host-contracts;
    }
