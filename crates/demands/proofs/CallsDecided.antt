-- Every public call's relation is met by a result, and by one only: each is an equation, and a writing call's relation
-- decides both what it gives and what its output holds. Shown layer by layer.
use Rattle.demands.specs.PublicCalls.{EveryCall}
use Rattle.demands.specs.Sameness.{Sameness}
use Rattle.demands.specs.Demand1.{Answer}
use Rattle.demands.proofs.calls.WordCallsHold.{word_same, word-answers}
use Rattle.demands.proofs.calls.LoadCallsHold.{load_same, load-answers}
use Rattle.demands.proofs.calls.FileCallsHold.{file-same, file-answers}
use Rattle.demands.proofs.calls.SheetCallsHold.{sheet-same, sheet-answers}
use Rattle.demands.proofs.calls.BoundCallsHold.{bound-same, bound-answers}
use Rattle.demands.proofs.calls.BenchCallsHold.{bench-same, bench-answers}
use Rattle.demands.proofs.calls.ScheduleCallsHold.{schedule-same, schedule-answers}
use Rattle.demands.proofs.calls.HostCallsHold.{host-same, host-answers}

pub sameness : Sameness
sameness =
    record {
      words = word_same;
      loads = load_same;
      files = file-same;
      sheets = sheet-same;
      bounds = bound-same;
      benches = bench-same;
      schedules = schedule-same;
      hosts = host-same;
    }

pub every-answer : EveryCall Answer
every-answer =
    record {
      words = word-answers;
      loads = load-answers;
      files = file-answers;
      sheets = sheet-answers;
      bounds = bound-answers;
      benches = bench-answers;
      schedules = schedule-answers;
      hosts = host-answers;
    }
