-- The calls on what the host gets: each contract is its relation in HostCalls, which a result meets, and one only.
use Prim.Native.Nat.{ℕ}
use mathlib.Core.List.{List}
use mathlib.Core.Path.{refl}
use Rattle.std.specs.Prelude.{Ok}
use Rattle.refusals.specs.Refusals.{number_given}
use Rattle.load.specs.View.{View, view_of}
use Rattle.load_file.specs.Places.{load_in}
use Rattle.load_file.specs.Reading.{file_fault}
use Rattle.rules.specs.Margins.{margin_bytes}
use Rattle.reading_bench.specs.Calls.{ForC, bound_bytes, verdict_bytes, schedule_file}
use Rattle.reading_bench.proofs.CallLaws.{
  BenchBound-unique,
  BenchVerdict-unique,
  BenchMargins-unique,
  BenchSchedule-unique,
}
use Rattle.lines.specs.Lines.{printed, printed_blamed}
use Rattle.lines.proofs.CallLaws.{TextOf-unique, BlamedTextOf-unique, PrintLines-unique, PrintBlames-unique}
use Rattle.demands.specs.FileCalls.{Wrote, Writes}
use Rattle.demands.specs.HostCalls.{EveryHostCall}
use Rattle.demands.specs.Sameness.{OneResult}
use Rattle.demands.specs.JoinedContract.{Relation}
use Rattle.demands.specs.Demand1.{Answer}
use Rattle.demands.proofs.contracts.HostContracts.{HostContracts}
use Rattle.demands.proofs.calls.CallAnswers.{listed, both, is, given, writes-out}

abbrev pub host-relations : EveryHostCall Relation
host-relations =
    record {
      text_of = λ bs. listed;
      blamed-text-of = λ bs. listed;
      print-lines = λ bs out. listed;
      print-blames = λ bs out. listed;
      bench-bound = λ bs out. listed;
      bench-verdict = λ bs out. listed;
      bench-margins = λ bs out. listed;
      bench-schedule = λ bs out. listed;
    }

pub host-contracts : HostContracts host-relations
host-contracts =
    record {
      text_of = refl;
      blamed-text-of = refl;
      print-lines = refl;
      print-blames = refl;
      bench-bound = refl;
      bench-verdict = refl;
      bench-margins = refl;
      bench-schedule = refl;
    }

pub host-same : EveryHostCall OneResult
host-same =
    record {
      text_of = TextOf-unique;
      blamed-text-of = BlamedTextOf-unique;
      print-lines = λ bs out. both _ (PrintLines-unique bs out);
      print-blames = λ bs out. both _ (PrintBlames-unique bs out);
      bench-bound = λ bs out. both _ (BenchBound-unique bs out);
      bench-verdict = λ bs out. both _ (BenchVerdict-unique bs out);
      bench-margins = λ bs out. both _ (BenchMargins-unique bs out);
      bench-schedule = λ bs out. both _ (BenchSchedule-unique bs out);
    }

-- a call for C gives the number of what is found
for-c : (answer : View → List ℕ) (bs out : List ℕ) → Answer (Wrote ℕ) (Writes (ForC answer bs out))
for-c answer bs out =
    let g = given (file_fault bs) (answer (view_of (load_in bs))) out in
    record {
      result = record { gives = number_given g.result.gives; after = g.result.after };
      met = record { found = g.result.gives; given = g.met; number_is = refl };
    }

pub host-answers : EveryHostCall Answer
host-answers =
    record {
      text_of = λ bs. is _;
      blamed-text-of = λ bs. is _;
      print-lines = λ bs out. writes-out (Ok tt) (printed bs) out;
      print-blames = λ bs out. writes-out (Ok tt) (printed_blamed bs) out;
      bench-bound = for-c bound_bytes;
      bench-verdict = for-c verdict_bytes;
      bench-margins = for-c margin_bytes;
      bench-schedule = for-c schedule_file;
    }
