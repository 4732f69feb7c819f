-- The calls on plan and bench: each contract is its relation in BenchCalls, which a result meets, and one only.
use mathlib.Core.Path.{refl}
use Rattle.load.specs.View.{view_of}
use Rattle.load_file.specs.Places.{load_in}
use Rattle.load_file.specs.Reading.{file_for_bench}
use Rattle.rules.specs.Run.{schedule}
use Rattle.plan.proofs.CallLaws.{
  OpenWindow-unique,
  LookOf-unique,
  LookAt-unique,
  PutLook-unique,
  OpeningAfter-unique,
  ChosenRow-unique,
  NextStart-unique,
  next_start,
  NextStart-met,
}
use Rattle.bench.proofs.CallLaws.{Fresh-unique, NextMove-unique, Runs-unique, WriteRun-unique}
use Rattle.schedule_file.specs.ScheduleFile.{schedule_bytes}
use Rattle.demands.specs.BenchCalls.{EveryBenchCall}
use Rattle.demands.specs.Sameness.{OneResult}
use Rattle.demands.specs.JoinedContract.{Relation}
use Rattle.demands.specs.Demand1.{Answer}
use Rattle.demands.proofs.contracts.BenchContracts.{BenchContracts}
use Rattle.demands.proofs.calls.CallAnswers.{listed, both, is, given}

abbrev pub bench-relations : EveryBenchCall Relation
bench-relations =
    record {
      open-window = λ row finished. listed;
      look-of = λ row finished end opening. listed;
      look_at = λ board i. listed;
      put-look = λ board i look. listed;
      opening-after = λ stays opened opening clock. listed;
      chosen-row = λ board classes clock rows. listed;
      next_start = λ board classes clock rows. listed;
      fresh = listed;
      next-move = λ load bench. listed;
      run = λ load. listed;
      write-run = λ bs out. listed;
    }

pub bench-contracts : BenchContracts bench-relations
bench-contracts =
    record {
      open-window = refl;
      look-of = refl;
      look_at = refl;
      put-look = refl;
      opening-after = refl;
      chosen-row = refl;
      next_start = refl;
      fresh = refl;
      next-move = refl;
      run = refl;
      write-run = refl;
    }

pub bench-same : EveryBenchCall OneResult
bench-same =
    record {
      open-window = OpenWindow-unique;
      look-of = LookOf-unique;
      look_at = LookAt-unique;
      put-look = PutLook-unique;
      opening-after = OpeningAfter-unique;
      chosen-row = ChosenRow-unique;
      next_start = NextStart-unique;
      fresh = Fresh-unique;
      next-move = NextMove-unique;
      run = Runs-unique;
      write-run = λ bs out. both _ (WriteRun-unique bs out);
    }

pub bench-answers : EveryBenchCall Answer
bench-answers =
    record {
      open-window = λ row finished. is _;
      look-of = λ row finished end opening. is _;
      look_at = λ board i. is _;
      put-look = λ board i look. is _;
      opening-after = λ stays opened opening clock. is _;
      chosen-row = λ board classes clock rows. is _;
      next_start = λ board classes clock rows.
          record { result = next_start board classes clock rows; met = NextStart-met board classes clock rows };
      fresh = is _;
      next-move = λ load bench. is _;
      run = λ load. is _;
      write-run = λ bs out. given (file_for_bench bs) (schedule_bytes (schedule (view_of (load_in bs)))) out;
    }
