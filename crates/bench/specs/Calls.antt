-- What each public call's contract says: one relation a call, over what it takes and what it gives.
-- To be read after Held and Runs.
use Rattle.std.specs.Prelude.{ℕ, List, ◌≡◌, Result}
use Rattle.refusals.specs.declared.Refusal.{Refusal}
use Rattle.refusals.specs.Checked.{Checked}
use Rattle.refusals.specs.Given.{given, Given}
use Rattle.load.specs.declared.Load.{Load}
use Rattle.load.specs.View.{view_of}
use Rattle.load.specs.Check.{for_bench}
use Rattle.load_file.specs.Places.{load_in}
use Rattle.load_file.specs.Reading.{file_for_bench}
use Rattle.rules.specs.State.{fresh}
use Rattle.rules.specs.Run.{schedule}
use Rattle.schedule_file.specs.ScheduleFile.{schedule_bytes}
use Rattle.bench.specs.declared.Bench.{Bench}
use Rattle.bench.specs.declared.Moved.{Moved}
use Rattle.bench.specs.declared.Ran.{Ran}
use Rattle.bench.specs.Held.{bench_of, next_move}
use Rattle.bench.specs.Runs.{ran_with}

-- fresh(): fresh is all zero
abbrev pub Fresh : Bench → Type 0
Fresh r = r ≡ bench_of fresh

-- next_move(load, bench): one move of the bench
abbrev pub NextMove : Load → Bench → Moved → Type 0
NextMove load bench r = r ≡ next_move load bench

-- run(load): the load's own number, or the schedule
abbrev pub Runs : Load → Result Ran Refusal → Type 0
Runs load r = r ≡ given (for_bench load) (ran_with (schedule (view_of load)))

-- write_run(bytes, out): the file's own numbers, then 9, or the schedule file of the run in the
-- output
abbrev pub WriteRun : List ℕ → List ℕ → Checked → List ℕ → Type 0
WriteRun bs out r after =
    Given (file_for_bench bs) (schedule_bytes (schedule (view_of (load_in bs)))) out r after
