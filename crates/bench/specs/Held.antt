-- "One move of the bench": "Each move takes the bench state and hands the next one back". The
-- bridge between a bench held in memory, 24 places to a field, and the state of the rules.
use Rattle.std.specs.Prelude.{ℕ, ◌≡◌, length, Ok, Err}
use Rattle.counting.specs.Lists.{list_to, member_at}
use Rattle.refusals.specs.declared.Refusal.{Refusal}
use Rattle.load.specs.declared.Load.{Load}
use Rattle.load.specs.Load.{most_rows}
use Rattle.load.specs.View.{view_of}
use Rattle.load.specs.Check.{for_bench}
use Rattle.rules.specs.declared.Outcome.{Outcome}
use Rattle.rules.specs.declared.Outcome.TheVariants.{Start, Idle, Done, Refused}
use Rattle.rules.specs.State.{State}
use Rattle.rules.specs.Move.{Moved as Move, move}
use Rattle.bench.specs.declared.Bench.{Bench}
use Rattle.bench.specs.declared.Moved.{Moved}

-- the state that a bench in memory holds
abbrev pub state_of : Bench → State
state_of bench =
    record {
      clock = bench.clock;
      finished = member_at bench.finished;
      end = member_at bench.end;
      opening = member_at bench.opening;
    }

-- a state held in memory
unfoldable pub bench_of : State → Bench
bench_of s =
    record {
      clock = s.clock;
      finished = list_to s.finished most_rows;
      end = list_to s.end most_rows;
      opening = list_to s.opening most_rows;
    }

-- a bench as it is held in memory: what its type alone says
pub record HeldBench (bench : Bench) : Type 0 where
  pub finished-places : length bench.finished ≡ most_rows
  pub end-places : length bench.end ≡ most_rows
  pub opening-places : length bench.opening ≡ most_rows

-- a bench at another moment, and nothing else changed
abbrev pub bench_at : Bench → ℕ → Bench
bench_at bench t =
    record { clock = t; finished = bench.finished; end = bench.end; opening = bench.opening }

-- a refused move hands back the bench it was given, any other the bench of the next state
abbrev pub bench_after : Bench → Outcome → State → Bench
bench_after bench (Start slot) s = bench_of s
bench_after bench Idle s = bench_of s
bench_after bench Done s = bench_of s
bench_after bench (Refused refusal) s = bench

-- what a move of the rules hands back, in memory
abbrev pub handed_on : Bench → Move → Moved
handed_on bench m =
    record {
      bench = bench_after bench m.outcome m.then;
      outcome = m.outcome;
      lamps = m.lamps;
      count = m.count;
    }

-- a refused move hands back the bench it was given, with lamp word and count 0
abbrev pub refused_with : Bench → Refusal → Moved
refused_with bench refusal =
    record { bench = bench; outcome = Refused refusal; lamps = 0; count = 0 }

-- one move: the load's own numbers come first, then the move of the rules, with 10 and 11
unfoldable pub next_move : Load → Bench → Moved
next_move load bench =
    elim (for_bench load) [
      | Ok tt ↦ handed_on bench (move (view_of load) (state_of bench))
      | Err refusal ↦ refused_with bench refusal
    ]
