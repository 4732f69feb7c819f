-- "Four idle builds are shut out": each as a definition, what such a build would give. To be read
-- after Demand3.
use Rattle.std.specs.Prelude.{ℕ, ◌+◌, Bool, List, ℤ, Err, Result}
use Rattle.refusals.specs.declared.Refusal.{Refusal}
use Rattle.refusals.specs.Given.{given}
use Rattle.load.specs.declared.Load.{Load}
use Rattle.load.specs.View.{view_of}
use Rattle.load.specs.Check.{for_bench}
use Rattle.rules.specs.declared.Blame.{Blame}
use Rattle.rules.specs.declared.Outcome.{Outcome}
use Rattle.rules.specs.declared.Outcome.TheVariants.{Idle}
use Rattle.rules.specs.Margins.{margins}
use Rattle.bound.specs.declared.Blamed.{Blamed}
use Rattle.bench.specs.declared.Bench.{Bench}
use Rattle.bench.specs.declared.Moved.{Moved}
use Rattle.bench.specs.Held.{bench_at, refused_with, next_move}

-- one that refuses all: every file
abbrev pub refuses_file : Refusal → List ℕ → Result Load Refusal
refuses_file refusal bs = Err refusal

-- and every move
abbrev pub refuses_move : Refusal → Load → Bench → Moved
refuses_move refusal load bench = refused_with bench refusal

-- one with a fixed verdict
abbrev pub fixed_verdict : Bool → Load → Result Bool Refusal
fixed_verdict verdict load = given (for_bench load) verdict

-- or that moves nothing, whatever it answers
abbrev pub moves_nothing : Outcome → ℕ → ℕ → Load → Bench → Moved
moves_nothing outcome lamps count load bench =
    record { bench = bench; outcome = outcome; lamps = lamps; count = count }

-- one that makes all starts in its first move, whatever that hands back, and then only idles
abbrev pub only_idles : Bench → Moved
only_idles bench =
    record { bench = bench_at bench (bench.clock + 1); outcome = Idle; lamps = 0; count = 0 }

-- one with invented lamp counts
abbrev pub invents_count : ℕ → Load → Bench → Moved
invents_count n load bench =
    let r = next_move load bench in
    record { bench = r.bench; outcome = r.outcome; lamps = r.lamps; count = n }

-- a bench with invented ends
abbrev pub with_ends : List ℕ → Bench → Bench
with_ends ends bench =
    record {
      clock = bench.clock;
      finished = bench.finished;
      end = ends;
      opening = bench.opening;
    }

-- one with invented ends
abbrev pub invents_ends : List ℕ → Load → Bench → Moved
invents_ends ends load bench =
    let r = next_move load bench in
    record {
      bench = with_ends ends r.bench;
      outcome = r.outcome;
      lamps = r.lamps;
      count = r.count;
    }

-- one with invented margins
abbrev pub invents_margins : List ℤ → Load → Result (List ℤ) Refusal
invents_margins margins load = given (for_bench load) margins

-- one with invented blames
abbrev pub invents_blames : List Blame → Load → Result Blamed Refusal
invents_blames blames load =
    given (for_bench load) (record { margins = margins (view_of load); blames = blames })
