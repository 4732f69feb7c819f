-- The worked cases of a move in memory hold, by computing.
use mathlib.Core.Path.{refl}
use Rattle.rules.proofs.worked.WorkedComputing.{computing}
use Rattle.bench.specs.Held.{bench_of, next_move}
use Rattle.bench.specs.WorkedBench.{WorkedBench}

pub worked-bench : WorkedBench
unfolding computing bench_of next_move
worked-bench =
    record {
      range-first = refl;
      taken-first = refl;
      chain_first = refl;
      load-before-full = refl;
      no-shape = refl;
      clock-full = refl;
      starts = refl;
      urgent = refl;
    }
