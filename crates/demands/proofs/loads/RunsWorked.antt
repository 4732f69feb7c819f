-- Loads A and B are accepted, and so is A's file, by computing; so demand 3 holds of their runs.
use Prim.Native.Nat.{ℕ, zero, suc}
use mathlib.Core.Bool.{Bool, true, ◌&&◌}
use mathlib.Core.List.{List, [], ◌∷◌}
use mathlib.Core.Path.{◌≡◌, refl, sym}
use native.Mathlib.Omega.{arith}
use lib.Dec.{ltb}
use borrow.Author.Tests.{ltb-true}
use Rattle.counting.proofs.tests.TestLaws.{and_left, and_right}
use Rattle.words.specs.LittleEndian.{Bytes}
use Rattle.demands.specs.Notation.{bytes_of}
use Rattle.demands.specs.LoadA.{load_a}
use Rattle.demands.specs.LoadB.{load_b}
use Rattle.demands.specs.WorkedRuns.{WorkedRuns}
use Rattle.demands.proofs.loads.Computing.{computing}
use Rattle.demands.proofs.loads.LoadsHold.{a-holds, b-holds}
use Rattle.demands.proofs.moves.RunByCalls.{run_of}
use Rattle.demands.proofs.Demand3Holds.{demand3}

-- each member is below 256
abbrev all_bytes : List ℕ → Bool
all_bytes [] = true
all_bytes (b ∷ bs) = ltb b 256 && all_bytes bs

bytes-are : (bs : List ℕ) → all_bytes bs ≡ true → Bytes bs
bytes-are [] e at = omega arith
bytes-are (b ∷ bs) e zero = ltb-true b 256 (and_left (ltb b 256) (all_bytes bs) e)
bytes-are (b ∷ bs) e (suc at) = bytes-are bs (and_right (ltb b 256) (all_bytes bs) e) at

a-bytes : Bytes (bytes_of load_a.file)
unfolding computing load_a
a-bytes = bytes-are (bytes_of load_a.file) refl

pub worked-runs : WorkedRuns
worked-runs =
    record {
      run-a = run_of load_a.load;
      kept-a = demand3.of-loads load_a.load (sym a-holds.checks) (run_of load_a.load);
      read-file-a = sym a-holds.reads;
      kept-file-a = demand3.of-files (bytes_of load_a.file) a-bytes;
      run-b = run_of load_b.load;
      kept_b = demand3.of-loads load_b.load (sym b-holds.checks) (run_of load_b.load);
    }
