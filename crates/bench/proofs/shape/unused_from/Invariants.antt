-- `unused_from` asks one row a turn: while all are 0, what is to be found is what those from here on show.
use Prim.Native.Nat.{◌-◌}
use mathlib.Core.Path.{◌≡◌}
use Rattle.counting.specs.Sums.{all_from}
use Rattle.rules.specs.State.{row_unused}
use Rattle.bench.specs.Held.{state_of}
use Rattle.bench.proofs.shape.unused_from.Given as goal

abbrev pub invariant-loop-i : goal.invariant-loop-i
invariant-loop-i l = all_from (row_unused (state_of l.bench)) l.rows 24
    ≡ all_from (row_unused (state_of l.bench)) l.i 24

abbrev pub decreases-loop-i : goal.decreases-loop-i
decreases-loop-i l = 24 - l.i
