-- `rows_shaped` asks one row a turn: the first i rows have their shape, and the first that has not ends the search.
use Rattle.std.proofs.Common.{◌≡◌, true}
use Rattle.counting.specs.Sums.{all_to}
use Rattle.load.specs.View.{view_of}
use Rattle.rules.specs.State.{row_shaped}
use Rattle.bench.specs.Held.{state_of}
use Rattle.bench.proofs.shape.rows_shaped.Given as goal

abbrev pub invariant-loop-i : goal.invariant-loop-i
invariant-loop-i l = all_to (row_shaped (view_of l.fn.load) (state_of l.bench)) l.i ≡ true
