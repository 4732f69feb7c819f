-- `all_finished` asks one row a turn: the first i rows are finished, and the first that is not ends the search.
use Rattle.std.proofs.Common.{◌≡◌, true}
use Rattle.bench.specs.inner.Moves.{finished_in}
use Rattle.bench.proofs.moves.all_finished.Given as goal

abbrev pub invariant-loop-i : goal.invariant-loop-i
invariant-loop-i l = finished_in l.board l.i ≡ true
