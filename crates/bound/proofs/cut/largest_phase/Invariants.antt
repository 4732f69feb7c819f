-- `largest_phase` looks at one row a turn, and keeps the larger phase.
use Rattle.std.proofs.Common.{ℕ, ◌≡◌}
use Rattle.counting.specs.Sums.{max_to}
use Rattle.load.specs.declared.Load.{Load}
use Rattle.load.specs.Load.{row_at}
use Rattle.bound.proofs.cut.largest_phase.Given as goal

abbrev pub phase_at : Load → ℕ → ℕ
phase_at load i = (row_at load i).phase

abbrev pub invariant-loop-row : goal.invariant-loop-row
invariant-loop-row l = l.most ≡ max_to (phase_at l.fn.load) l.row-index
