-- `kept_ticks` adds what one row keeps a turn, each at most 1,048,560.
use Rattle.std.proofs.Common.{ℕ, ◌*◌, ◌≤◌, ◌≡◌}
use Rattle.counting.specs.Sums.{sum_to}
use Rattle.load.specs.declared.Load.{Load}
use Rattle.load.specs.Load.{row_at}
use Rattle.bound.specs.inner.CutTerms.{ticks_of}
use Rattle.bound.proofs.cut.kept_ticks.Given as goal

-- what row i keeps
abbrev pub ticks_at : Load → ℕ → ℕ → ℕ
ticks_at load m i = ticks_of (row_at load i) m

abbrev pub invariant-loop-row : goal.invariant-loop-row
invariant-loop-row l =
    record {
      so_far : l.sum ≡ sum_to (ticks_at l.fn.load l.m) l.row-index;
      few : l.sum ≤ 1048560 * l.row-index;
    }
