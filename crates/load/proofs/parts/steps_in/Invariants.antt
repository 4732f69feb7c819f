-- `load::steps_in` adds one row a turn: at i it holds the steps of the first i rows. A load counts at most 255 rows and
-- a row at most 255 steps, so the sum fits; past the 24 places nothing stands in the list, and the row of zeros has no
-- step.
use Prim.Native.Nat.{ℕ, ◌-◌, ◌*◌, ◌≤◌}
use mathlib.Core.Path.{◌≡◌}
use Rattle.counting.specs.Sums.{sum_to}
use Rattle.load.specs.declared.Load.{Load}
use Rattle.load.specs.Load.{row_at}
use Rattle.load.proofs.parts.steps_in.Given as goal

abbrev pub steps_of : Load → ℕ → ℕ
steps_of load i = (row_at load i).steps

abbrev pub invariant-loop-i : goal.invariant-loop-i
invariant-loop-i l = (l.i ≤ l.i-end) × (l.steps ≡ sum_to (steps_of l.load) l.i) × (l.steps ≤ 255 * l.i)

abbrev pub decreases-loop-i : goal.decreases-loop-i
decreases-loop-i l = l.i-end - l.i
