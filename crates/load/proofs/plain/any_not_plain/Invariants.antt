-- `any_not_plain` looks at one row a turn: of the first i rows each is plain, and the first that is not ends the
-- search.
use Prim.Native.Nat.{ℕ, ◌-◌, ◌≤◌}
use mathlib.Core.Bool.{Bool, false}
use mathlib.Core.Path.{◌≡◌}
use Rattle.counting.specs.Sums.{any_to}
use Rattle.load.specs.declared.Load.{Load}
use Rattle.load.specs.Load.{row_at}
use Rattle.load.specs.Plain.{not_plain}
use Rattle.load.proofs.plain.any_not_plain.Given as goal

-- the row at a place is not plain
abbrev pub at : Load → ℕ → Bool
at load i = not_plain (row_at load i)

abbrev pub invariant-loop-i : goal.invariant-loop-i
invariant-loop-i l = (l.i ≤ l.rows) × (any_to (at l.load) l.i ≡ false)

abbrev pub decreases-loop-i : goal.decreases-loop-i
decreases-loop-i l = l.rows - l.i
