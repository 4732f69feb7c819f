-- `sum_by` adds one row a turn, of a marked one both costs that are below t, and counts them; then t for each that is
-- still missing of the r.
use Prim.Native.Nat.{ℕ, ◌+◌, ◌*◌, ◌-◌, ◌≤◌}
use mathlib.Core.Bool.{Bool}
use mathlib.Core.List.{List}
use mathlib.Core.Path.{◌≡◌}
use Rattle.counting.specs.Lists.{is_marked}
use Rattle.counting.proofs.sorting.PairLaws.{pairs_sum_below}
use Rattle.load.specs.declared.Load.{Load}
use Rattle.bound.specs.inner.Marks.{cost_at}
use Rattle.bound.proofs.MarkLaws.{costs_below}
use Rattle.bound.proofs.smallest.sum_by.Given as goal

-- the sum of the first n rows' costs that are below t
abbrev pub added : Load → ℕ → List Bool → ℕ → ℕ → ℕ
added load j marks n t = pairs_sum_below (cost_at load j) (cost_at load (j + 1)) (is_marked marks) n t

abbrev pub invariant-loop-k : goal.invariant-loop-k
invariant-loop-k l =
    (l.k ≤ l.n)
    × (l.below ≡ costs_below l.load l.j l.marks l.k l.t)
    × (l.sum ≡ added l.load l.j l.marks l.k l.t)
    × (l.below ≤ 2 * l.k)
    × (l.sum ≤ 131070 * l.k)

abbrev pub decreases-loop-k : goal.decreases-loop-k
decreases-loop-k l = l.n - l.k
