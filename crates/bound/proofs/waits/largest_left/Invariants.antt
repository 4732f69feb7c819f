-- `largest_left` looks at one row a turn, and keeps the largest of what is left of the free waits.
use Prim.Native.Nat.{ℕ, ◌+◌, ◌-◌, ◌≤◌}
use mathlib.Core.Bool.{Bool}
use mathlib.Core.List.{List}
use mathlib.Core.Path.{◌≡◌}
use Rattle.counting.proofs.sorting.PairLaws.{pairs_smallest}
use Rattle.load.specs.declared.Load.{Load}
use Rattle.bound.specs.inner.Marks.{cost_at, wait_at, is_other, left_in, largest_to}
use Rattle.bound.proofs.waits.largest_left.Given as goal

-- what is left of the wait of row i
abbrev pub left : Load → ℕ → ℕ → List Bool → List Bool → ℕ → ℕ
left load n j pairs frees =
    left_in (λ i. pairs_smallest (cost_at load j) (cost_at load (j + 1)) (is_other pairs i) n) (wait_at load j) frees

abbrev pub invariant-loop-i : goal.invariant-loop-i
invariant-loop-i l = (l.i ≤ l.n) × (l.most ≡ largest_to (left l.load l.n l.j l.pairs l.frees) l.i)

abbrev pub decreases-loop-i : goal.decreases-loop-i
decreases-loop-i l = l.n - l.i
