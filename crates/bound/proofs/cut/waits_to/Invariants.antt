-- `waits_to` adds one embedded wait a turn, each below 65,536.
use Prim.Native.Nat.{◌*◌, ◌-◌, ◌≤◌}
use mathlib.Core.Path.{◌≡◌}
use Rattle.counting.specs.Sums.{sum_to}
use Rattle.bound.specs.inner.CutTerms.{wait_in}
use Rattle.bound.proofs.cut.waits_to.Given as goal

abbrev pub invariant-loop-j : goal.invariant-loop-j
invariant-loop-j l = (l.j ≤ l.n) × (l.sum ≡ sum_to (wait_in l.row) l.j) × (l.sum ≤ 65535 * l.j)

abbrev pub decreases-loop-j : goal.decreases-loop-j
decreases-loop-j l = l.n - l.j
