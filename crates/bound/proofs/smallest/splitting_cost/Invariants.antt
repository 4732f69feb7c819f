-- `splitting_cost` halves the costs from low to high: at most r are below low, and at least r are at most high. Where
-- the two meet is the cost. Between, one row a turn is counted.
use Prim.Native.Nat.{◌+◌, ◌*◌, ◌-◌, ◌≤◌}
use mathlib.Core.Path.{◌≡◌}
use Rattle.bound.proofs.MarkLaws.{costs_below}
use Rattle.bound.proofs.smallest.splitting_cost.Given as goal

abbrev pub invariant-loop-k : goal.invariant-loop-k
invariant-loop-k l =
    (l.k ≤ l.n) × (l.up_to ≡ costs_below l.load l.j l.marks l.k (l.half + 1)) × (l.up_to ≤ 2 * l.k)

abbrev pub decreases-loop-k : goal.decreases-loop-k
decreases-loop-k l = l.n - l.k

abbrev pub invariant-loop-low : goal.invariant-loop-low
invariant-loop-low l =
    (l.low ≤ l.high)
    × (l.high ≤ 600)
    × (costs_below l.load l.j l.marks l.n l.low ≤ l.r)
    × (l.r ≤ costs_below l.load l.j l.marks l.n (l.high + 1))

abbrev pub decreases-loop-low : goal.decreases-loop-low
decreases-loop-low l = l.high - l.low
