-- `place_waits` stores the largest W of one place a turn: it marks the rows of the place and asks for the largest of
-- what is left there, where some wait there is free.
use Prim.Native.Nat.{◌-◌, ◌≤◌}
use mathlib.Core.Path.{◌≡◌}
use Rattle.counting.specs.Lists.{filled}
use Rattle.load.specs.View.{view_of}
use Rattle.rules.specs.Bound.{smallest_costs}
use Rattle.rules.specs.Blame.{none_left, largest_at}
use Rattle.bound.proofs.waits.place_waits.Given as goal

abbrev pub invariant-loop-j : goal.invariant-loop-j
invariant-loop-j l =
    (l.j ≤ 7) × (l.places ≡ filled (largest_at smallest_costs (view_of l.load)) l.j 7 none_left)

abbrev pub decreases-loop-j : goal.decreases-loop-j
decreases-loop-j l = 7 - l.j
