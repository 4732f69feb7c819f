-- `cut_bounds` stores one bound a turn: the terms of the bound of the cut load, which is at most 806,400, so each sum
-- on the way fits.
use Prim.Native.Nat.{◌-◌, ◌≤◌}
use mathlib.Core.Path.{◌≡◌}
use Rattle.counting.specs.Lists.{filled}
use Rattle.load.specs.View.{view_of}
use Rattle.rules.specs.Bound.{largest_phase}
use Rattle.bound.specs.inner.CutTerms.{bound_at}
use Rattle.bound.proofs.bounds.cut_bounds.Given as goal

abbrev pub invariant-loop-k : goal.invariant-loop-k
invariant-loop-k l =
    (l.k ≤ 8) × (l.phase ≡ largest_phase (view_of l.load)) × (l.bounds ≡ filled (bound_at (view_of l.load)) l.k 8 0)

abbrev pub decreases-loop-k : goal.decreases-loop-k
decreases-loop-k l = 8 - l.k
