-- `blames_by` stores one row's blame a turn: that of the load cut at its number of steps.
use Prim.Native.Nat.{◌-◌, ◌≤◌}
use mathlib.Core.Path.{◌≡◌}
use Rattle.counting.specs.Lists.{filled}
use Rattle.load.specs.View.{view_of}
use Rattle.rules.specs.Blame.{nobody, row_blame}
use Rattle.bound.proofs.blames.blames_by.Given as goal

abbrev pub invariant-loop-i : goal.invariant-loop-i
invariant-loop-i l =
    (l.i ≤ l.rows)
    × (l.rows ≤ 24)
    × (l.blames ≡ filled (row_blame (view_of l.load)) l.i 24 nobody)

abbrev pub decreases-loop-i : goal.decreases-loop-i
decreases-loop-i l = l.rows - l.i
