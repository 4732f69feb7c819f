-- `margins_by` stores one row's margin a turn: its deadline less the bound of the load cut at its number of steps.
use Prim.Native.Nat.{◌-◌, ◌≤◌}
use mathlib.Core.Path.{◌≡◌}
use lib.IntN.{pos}
use Rattle.counting.specs.Lists.{filled}
use Rattle.load.specs.View.{view_of}
use Rattle.rules.specs.Margins.{margin}
use Rattle.bound.proofs.margins.margins_by.Given as goal

abbrev pub invariant-loop-i : goal.invariant-loop-i
invariant-loop-i l =
    (l.i ≤ l.rows)
    × (l.rows ≤ 24)
    × (l.margins ≡ filled (margin (view_of l.load)) l.i 24 (pos 0))

abbrev pub decreases-loop-i : goal.decreases-loop-i
decreases-loop-i l = l.rows - l.i
