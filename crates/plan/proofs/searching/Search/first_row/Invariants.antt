-- `first_row` passes over one row after the other, and goes one class further a turn and one step number further a
-- round, until a candidate passes.
use mathlib.Core.Path.{◌≡◌}
use Rattle.std.proofs.Common.{None}
use Prim.Native.Nat.{◌-◌, ◌≤◌, ◌<◌}
use mathlib.Core.Path.{◌≡◌}
use Rattle.plan.specs.inner.Searching.{RefusedTo}
use Rattle.plan.specs.inner.Turns.{PassedTo, PassedRows}
use Rattle.plan.proofs.searching.Search.first_row.Given as goal

abbrev pub invariant-loop-i : goal.invariant-loop-i
invariant-loop-i l =
    (l.row ≡ None)
    × (l.turn < l.next)
    × RefusedTo l.self.board.now l.clock l.self.rows l.until
    × PassedRows l.self.board.now l.self.classes.now l.self.rows l.number l.turn l.next l.i l.clock

abbrev pub decreases-loop-i : goal.decreases-loop-i
decreases-loop-i l =
    l.rows - l.i

abbrev pub invariant-loop-turn : goal.invariant-loop-turn
invariant-loop-turn l =
    (l.row ≡ None)
    × RefusedTo l.self.board.now l.clock l.self.rows l.until
    × PassedTo l.self.board.now l.self.classes.now l.self.rows l.number l.turn l.clock

abbrev pub decreases-loop-turn : goal.decreases-loop-turn
decreases-loop-turn l =
    4 - l.turn

abbrev pub invariant-search : goal.invariant-search
invariant-search l =
    (l.row ≡ None)
    × (l.self.lowest ≤ l.number)
    × RefusedTo l.self.board.now l.clock l.self.rows l.until
    × PassedTo l.self.board.now l.self.classes.now l.self.rows l.number 0 l.clock

abbrev pub decreases-search : goal.decreases-search
decreases-search l =
    8 - l.number
