-- `sweep_turn` asks one row after the other for its first moment before the soonest so far: a row of another turn is
-- left for that, and any other is passed over up to the moment at which it starts.
use Prim.Native.Nat.{ℕ, ◌-◌, ◌≤◌, ◌<◌}
use Rattle.plan.specs.inner.Turns.{PassedTo, PassedRows, SweptTo}
use Rattle.plan.proofs.searching.Search.sweep_turn.Given as goal

abbrev pub invariant-loop-i : goal.invariant-loop-i
invariant-loop-i l =
    (l.turn < l.next)
    × (l.soonest ≤ l.before)
    × ((last : ℕ)
    → SweptTo l.self.board.now l.self.classes.now l.clock last l.self.rows
    (PassedTo l.self.board.now l.self.classes.now l.self.rows l.number l.turn) l.found l.before
    → SweptTo l.self.board.now l.self.classes.now l.clock last l.self.rows
    (PassedRows l.self.board.now l.self.classes.now l.self.rows l.number l.turn l.next l.i) l.row l.soonest)

abbrev pub decreases-loop-i : goal.decreases-loop-i
decreases-loop-i l =
    l.self.rows - l.i
