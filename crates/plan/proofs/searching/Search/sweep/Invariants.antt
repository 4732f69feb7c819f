-- `sweep` goes one class further a turn, and one step number further a round: the rows gone over do not start before
-- the soonest moment.
use Prim.Native.Nat.{◌-◌, ◌≤◌}
use Rattle.plan.specs.inner.Turns.{PassedTo, SweptTo}
use Rattle.plan.proofs.searching.Search.sweep.Given as goal

abbrev pub invariant-loop-turn : goal.invariant-loop-turn
invariant-loop-turn l =
    SweptTo l.self.board.now l.self.classes.now l.clock l.before l.self.rows
    (PassedTo l.self.board.now l.self.classes.now l.self.rows l.number l.turn) l.row l.soonest

abbrev pub decreases-loop-turn : goal.decreases-loop-turn
decreases-loop-turn l =
    4 - l.turn

abbrev pub invariant-loop-number : goal.invariant-loop-number
invariant-loop-number l =
    (l.self.lowest ≤ l.number)
    × (l.number ≤ 8)
    × SweptTo l.self.board.now l.self.classes.now l.clock l.before l.self.rows
    (PassedTo l.self.board.now l.self.classes.now l.self.rows l.number 0) l.row l.soonest

abbrev pub decreases-loop-number : goal.decreases-loop-number
decreases-loop-number l =
    8 - l.number
