-- `first_turn` keeps the highest class of the rows that it has asked.
use Rattle.std.proofs.Common.{ℕ, ◌<◌, ◌≤◌}
use Rattle.counting.specs.Lists.{member_at}
use Rattle.plan.proofs.turns.first_turn.Given as goal

abbrev pub invariant-loop-class : goal.invariant-loop-class
invariant-loop-class l = (k : ℕ) → k < l.class-index → member_at l.classes k ≤ l.highest
