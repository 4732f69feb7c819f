-- `rows_before` looks at one row a turn: what the walk comes to is what it comes to from the next place on.
use Rattle.std.proofs.Common.{◌≡◌, ◌*◌, ◌≤◌}
use Rattle.plan.specs.inner.Passing.{jobs_of}
use Rattle.plan.proofs.refused.WalkLaws.{walk_from}
use Rattle.plan.proofs.walking.rows_before.Given as goal

abbrev pub invariant-loop-place : goal.invariant-loop-place
invariant-loop-place l =
    (l.plan.time ≤ 4294967295)
    × (l.work ≤ l.place * 4294967295)
    × (walk_from (jobs_of l.board) l.stack l.i l.own 0 l.begin 0
    ≡ walk_from (jobs_of l.board) l.stack l.i l.own l.place l.plan.time l.work)
