-- `are_in_time` finishes one row a turn: what is to be found is what the rows from the next place on show.
use Rattle.std.proofs.Common.{◌≡◌, ◌≤◌}
use Rattle.plan.specs.inner.Passing.{jobs_of}
use Rattle.plan.proofs.refused.WalkLaws.{in_time_from}
use Rattle.plan.proofs.walking.are_in_time.Given as goal

abbrev pub invariant-loop-row : goal.invariant-loop-row
invariant-loop-row l =
    (l.plan.time ≤ 4294967295)
    × (in_time_from (jobs_of l.board) l.stack l.i 0 l.begin
    ≡ in_time_from (jobs_of l.board) l.stack l.i l.row-index l.plan.time)
