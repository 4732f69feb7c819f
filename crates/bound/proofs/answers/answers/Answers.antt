-- `answers` checks the load; one that is not refused is acceptable, and what one look at it tells is given.
use Rattle.std.proofs.Common.{sym, ◌∙◌}
use Rattle.load.proofs.AcceptableLaws.{check-acceptable}
use Rattle.bound.proofs.answers.answers.Goals as goal

pub place_waits-places-requires : goal.place_waits-places-requires
place_waits-places-requires c = check-acceptable c.args.load.now (sym c.check.ensures ∙ c.in_ok-check.was)

pub load_answers-requires : goal.load_answers-requires
load_answers-requires c =
    (check-acceptable c.args.load.now (sym c.check.ensures ∙ c.in_ok-check.was), c.place_waits-places.ensures)
