-- `bound::place_waits_of` checks the load; one that is not refused is acceptable, and its largest W's are given.
use Rattle.std.proofs.Common.{sym, ◌∙◌}
use Rattle.load.proofs.AcceptableLaws.{check-acceptable}
use Rattle.bound.proofs.place_waits_of.Goals as goal

pub place_waits-requires : goal.place_waits-requires
place_waits-requires c = check-acceptable c.args.load (sym c.check_load.ensures ∙ c.in_ok-check_load.was)
