-- `load::check_plain` asks the check of the load, and then whether some row is not plain.
use Rattle.std.proofs.Common.{sym, ◌∙◌}
use Rattle.load.proofs.CheckLaws.{check_load-good}
use Rattle.load.proofs.plain.check_plain.Goals as goal

pub any_not_plain-requires : goal.any_not_plain-requires
any_not_plain-requires c = (check_load-good c.args.load (sym c.check_load.ensures ∙ c.in_ok-check_load.was)).few-rows
