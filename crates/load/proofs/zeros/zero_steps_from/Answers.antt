-- `zero_steps_from` asks the steps from place a on.
use Rattle.std.proofs.Common.{rules, tests, ◌∙◌}
use Rattle.std.proofs.lemmas.Iterator.{YieldsList-from_slice}
use Rattle.std.proofs.lemmas.Iterator.Adapters.{YieldsList-from_skip}
use Rattle.std.proofs.lemmas.Iterator.Search.{all_from_yields_List}
use Rattle.counting.proofs.lists.TestedLaws.{list_all-drop}
use Rattle.load.specs.Load.{no_step}
use Rattle.load.specs.Check.{is_zero_step}
use Rattle.load.proofs.zeros.zero_steps_from.Goals as goal

pub returns : goal.returns
returns c =
    all_from_yields_List is_zero_step _ _ _ c.all.ensures.ran
    (YieldsList-from_skip c.args.a (YieldsList-from_slice c.args.row.step cc) cc)
    (λ x b q k. search (rules, tests))
    ∙ list_all-drop is_zero_step no_step c.args.a 8 c.args.row.step (search rules)
