-- `zero_windows_from` asks the windows from place a on.
use Rattle.std.proofs.Common.{rules, tests, ◌∙◌}
use Rattle.std.proofs.lemmas.Iterator.{YieldsList-from_slice}
use Rattle.std.proofs.lemmas.Iterator.Adapters.{YieldsList-from_skip}
use Rattle.std.proofs.lemmas.Iterator.Search.{all_from_yields_List}
use Rattle.counting.proofs.lists.TestedLaws.{list_all-drop}
use Rattle.load.specs.Load.{no_window}
use Rattle.load.specs.Check.{is_zero_window}
use Rattle.load.proofs.zeros.zero_windows_from.Goals as goal

pub returns : goal.returns
returns c =
    all_from_yields_List is_zero_window _ _ _ c.all.ensures.ran
    (YieldsList-from_skip c.args.a (YieldsList-from_slice c.args.row.window cc) cc)
    (λ x b q k. search (rules, tests))
    ∙ list_all-drop is_zero_window no_window c.args.a 4 c.args.row.window (search rules)
