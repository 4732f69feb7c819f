-- `embedded_at` asks the windows that the row counts.
use Rattle.std.proofs.Common.{rules, tests, sym, ◌∙◌}
use Rattle.std.proofs.lemmas.Iterator.{YieldsList-from_slice, YieldsList-from_take}
use Rattle.std.proofs.lemmas.Iterator.Search.{any_from_yields_List}
use Rattle.counting.proofs.lists.TestedLaws.{any_in-list_any}
use Rattle.load.specs.Load.{shown}
use Rattle.load.specs.View.{embedded_in, row_windows}
use Rattle.load.proofs.windows.embedded_at.Goals as goal

pub returns : goal.returns
returns c =
    any_from_yields_List (embedded_in (shown c.args.j)) _ _ _ c.any.ensures.ran
    (YieldsList-from_take c.args.row.windows (YieldsList-from_slice c.args.row.window cc) cc)
    (λ x b q k. search (rules, tests))
    ∙ sym (any_in-list_any (embedded_in (shown c.args.j)) (row_windows c.args.row))
