-- `window_late` asks the windows that the row counts.
use Rattle.std.proofs.Common.{rules, tests, sym, ◌∙◌}
use Rattle.std.proofs.lemmas.Iterator.{YieldsList-from_slice, YieldsList-from_take}
use Rattle.std.proofs.lemmas.Iterator.Search.{any_from_yields_List}
use Rattle.counting.proofs.lists.TestedLaws.{any_in-list_any}
use Rattle.load.specs.View.{row_windows}
use Rattle.schedule.specs.inner.Seen.{late_window}
use Rattle.schedule.proofs.found.window_late.Goals as goal

pub returns : goal.returns
returns c =
    let row = c.args.row.now in
    let late = late_window c.args.seen.now c.args.step c.args.end in
    any_from_yields_List late _ _ _ c.any.ensures.ran
    (YieldsList-from_take row.windows (YieldsList-from_slice row.window cc) cc)
    (λ x b q k. search (rules, tests))
    ∙ sym (any_in-list_any late (row_windows row))
