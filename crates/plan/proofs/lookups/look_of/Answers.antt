-- `look_of` puts together what the calls find of the row.
use Prim.Native.Nat.{min}
use mathlib.Core.Path.{ap, ap₂, ◌∙◌}
use Rattle.load.specs.Load.{most_steps}
use Rattle.plan.specs.Looks.{look_by}
use Rattle.plan.proofs.LookLaws.{found-is}
use Rattle.plan.proofs.lookups.look_of.Goals as goal

pub returns : goal.returns
returns c =
    let row = c.args.row in
    found-is row c.min-done.result c.min-ended.result c.min-since.result
    c.step_at-step.result
    c.window_of-window.result
    c.window_of-later.result
    c.release_of.result
    c.chain_between.result
    c.chain_between-2.result
    c.step_at-step.ensures
    c.window_of-window.ensures
    c.window_of-later.ensures
    c.release_of.ensures
    c.chain_between.ensures
    c.chain_between-2.ensures
    ∙ ap (λ f. look_by row f c.min-ended.result c.min-since.result)
    c.min-done.ensures
    ∙ ap₂ (look_by row (min c.args.finished most_steps)) c.min-ended.ensures
    c.min-since.ensures
