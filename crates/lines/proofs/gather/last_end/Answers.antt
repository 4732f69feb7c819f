-- `lines::gather::last_end` gives the end of the last slot, where there is one.
use mathlib.Core.Path.{sym, ◌∙◌}
use Rattle.load.specs.View.{view_of}
use Rattle.lines.proofs.ScheduledLaws.{acceptable, last_end-none, last_end-at, scheduled-names}
use Rattle.lines.proofs.gather.last_end.Goals as goal

pub end_of-requires : goal.end_of-requires
end_of-requires c =
    let args = c.args in (
      acceptable args.load.now args.slots.now c.requires,
      scheduled-names args.load.now args.slots.now c.requires _ _ (sym c.in-Some.ensures.value),
    )

pub returns-in-Some : goal.returns-in-Some
returns-in-Some c =
    c.end_of.ensures ∙ sym (last_end-at (view_of c.args.load.now) c.args.slots.now _ (sym c.in-Some.ensures.value))

pub returns-in-None : goal.returns-in-None
returns-in-None c = sym (last_end-none (view_of c.args.load.now) c.args.slots.now (sym c.in-None.ensures.value))
