-- `schedule::check_schedule` asks the load, then the number of slots, then one slot a turn.
use Rattle.std.proofs.Common.{◌≤◌, sym, ◌∙◌, rules, arith, length}
use Rattle.std.proofs.lemmas.List.{get_or-take, get_or-drop}
use Rattle.rules.specs.declared.Slot.{Slot}
use borrow.Author.Tests.{eq-eqb, ne_eqb}
use Rattle.rules.specs.Check.{check_slots, check_schedule}
use Rattle.refusals.proofs.PassedOn.{passed_on}
use Rattle.schedule.specs.inner.Seen.{no_row_seen}
use Rattle.schedule.proofs.turns.TurnLaws.{before-zero}
use Rattle.schedule.proofs.walks.CheckFold.{fold-refused, fold-kept, fold-done, fold-checks}
use Rattle.schedule.proofs.check.check_schedule.Goals as goal

pub returns-in_err-check_load : goal.returns-in_err-check_load
unfolding check_schedule
returns-in_err-check_load c = passed_on _ _ c.from_residual.ensures.1 ∙ rw (sym c.in_err-check_load.ensures)

pub returns-then-slots-steps_in : goal.returns-then-slots-steps_in
unfolding check_schedule check_slots
returns-then-slots-steps_in c =
    rw (sym c.in_ok-check_load.ensures, ← c.steps_in.ensures, ne_eqb _ _ c.if-slots-steps_in.true)

pub loop-slot-init : goal.loop-slot-init
loop-slot-init c =
    let none = c.default-seen.ensures in
    fold-checks c.args.load c.args.slots.now (sym c.in_ok-check_load.ensures) (length c.args.slots.now) 0 _
    (omega arith)
    (before-zero c.args.load c.args.slots.now _ none.0 none.1.long
    (λ i l. let row = none.1.at i no_row_seen l in (row.0, row.1.long)))

pub returns-in_err-check_at : goal.returns-in_err-check_at
unfolding check_schedule check_slots
returns-in_err-check_at c =
    let refused =
    sym c.loop-slot.invariant
    ∙ fold-refused c.args.load c.args.slots.now c.loop-slot.slot-index c.loop-slot.seen _ _ _ _
    (sym c.in_err-check_at.ensures.found) (omega arith)
    (search (rules, get_or-take {A = Slot}, get_or-drop {A = Slot})) in
    passed_on _ _ c.from_residual-in_err-check_at.ensures.1
    ∙ rw (sym c.in_ok-check_load.ensures, ← c.steps_in.ensures, eq-eqb _ _ c.if-slots-steps_in.false, refused)

pub loop-slot-preserved : goal.loop-slot-preserved
loop-slot-preserved c =
    fold-kept c.args.load c.args.slots.now c.loop-slot.slot-index c.loop-slot.seen _ _ _ _
    (sym c.in_ok-check_at.ensures.found) c.in_ok-check_at.ensures.kept (omega arith)
    (search (rules, get_or-take {A = Slot}, get_or-drop {A = Slot}))
    ∙ c.loop-slot.invariant

pub returns : goal.returns
unfolding check_schedule check_slots
returns c =
    let done : length c.args.slots.now ≤ c.loop-slot.slot-index = omega arith in
    let clean =
    sym c.loop-slot.invariant ∙ fold-done c.args.load c.args.slots.now c.loop-slot.slot-index c.loop-slot.seen done in
    rw (sym c.in_ok-check_load.ensures, ← c.steps_in.ensures, eq-eqb _ _ c.if-slots-steps_in.false, clean)
