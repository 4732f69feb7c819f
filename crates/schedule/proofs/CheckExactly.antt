-- The schedule check says yes exactly when the load is not refused and the rules of a schedule hold.
use mathlib.Core.List.{List}
use mathlib.Core.Path.{◌≡◌, refl}
use Rattle.std.specs.Prelude.{Ok}
use Rattle.refusals.proofs.FirstMetLaws.{and_then-both, and_then-good-first, and_then-good-second}
use Rattle.refusals.specs.FirstMet.{and_then}
use Rattle.load.specs.declared.Load.{Load}
use Rattle.load.specs.View.{view_of}
use Rattle.load.specs.Check.{check_load}
use Rattle.load.proofs.AcceptableLaws.{check-acceptable}
use Rattle.rules.specs.declared.Slot.{Slot}
use Rattle.rules.specs.Check.{check_slots, check_schedule}
use Rattle.rules.proofs.check.CheckLaws.{check-rules, rules-check}
use Rattle.schedule.specs.CheckExactly.{KeepsRules, CheckExactly}

module _ (load : Load) (slots : List Slot) where
  check-keeps : check_schedule load slots ≡ Ok tt → KeepsRules load slots
  unfolding check_schedule
  check-keeps e =
      let good = and_then-good-first (check_load load) (and_then (check_slots (view_of load) slots) (Ok tt)) e in
      let slots-good = and_then-good-second (check_load load) (and_then (check_slots (view_of load) slots) (Ok tt)) e in
      record {
        accepted = good;
        rules =
            check-rules (view_of load) (check-acceptable load good) slots
            (and_then-good-first (check_slots (view_of load) slots) (Ok tt) slots-good);
      }

  keeps-check : KeepsRules load slots → check_schedule load slots ≡ Ok tt
  unfolding check_schedule
  keeps-check k =
      let slots-good = rules-check (view_of load) (check-acceptable load k.accepted) slots k.rules in
      and_then-both (check_load load) (and_then (check_slots (view_of load) slots) (Ok tt)) k.accepted
      (and_then-both (check_slots (view_of load) slots) (Ok tt) slots-good refl)

pub check_schedule-exactly : CheckExactly
check_schedule-exactly load slots = (check-keeps load slots, keeps-check load slots)
