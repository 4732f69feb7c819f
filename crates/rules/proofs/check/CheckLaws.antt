-- The check says yes exactly when the rules of a schedule hold.
use mathlib.Core.List.{List}
use mathlib.Core.Path.{◌≡◌}
use Rattle.std.specs.Prelude.{Ok}
use Rattle.load.specs.View.{View}
use Rattle.load.specs.Acceptable.{Acceptable}
use Rattle.rules.specs.declared.Slot.{Slot}
use Rattle.rules.specs.Check.{check_slots}
use Rattle.rules.specs.ScheduleRules.{ScheduleRules}
use Rattle.rules.proofs.slots.WholeLaws.{rules-hold}
use Rattle.rules.proofs.slots.RulesWhole.{rules-whole}
use Rattle.rules.proofs.check.SlotsPass.{check-good}
use Rattle.rules.proofs.check.CheckWhole.{check-whole, check-deadlines}

module _ (L : View) (ok : Acceptable L) (slots : List Slot) where
  pub check-rules : check_slots L slots ≡ Ok tt → ScheduleRules L slots
  check-rules e =
      record {
        slots-keep = rules-hold L slots (check-whole L slots e) ok.first-last;
        deadlines = check-deadlines L slots e;
      }

  pub rules-check : ScheduleRules L slots → check_slots L slots ≡ Ok tt
  rules-check r =
      check-good L slots (rules-whole L slots r.slots-keep) ok.first-last ok.first-least r.deadlines
