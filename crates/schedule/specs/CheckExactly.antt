-- Demand 2 for schedules: "the schedule check says yes exactly when document 01's rules hold". Over
-- the definition that the check's contract cites. To be read after Calls.
use Rattle.std.specs.Prelude.{List, ◌↔◌, ◌≡◌, Ok}
use Rattle.load.specs.declared.Load.{Load}
use Rattle.load.specs.View.{view_of}
use Rattle.load.specs.Check.{check_load}
use Rattle.rules.specs.declared.Slot.{Slot}
use Rattle.rules.specs.Check.{check_schedule}
use Rattle.rules.specs.ScheduleRules.{ScheduleRules}

-- a load that is not refused, and slots that keep the rules
pub record KeepsRules (load : Load) (slots : List Slot) : Type 0 where
  pub accepted : check_load load ≡ Ok tt
  pub rules : ScheduleRules (view_of load) slots

-- the check says yes exactly of these
abbrev pub CheckExactly : Type 0
CheckExactly =
    (load : Load) (slots : List Slot) → (check_schedule load slots ≡ Ok tt) ↔ KeepsRules load slots
