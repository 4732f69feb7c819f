-- "Each is given exactly then": a load is refused exactly when a fact of it fails, and 10 to 17 are
-- given exactly when, in plain words, they are due. To be read after PublicCalls. Rests on D22.
use Rattle.std.specs.Prelude.{List, ◌↔◌, ◌≢◌, ◌≡◌, length, Ok, Err}
use Rattle.refusals.specs.declared.Refusal.TheVariants.{StateShape, ClockFull, SlotCount}
use Rattle.refusals.specs.Checked.{Checked}
use Rattle.load.specs.declared.Load.{Load}
use Rattle.load.specs.View.{view_of, steps_in_all}
use Rattle.load.specs.Acceptable.{Acceptable, Registered, Placed}
use Rattle.load.specs.Calls.{CheckLoad}
use Rattle.rules.specs.declared.Slot.{Slot}
use Rattle.rules.specs.declared.Outcome.TheVariants as outcome
use Rattle.rules.specs.Shape.{Shape, ClockSpent}
use Rattle.rules.specs.FirstBroken.{Rule, refusal_for, CountedFirst}
use Rattle.schedule.specs.Calls.{CheckSchedule}
use Rattle.bench.specs.declared.Bench.{Bench}
use Rattle.bench.specs.declared.Moved.{Moved}
use Rattle.bench.specs.Held.{state_of}
use Rattle.bench.specs.Calls.{NextMove}

-- a load has the facts of a load
pub record InOrder (load : Load) : Type 0 where
  -- its numbers, steps and windows, as the rules use them
  pub acceptable : Acceptable (view_of load)
  -- its identifiers and box numbers
  pub registered : Registered load
  -- its places
  pub placed : Placed load

-- the load is in order, and then something else holds
pub record Then (load : Load) (P : Type 0) : Type 0 where
  pub in_order : InOrder load
  pub holds : P

-- exactly then
pub record ExactlyThen : Type 0 where
  -- a load is accepted exactly when it has the facts of a load
  pub accepted : (load : Load) (r : Checked) → CheckLoad load r → (r ≡ Ok tt) ↔ InOrder load
  -- 10: the state does not have the load's shape
  pub ten : (load : Load) (bench : Bench) (r : Moved) → NextMove load bench r
      → (r.outcome ≡ outcome.Refused StateShape)
      ↔ Then load (¬ Shape (view_of load) (state_of bench))
  -- 11: it has, the clock is at 1,000,000, and a step is not finished
  pub eleven : (load : Load) (bench : Bench) (r : Moved) → NextMove load bench r
      → (r.outcome ≡ outcome.Refused ClockFull)
      ↔ Then load (ClockSpent (view_of load) (state_of bench))
  -- 12: slot count differs from step count
  pub twelve : (load : Load) (slots : List Slot) (r : Checked) → CheckSchedule load slots r
      → (r ≡ Err SlotCount) ↔ Then load (length slots ≢ steps_in_all (view_of load))
  -- 13 to 17: the counts agree, and the number's rule is the first that is met
  pub from-thirteen : (load : Load) (slots : List Slot) (r : Checked) → CheckSchedule load slots r
      → (rule : Rule) → (r ≡ Err (refusal_for rule))
      ↔ Then load (CountedFirst (view_of load) slots rule)
