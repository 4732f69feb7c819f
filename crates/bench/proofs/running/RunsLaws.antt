-- A run gives the schedule: the first slots of its array, as many as it counts, are the schedule of the load, at most
-- 192.
use Prim.Native.Nat.{◌≤◌}
use mathlib.Core.List.{List}
use mathlib.Core.Path.{◌≡◌, refl, ap, ◌∙◌}
use native.Mathlib.Omega.{arith}
use lib.ListN.{length, take}
use lib.Seq.{take_at}
use Rattle.counting.specs.Lists.{list_to}
use Rattle.counting.proofs.lists.ListLaws.{list_to-length}
use Rattle.counting.proofs.sums.SumLaws.{sum_to-le}
use Rattle.std.specs.Prelude.{Ok}
use Rattle.refusals.proofs.GivenLaws.{given-is}
use Rattle.load.specs.declared.Load.{Load}
use Rattle.load.specs.Load.{most_steps}
use Rattle.load.specs.View.{view_of, steps_in_all}
use Rattle.load.specs.Check.{check_load, for_bench}
use Rattle.load.proofs.AcceptableLaws.{check-acceptable}
use Rattle.rules.specs.declared.Slot.{Slot}
use Rattle.rules.specs.Slots.{no_slot, slot_at}
use Rattle.rules.specs.Run.{schedule}
use Rattle.rules.proofs.invariant.RunnableLaws.{acceptable-runnable}
use Rattle.rules.proofs.run.RunMade.{schedule-is-whole}
use Rattle.bench.specs.declared.Ran.{Ran}
use Rattle.bench.specs.Runs.{ran_with}
use Rattle.bench.specs.Calls.{Runs}
use Rattle.plan.proofs.StoreLaws.{list_to-read}

module _ (load : Load) (r : Ran) (e : Runs load (Ok r)) where
  abbrev slots : List Slot
  slots = schedule (view_of load)

  ran-is : r ≡ ran_with slots
  ran-is = given-is (for_bench load) (ran_with slots) r e

  -- the slots that a run counts are the schedule
  pub Runs-schedule : take r.count r.slots ≡ schedule (view_of load)
  Runs-schedule =
      ap (λ (a : Ran). take a.count a.slots) ran-is
      ∙ take_at (list_to (slot_at slots) (length slots)) _ (length slots)
      (list_to-length (slot_at slots) (length slots))
      ∙ list_to-read no_slot slots (length slots) refl

  pub Runs-count : r.count ≡ length (schedule (view_of load))
  Runs-count = ap (λ (a : Ran). a.count) ran-is

module _ (load : Load) (accepted : check_load load ≡ Ok tt) where
  -- each step is scheduled once, so there are as many slots as steps
  pub schedule-counted : length (schedule (view_of load)) ≡ steps_in_all (view_of load)
  schedule-counted =
      let good = acceptable-runnable (view_of load) (check-acceptable load accepted) in
      (schedule-is-whole (view_of load) good).in_all

  pub schedule-most : length (schedule (view_of load)) ≤ 192
  schedule-most =
      let L = view_of load in
      let good = check-acceptable load accepted in
      omega (
        arith,
        schedule-counted,
        sum_to-le L.steps L.rows most_steps good.steps-most,
        good.rows-most,
      )
