-- Demand 3 holds: what the rules prove of every accepted load, told of any run by the calls, of the bound and the
-- verdict that the calls give, and of the check's answer.
use Prim.Native.Nat.{ℕ}
use mathlib.Core.Bool.{true}
use mathlib.Core.List.{List}
use mathlib.Core.Path.{◌≡◌, ap, sym, ◌∙◌}
use Rattle.counting.specs.Lists.{any_in}
use Rattle.counting.proofs.lists.ListLaws.{join_to-ext}
use Rattle.std.specs.Prelude.{Ok}
use Rattle.refusals.specs.Given.{written}
use Rattle.refusals.specs.Refusals.{number_given}
use Rattle.load.specs.declared.Load.{Load}
use Rattle.load.specs.View.{view_of}
use Rattle.load.specs.Check.{check_load}
use Rattle.load.proofs.AcceptableLaws.{check-acceptable}
use Rattle.load_file.proofs.CallLaws.{ReadLoad-load}
use Rattle.rules.specs.declared.Slot.{Slot}
use Rattle.rules.specs.Outcomes.{told_by}
use Rattle.rules.specs.Margins.{verdict}
use Rattle.rules.specs.State.{State, fresh}
use Rattle.rules.specs.Run.{state_after, starts, schedule}
use Rattle.rules.specs.Check.{check_slots, check_schedule}
use Rattle.rules.specs.Demand3.{GoodOrLate, good, late, Demand3 as RulesKept}
use Rattle.rules.proofs.invariant.RunnableLaws.{acceptable-runnable}
use Rattle.rules.proofs.invariant.FullSetting.{full_setting}
use Rattle.rules.proofs.run.RunLaws.{starts-joined}
use Rattle.rules.proofs.Demand3.{accepted-demand3, accepted-passes}
use Rattle.bound.specs.Calls.{VerdictOf}
use Rattle.schedule_file.specs.ScheduleFile.{schedule_bytes}
use Rattle.bench.proofs.running.RunsLaws.{Runs-schedule}
use Rattle.demands.specs.NumberLists.{OneOf, of_late_row}
use Rattle.demands.specs.Demand3.{Run, starts_of, RunKept, Demand3}
use Rattle.demands.proofs.Demand2Holds.{demand2}
use Rattle.demands.proofs.demand2.FilesHold.{file-good}
use Rattle.demands.proofs.demand2.SheetHolds.{sheet-good}
use Rattle.demands.proofs.moves.RunByCalls.{run_of, run-states, run-moves}

-- a check that is Good or 17, behind a load's check that is Good
late-number : (load : Load) (slots : List Slot) → check_load load ≡ Ok tt
    → GoodOrLate (check_slots (view_of load) slots)
    → OneOf of_late_row (number_given (check_schedule load slots))
unfolding check_schedule any_in
late-number load slots accepted (good e) = rw (accepted, e)
late-number load slots accepted (late e) = rw (accepted, e)

module _ (load : Load) (accepted : check_load load ≡ Ok tt) (run : Run load) where
  -- what the rules prove
  d : RulesKept (view_of load)
  d = accepted-demand3 load accepted

  -- the starts of the moves are the starts of the run
  starts-are : (n : ℕ) → starts (view_of load) n fresh ≡ starts_of run n
  starts-are n =
      starts-joined (view_of load)
      (full_setting (view_of load) (acceptable-runnable (view_of load) (check-acceptable load accepted))) n
      ∙ join_to-ext _ (λ k. (told_by (run.moved k).outcome).starts) n
      (λ k l. ap (λ o. (told_by o).starts) (sym (run-moves load accepted run k).outcome-is))

  clock-is : (n : ℕ) → (run.bench n).clock ≡ (state_after (view_of load) n fresh).clock
  clock-is n = ap (λ (s : State). s.clock) (run-states load accepted run n)

  verdict-yes : VerdictOf load (Ok true) → verdict (view_of load) ≡ true
  verdict-yes e = sym (demand2.verdicts load true e)

  pub run-kept : RunKept load run
  run-kept =
      record {
        same-moves = run-moves load accepted run;
        ends = d.moves;
        done = (run-moves load accepted run d.moves).outcome-is ∙ d.done;
        numbers = λ n. ap (λ o. (told_by o).number) (run-moves load accepted run n).outcome-is ∙ d.numbers n;
        in-bound = λ b e n. rw (clock-is n, demand2.bounds load b e) (d.in-bound n);
        last-end = λ n h. d.last-end n h ∙ sym (clock-is n);
        all-starts = λ n h. d.all-starts n h ∙ starts-are n;
        runs = Runs-schedule load;
        keeps = d.rules;
        free-steps = d.free-steps;
        checked = λ c e. rw e (late-number load (schedule (view_of load)) accepted d.checked);
        rows_end = d.rows;
        deadlines = λ e. d.deadlines (verdict-yes e);
        passes = λ e c h. h ∙ accepted-passes load accepted (verdict-yes e);
      }

pub demand3 : Demand3
demand3 =
    record {
      of-loads = λ load good run. run-kept load (sym good) run;
      of-files = λ bs b load e run. run-kept load (file-good bs load e b) run;
      of-sheets = λ bs b load e run. run-kept load (sheet-good bs load b e) run;
      runs-of-files = λ bs b load e out after w.
          w.output-is
          ∙ ap (λ l. written (schedule_bytes (schedule (view_of l))) out) (sym (ReadLoad-load bs load e));
      runs = run_of;
    }
