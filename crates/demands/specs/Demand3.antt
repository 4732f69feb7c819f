-- Demand 3: "Any load that is not refused, started fresh, each step at full cost: the run ends by
-- the bound, each step is run once, phases, step order, waits and windows are kept with no overlap;
-- and if no margin is negative each row ends by its deadline and the check says yes." Over any
-- results that meet the calls' relations. To be read after Demand1 and Demand2. Rests on D50.
use Rattle.std.specs.Prelude.{ℕ, suc, ◌≤◌, ◌<◌, true, List, ◌≡◌, length, take, Ok}
use Rattle.counting.specs.Lists.{join_to}
use Rattle.words.specs.LittleEndian.{Bytes}
use Rattle.refusals.specs.Checked.{Checked}
use Rattle.refusals.specs.Given.{written}
use Rattle.refusals.specs.Refusals.{number_given}
use Rattle.load.specs.declared.Load.{Load}
use Rattle.load.specs.View.{view_of, is_free}
use Rattle.load.specs.Calls.{CheckLoad}
use Rattle.load_file.specs.Calls.{ReadLoad}
use Rattle.sheet.specs.Calls.{ReadSheet}
use Rattle.rules.specs.declared.Slot.{Slot}
use Rattle.rules.specs.declared.Outcome.TheVariants.{Done}
use Rattle.rules.specs.Outcomes.{told_by}
use Rattle.rules.specs.Margins.{row_bound}
use Rattle.rules.specs.State.{fresh}
use Rattle.rules.specs.Move.{move}
use Rattle.rules.specs.Run.{state_after, schedule}
use Rattle.rules.specs.Slots.{slot_at, row_of, step_of, slot_end, last_end}
use Rattle.rules.specs.ScheduleRules.{SlotRules, ScheduleRules}
use Rattle.bound.specs.Calls.{BoundOf, VerdictOf}
use Rattle.schedule.specs.Calls.{CheckSchedule}
use Rattle.schedule_file.specs.ScheduleFile.{schedule_bytes}
use Rattle.bench.specs.declared.Bench.{Bench}
use Rattle.bench.specs.declared.Moved.{Moved}
use Rattle.bench.specs.declared.Ran.{Ran}
use Rattle.bench.specs.Calls.{Fresh, NextMove, Runs, WriteRun}
use Rattle.demands.specs.NumberLists.{OneOf, of_late_row}
use Rattle.demands.specs.Demand2.{SameMove}

-- a run by the calls: a fresh bench, and one move after the other
pub record Run (load : Load) : Type 0 where
  pub bench : ℕ → Bench
  pub moved : ℕ → Moved
  pub begins : Fresh (bench 0)
  pub moves : (n : ℕ) → NextMove load (bench n) (moved n)
  pub goes_on : (n : ℕ) → bench (suc n) ≡ (moved n).bench

-- the starts of a run's first n moves, in order
abbrev pub starts_of : {load : Load} → Run load → ℕ → List Slot
starts_of run n = join_to (λ k. (told_by (run.moved k).outcome).starts) n

-- the slots of a load's schedule
abbrev pub slot_of : Load → ℕ → Slot
slot_of load k = slot_at (schedule (view_of load)) k

-- what is promised of a run
pub record RunKept (load : Load) (run : Run load) : Type 0 where
  -- its moves are document 01's, one after the other from fresh
  pub same-moves : (n : ℕ)
      → SameMove (run.moved n) (move (view_of load) (state_after (view_of load) n fresh))
  -- it ends: after so many moves the answer is Done, and no move on the way is refused
  pub ends : ℕ
  pub done : (run.moved ends).outcome ≡ Done
  pub numbers : (n : ℕ) → (told_by (run.moved n).outcome).number ≡ 0
  -- by the bound: the clock is never past it, and the last step ends with the run
  pub in-bound : (b : ℕ) → BoundOf load (Ok b) → (n : ℕ) → (run.bench n).clock ≤ b
  pub last-end : (n : ℕ) → ends ≤ n
      → last_end (view_of load) (schedule (view_of load)) ≡ (run.bench n).clock
  -- the schedule is its starts, all of them
  pub all-starts : (n : ℕ) → ends ≤ n → schedule (view_of load) ≡ starts_of run n
  -- and what the call of the whole run hands back
  pub runs : (r : Ran) → Runs load (Ok r) → take r.count r.slots ≡ schedule (view_of load)
  -- each step is run once, and nothing else; phases, step order, waits and windows are kept with no
  -- overlap
  pub keeps : SlotRules (view_of load) (schedule (view_of load))
  -- a free step starts only when every row has finished its lower-numbered steps
  pub free-steps : (k h : ℕ) → k < length (schedule (view_of load))
      → h < length (schedule (view_of load))
      → is_free (view_of load) (row_of (slot_of load k)) (step_of (slot_of load k)) ≡ true
      → (slot_of load h).step < (slot_of load k).step
      → slot_end (view_of load) (slot_of load h) ≤ (slot_of load k).start
  -- the check, its 17 apart, meets nothing
  pub checked : (c : Checked) → CheckSchedule load (schedule (view_of load)) c
      → OneOf of_late_row (number_given c)
  -- each row's last step ends by its row bound
  pub rows_end : (k : ℕ) → k < length (schedule (view_of load))
      → (slot_of load k).step ≡ (view_of load).steps (row_of (slot_of load k))
      → slot_end (view_of load) (slot_of load k)
      ≤ row_bound (view_of load) (row_of (slot_of load k))
  -- if no margin is negative each row ends by its deadline, and so the schedule rules hold
  pub deadlines : VerdictOf load (Ok true)
      → ScheduleRules (view_of load) (schedule (view_of load))
  -- and the check says yes
  pub passes : VerdictOf load (Ok true)
      → (c : Checked) → CheckSchedule load (schedule (view_of load)) c → c ≡ Ok tt

-- demand 3
pub record Demand3 : Type 0 where
  -- any load that is not refused
  pub of-loads : (load : Load) → CheckLoad load (Ok tt) → (run : Run load) → RunKept load run
  -- any file that is not refused
  pub of-files : (bs : List ℕ) → Bytes bs → (load : Load) → ReadLoad bs (Ok load)
      → (run : Run load) → RunKept load run
  -- any sheet that is not refused
  pub of-sheets : (bs : List ℕ) → Bytes bs → (load : Load) → ReadSheet bs (Ok load)
      → (run : Run load) → RunKept load run
  -- a file's call writes the schedule file as well
  pub runs-of-files : (bs : List ℕ) → Bytes bs → (load : Load) → ReadLoad bs (Ok load)
      → (out after : List ℕ) → WriteRun bs out (Ok tt) after
      → after ≡ written (schedule_bytes (schedule (view_of load))) out
  -- and every load has a run
  pub runs : (load : Load) → Run load
