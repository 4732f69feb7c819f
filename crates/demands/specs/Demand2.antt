-- Demand 2: "An accepted file reads to exactly one load, that load is written back to the same
-- bytes, and a written load reads back as itself. The bound, the margins and every move equal
-- document 01's definitions. The schedule check says yes exactly when document 01's rules hold."
-- Over any results that meet the calls' relations. Rests on D49, D84 and D93.
use Rattle.std.specs.Prelude.{ℕ, List, ◌↔◌, ◌≡◌, Ok, ℤ, Bool, Err}
use Rattle.refusals.specs.declared.Refusal.{Refusal}
use Rattle.refusals.specs.Checked.{Checked}
use Rattle.load.specs.declared.Load.{Load}
use Rattle.load.specs.View.{view_of}
use Rattle.load.specs.Calls.{CheckLoad}
use Rattle.rules.specs.declared.LargestW.{LargestW}
use Rattle.rules.specs.declared.Slot.{Slot}
use Rattle.rules.specs.Bound.{bound}
use Rattle.rules.specs.Margins.{margins, margin_bytes, verdict}
use Rattle.rules.specs.Blame.{place_waits, blames}
use Rattle.rules.specs.Move.{Moved as Move, move}
use Rattle.rules.specs.OneClass.{AllOfClass, move_by_row}
use Rattle.bound.specs.declared.Answered.{Answered}
use Rattle.bound.specs.declared.Blamed.{Blamed}
use Rattle.bound.specs.Calls.{
  AnswersOf,
  BoundOf,
  MarginsOf,
  VerdictOf,
  BlamesOf,
  PlaceWaitsOf,
  MarginBytes,
}
use Rattle.schedule.specs.Calls.{CheckSchedule}
use Rattle.schedule.specs.CheckExactly.{KeepsRules}
use Rattle.bench.specs.declared.Bench.{Bench}
use Rattle.bench.specs.declared.Moved.{Moved}
use Rattle.bench.specs.Held.{state_of, HeldBench}
use Rattle.bench.specs.Calls.{NextMove}
use Rattle.demands.specs.FileAnswers.{FileAnswers}
use Rattle.demands.specs.HostAnswers.{HostAnswers}
use Rattle.demands.specs.SheetAnswers.{SheetAnswers}
use Rattle.demands.specs.NoFactory.{NoFactory}
use Rattle.demands.specs.Twins.{Twins}

-- what a call hands back is what a move of the rules does
pub record SameMove (r : Moved) (m : Move) : Type 0 where
  pub state-is : state_of r.bench ≡ m.then
  pub outcome-is : r.outcome ≡ m.outcome
  pub lamps-are : r.lamps ≡ m.lamps
  pub count-is : r.count ≡ m.count

-- what one call gives together is what four give one by one
pub record Together (load : Load) (r : Answered) : Type 0 where
  pub bound-is : BoundOf load (Ok r.bound)
  pub margins-are : MarginsOf load (Ok r.margins)
  pub verdict-is : VerdictOf load (Ok r.verdict)
  pub blames-are : BlamesOf load (Ok (record { margins = r.margins; blames = r.blames }))

-- and what it refuses each of the four refuses so
pub record RefusedTogether (load : Load) (refusal : Refusal) : Type 0 where
  pub no_bound : BoundOf load (Err refusal)
  pub no-margins : MarginsOf load (Err refusal)
  pub no-verdict : VerdictOf load (Err refusal)
  pub no-blames : BlamesOf load (Err refusal)

-- demand 2
pub record Demand2 : Type 0 where
  -- load files of both versions, read and written
  pub files : FileAnswers
  -- and so it is with route sheets
  pub sheets : SheetAnswers
  -- and nothing that is accepted has the factory identifier (2026-04)
  pub no-factory : NoFactory
  -- the bound equals document 01's definition
  pub bounds : (load : Load) (n : ℕ) → BoundOf load (Ok n) → n ≡ bound (view_of load)
  -- the margins do, and their 96 bytes
  pub margins-are : (load : Load) (given : List ℤ) → MarginsOf load (Ok given)
      → given ≡ margins (view_of load)
  pub margins-written : (load : Load) (given : List ℤ) → MarginsOf load (Ok given)
      → (bytes : List ℕ) → MarginBytes given bytes → bytes ≡ margin_bytes (view_of load)
  -- the verdict does
  pub verdicts : (load : Load) (says : Bool) → VerdictOf load (Ok says)
      → says ≡ verdict (view_of load)
  -- the largest W of each place and its row equal document 02's (2026-01), nothing cut
  pub place-waits : (load : Load) (places : List LargestW) → PlaceWaitsOf load (Ok places)
      → places ≡ place_waits (view_of load)
  -- and so do the place and row that each row blames; the margins beside them are the margins
  pub blames-are : (load : Load) (r : Blamed) → BlamesOf load (Ok r)
      → r.blames ≡ blames (view_of load)
  pub blames-margins : (load : Load) (r : Blamed) → BlamesOf load (Ok r)
      → MarginsOf load (Ok r.margins)
  pub no-blames-margins : (load : Load) (refusal : Refusal) → BlamesOf load (Err refusal)
      → MarginsOf load (Err refusal)
  -- the four together do
  pub together : (load : Load) (r : Answered) → AnswersOf load (Ok r) → Together load r
  pub refused-together : (load : Load) (refusal : Refusal) → AnswersOf load (Err refusal)
      → RefusedTogether load refusal
  -- and every move, with the state after it
  pub moves : (load : Load) (bench : Bench) (r : Moved) → CheckLoad load (Ok tt) → HeldBench bench
      → NextMove load bench r → SameMove r (move (view_of load) (state_of bench))
  -- where all rows are of one class, it is the move by step number and row that it was (2026-05)
  pub as_before : (load : Load) (class : ℕ) (bench : Bench) (r : Moved) → CheckLoad load (Ok tt)
      → HeldBench bench → AllOfClass (view_of load) class → NextMove load bench r
      → SameMove r (move_by_row (view_of load) (state_of bench))
  -- the schedule check says yes exactly when document 01's rules hold
  pub says-yes : (load : Load) (slots : List Slot) (r : Checked) → CheckSchedule load slots r
      → (r ≡ Ok tt) ↔ KeepsRules load slots
  -- what C and the program get is that load's
  pub host : HostAnswers
  -- and identifiers and boxes do not matter to it
  pub twins : Twins
