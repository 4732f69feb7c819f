-- "Each is given exactly then, and returned alone": with which of the table's numbers each call can
-- refuse. To be read after PublicCalls and NumberLists.
use Rattle.std.specs.Prelude.{ℕ, Bool, List, ℤ, Result}
use Rattle.refusals.specs.declared.Refusal.{Refusal}
use Rattle.refusals.specs.Checked.{Checked}
use Rattle.refusals.specs.Refusals.{number_given}
use Rattle.refusals.specs.Given.{found_in}
use Rattle.load.specs.declared.Step.{Step}
use Rattle.load.specs.declared.Window.{Window}
use Rattle.load.specs.declared.Row.{Row}
use Rattle.load.specs.declared.Load.{Load}
use Rattle.load.specs.Calls.{CheckLoad, CheckPlain, CheckFields, CheckStep, CheckWindow, CheckParts}
use Rattle.load_records.specs.Calls.{WriteVersion1, WriteVersion2}
use Rattle.load_file.specs.Calls.{ReadLoad}
use Rattle.sheet.specs.Calls.{ReadSheet, WriteSheet}
use Rattle.rules.specs.declared.Slot.{Slot}
use Rattle.rules.specs.declared.LargestW.{LargestW}
use Rattle.rules.specs.Outcomes.{told_by}
use Rattle.bound.specs.declared.Answered.{Answered}
use Rattle.bound.specs.declared.Blamed.{Blamed}
use Rattle.bound.specs.Calls.{AnswersOf, BoundOf, MarginsOf, VerdictOf, BlamesOf, PlaceWaitsOf}
use Rattle.schedule.specs.Calls.{CheckSchedule, CheckArray}
use Rattle.schedule_file.specs.Calls.{CheckRoom, WriteSchedule, WriteArray}
use Rattle.bench.specs.declared.Bench.{Bench}
use Rattle.bench.specs.declared.Moved.{Moved}
use Rattle.bench.specs.declared.Ran.{Ran}
use Rattle.bench.specs.Calls.{NextMove, Runs, WriteRun}
use Rattle.reading_bench.specs.Calls.{BenchBound, BenchVerdict, BenchMargins, BenchSchedule}
use Rattle.lines.specs.Calls.{PrintLines, PrintBlames}
use Rattle.demands.specs.NumberLists.{OneOf, of_range, of_fields, of_window}
use Rattle.demands.specs.NumberLists.{of_load, of_plain, of_file, of_sheet}
use Rattle.demands.specs.NumberLists.{of_output, of_c, of_writing, of_plain_writing}
use Rattle.demands.specs.NumberLists.{of_slot_writing}
use Rattle.demands.specs.NumberLists.{of_schedule, of_move}

-- a call for C gives the file's own numbers and 9 alone
abbrev pub NumbersForC : (List ℕ → List ℕ → ℕ → List ℕ → Type 0) → Type 0
NumbersForC call =
    (bs out : List ℕ) (r : ℕ) (after : List ℕ) → call bs out r after → OneOf of_c r

-- the numbers that each call can refuse with
pub record Numbers : Type 0 where
  -- a load in memory, and its parts
  pub check-load : (load : Load) (r : Checked) → CheckLoad load r → OneOf of_load (number_given r)
  pub check-fields : (row : Row) (r : Checked) → CheckFields row r
      → OneOf of_fields (number_given r)
  pub check-plain : (load : Load) (r : Checked) → CheckPlain load r
      → OneOf of_plain (number_given r)
  pub check-step : (step : Step) (is_last : Bool) (r : Checked) → CheckStep step is_last r
      → OneOf of_range (number_given r)
  pub check-window : (row : Row) (window : Window) (before : ℕ) (r : Checked)
      → CheckWindow row window before r → OneOf of_window (number_given r)
  pub check-parts : (row : Row) (r : Checked) → CheckParts row r → OneOf of_window (number_given r)
  -- a file that is read, and one that is written, in each version
  pub read-load : (bs : List ℕ) (r : Result Load Refusal) → ReadLoad bs r
      → OneOf of_file (number_given (found_in r))
  pub write-version-1 : (load : Load) (out : List ℕ) (r : Checked) (after : List ℕ)
      → WriteVersion1 load out r after → OneOf of_plain_writing (number_given r)
  pub write-version-2 : (load : Load) (out : List ℕ) (r : Checked) (after : List ℕ)
      → WriteVersion2 load out r after → OneOf of_writing (number_given r)
  -- a sheet that is read, and one that is written
  pub read-sheet : (bs : List ℕ) (r : Result Load Refusal) → ReadSheet bs r
      → OneOf of_sheet (number_given (found_in r))
  pub write-sheet : (load : Load) (out : List ℕ) (r : Result ℕ Refusal) (after : List ℕ)
      → WriteSheet load out r after → OneOf of_plain_writing (number_given (found_in r))
  -- the largest W of each place; bound, margins, verdict and blames
  pub place-waits-of : (load : Load) (r : Result (List LargestW) Refusal) → PlaceWaitsOf load r
      → OneOf of_load (number_given (found_in r))
  pub answers_of : (load : Load) (r : Result Answered Refusal) → AnswersOf load r
      → OneOf of_load (number_given (found_in r))
  pub bound_of : (load : Load) (r : Result ℕ Refusal) → BoundOf load r
      → OneOf of_load (number_given (found_in r))
  pub margins-of : (load : Load) (r : Result (List ℤ) Refusal) → MarginsOf load r
      → OneOf of_load (number_given (found_in r))
  pub verdict-of : (load : Load) (r : Result Bool Refusal) → VerdictOf load r
      → OneOf of_load (number_given (found_in r))
  pub blames-of : (load : Load) (r : Result Blamed Refusal) → BlamesOf load r
      → OneOf of_load (number_given (found_in r))
  -- a schedule that is checked, and one that is written, its room by itself too
  pub check-schedule : (load : Load) (slots : List Slot) (r : Checked) → CheckSchedule load slots r
      → OneOf of_schedule (number_given r)
  pub check-array : (load : Load) (slots : List Slot) (n : ℕ) (r : Checked)
      → CheckArray load slots n r → OneOf of_schedule (number_given r)
  pub check-room : (n room : ℕ) (r : Checked) → CheckRoom n room r
      → OneOf of_slot_writing (number_given r)
  pub write-schedule : (slots : List Slot) (out : List ℕ) (r : Checked) (after : List ℕ)
      → WriteSchedule slots out r after → OneOf of_slot_writing (number_given r)
  pub write-array : (slots : List Slot) (n : ℕ) (out : List ℕ) (r : Checked) (after : List ℕ)
      → WriteArray slots n out r after → OneOf of_slot_writing (number_given r)
  -- a move, and a run
  pub next-move : (load : Load) (bench : Bench) (r : Moved) → NextMove load bench r
      → OneOf of_move (told_by r.outcome).number
  pub run : (load : Load) (r : Result Ran Refusal) → Runs load r
      → OneOf of_load (number_given (found_in r))
  pub write-run : (bs out : List ℕ) (r : Checked) (after : List ℕ) → WriteRun bs out r after
      → OneOf of_c (number_given r)
  -- the calls for C, and printing
  pub bench-bound : NumbersForC BenchBound
  pub bench-verdict : NumbersForC BenchVerdict
  pub bench-margins : NumbersForC BenchMargins
  pub bench-schedule : NumbersForC BenchSchedule
  pub print-lines : (bs out : List ℕ) (r : Result ℕ Refusal) (after : List ℕ)
      → PrintLines bs out r after → OneOf of_output (number_given (found_in r))
  pub print-blames : (bs out : List ℕ) (r : Result ℕ Refusal) (after : List ℕ)
      → PrintBlames bs out r after → OneOf of_output (number_given (found_in r))
