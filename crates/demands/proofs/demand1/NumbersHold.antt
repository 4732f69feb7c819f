-- Every call refuses with no other numbers than those named: each relation is an equation or a finding, and those were
-- looked through test by test.
use Rattle.std.proofs.Common.{ℕ, List}
use Rattle.std.specs.Prelude.{Result}
use Rattle.refusals.specs.declared.Refusal.{Refusal}
use Rattle.refusals.specs.Refusals.{number_given}
use Rattle.refusals.specs.Given.{found_in}
use Rattle.refusals.proofs.GivenLaws.{found_in-given}
use Rattle.load.specs.declared.Load.{Load}
use Rattle.load.specs.Check.{check_load}
use Rattle.load_file.specs.Places.{load_in}
use Rattle.load_file.specs.Reading.{file_fault, read_load}
use Rattle.load_file.specs.Calls.{ReadLoad}
use Rattle.sheet.specs.SheetRows.{load_in_sheet}
use Rattle.sheet.specs.Reading.{sheet_fault, read_sheet}
use Rattle.sheet.specs.Calls.{ReadSheet}
use Rattle.rules.specs.Margins.{margin_bytes}
use Rattle.schedule.specs.Calls.{first_slots}
use Rattle.reading_bench.specs.Calls.{bound_bytes, verdict_bytes, schedule_file}
use Rattle.lines.specs.Lines.{printed, printed_blamed}
use Rattle.demands.specs.NumberLists.{OneOf, of_file, of_sheet}
use Rattle.demands.specs.Numbers.{Numbers}
use Rattle.demands.proofs.demand1.CallNumbers.{
  load_gives,
  plain-gives,
  fields_give,
  step_gives,
  window-gives,
  parts-give,
  file-gives,
  sheet-gives,
  schedule-gives,
  move_gives,
}
use Rattle.demands.proofs.demand1.WritingCalls.{
  run-gives,
  load-written-gives,
  plain-written-gives,
  sheet-written-gives,
  room-gives,
  slots-written-give,
  c-gives,
  out-gives,
}

file-read-gives : (bs : List ℕ) (r : Result Load Refusal) → ReadLoad bs r → OneOf of_file (number_given (found_in r))
unfolding read_load
file-read-gives bs r e = rw (e, found_in-given (file_fault bs) (load_in bs)) (file-gives bs).passes

sheet-read-gives : (bs : List ℕ) (r : Result Load Refusal) → ReadSheet bs r → OneOf of_sheet (number_given (found_in r))
unfolding read_sheet
sheet-read-gives bs r e = rw (e, found_in-given (sheet_fault bs) (load_in_sheet bs)) (sheet-gives bs).passes

pub numbers : Numbers
numbers =
    record {
      check-load = λ load r e. rw e (load_gives load).passes;
      check-fields = λ row r e. rw e (fields_give row).passes;
      check-plain = λ load r e. rw e (plain-gives load).passes;
      check-step = λ step is_last r e. rw e (step_gives step is_last).passes;
      check-window = λ row window before r e. rw e (window-gives row window before).passes;
      check-parts = λ row r e. rw e (parts-give row).passes;
      read-load = λ bs r e. file-read-gives bs r e;
      write-version-1 = plain-written-gives;
      write-version-2 = load-written-gives;
      read-sheet = λ bs r e. sheet-read-gives bs r e;
      write-sheet = sheet-written-gives;
      place-waits-of = λ load r e. rw (e, found_in-given (check_load load) _) (load_gives load).passes;
      answers_of = λ load r e. rw (e, found_in-given (check_load load) _) (load_gives load).passes;
      bound_of = λ load r e. rw (e, found_in-given (check_load load) _) (load_gives load).passes;
      margins-of = λ load r e. rw (e, found_in-given (check_load load) _) (load_gives load).passes;
      verdict-of = λ load r e. rw (e, found_in-given (check_load load) _) (load_gives load).passes;
      blames-of = λ load r e. rw (e, found_in-given (check_load load) _) (load_gives load).passes;
      check-schedule = λ load slots r e. rw e (schedule-gives load slots).passes;
      check-array = λ load slots n r e. rw e (schedule-gives load (first_slots slots n)).passes;
      check-room = λ n room r e. rw e (room-gives n room).passes;
      write-schedule = slots-written-give;
      write-array = λ slots n out r after g. slots-written-give (first_slots slots n) out r after g;
      next-move = λ load bench r e. rw e (move_gives load bench);
      run = λ load r e. rw (e, found_in-given (check_load load) _) (load_gives load).passes;
      write-run = run-gives;
      bench-bound = c-gives bound_bytes;
      bench-verdict = c-gives verdict_bytes;
      bench-margins = c-gives margin_bytes;
      bench-schedule = c-gives schedule_file;
      print-lines = λ bs out r after p. out-gives (printed bs) out r after p;
      print-blames = λ bs out r after p. out-gives (printed_blamed bs) out r after p;
    }
