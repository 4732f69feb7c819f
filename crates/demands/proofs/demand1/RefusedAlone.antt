-- A refusal is returned alone: each relation gives the refusal or the answer of one finding, and never both.
use Rattle.std.proofs.Common.{ℕ, List}
use Rattle.std.specs.Prelude.{Ok}
use Rattle.refusals.specs.Checked.{Checked}
use Rattle.refusals.specs.Given.{WritesOut}
use Rattle.refusals.proofs.GivenLaws.{given-alone}
use Rattle.load.specs.Check.{for_bench}
use Rattle.load.specs.Plain.{check_plain}
use Rattle.load_file.specs.Places.{load_in}
use Rattle.load_file.specs.Reading.{file_fault, read_load}
use Rattle.load_file.specs.Calls.{ReadLoad}
use Rattle.sheet.specs.SheetRows.{load_in_sheet}
use Rattle.sheet.specs.Reading.{sheet_fault, read_sheet}
use Rattle.sheet.specs.Writing.{sheet_bytes}
use Rattle.sheet.specs.Calls.{ReadSheet}
use Rattle.lines.specs.Lines.{printed, printed_blamed}
use Rattle.demands.specs.ReturnedAlone.{Alone, WritesAlone, ReturnedAlone}

load-alone : (bs : List ℕ) → Alone (ReadLoad bs)
unfolding read_load
load-alone bs refusal load e h = given-alone (file_fault bs) (load_in bs) load refusal e h

sheet-alone : (bs : List ℕ) → Alone (ReadSheet bs)
unfolding read_sheet
sheet-alone bs refusal load e h = given-alone (sheet_fault bs) (load_in_sheet bs) load refusal e h

length_alone : (finding : Checked) (answer out : List ℕ) → WritesAlone (WritesOut finding answer out)
length_alone finding answer out refusal n after later p q = given-alone _ _ n refusal p.length-is q.length-is

pub returned-alone : ReturnedAlone
returned-alone =
    record {
      no-load = load-alone;
      no-sheet-load = sheet-alone;
      no-sheet-length = λ load out. length_alone (check_plain load) (sheet_bytes load) out;
      no-waits = λ load refusal answer e h. given-alone (for_bench load) _ answer refusal e h;
      no_bound = λ load refusal answer e h. given-alone (for_bench load) _ answer refusal e h;
      no-margins = λ load refusal answer e h. given-alone (for_bench load) _ answer refusal e h;
      no-verdict = λ load refusal answer e h. given-alone (for_bench load) _ answer refusal e h;
      no-blames = λ load refusal answer e h. given-alone (for_bench load) _ answer refusal e h;
      no-answers = λ load refusal answer e h. given-alone (for_bench load) _ answer refusal e h;
      no-slots = λ load refusal answer e h. given-alone (for_bench load) _ answer refusal e h;
      no-lines = λ bs out. length_alone (Ok tt) (printed bs) out;
      no-blamed-lines = λ bs out. length_alone (Ok tt) (printed_blamed bs) out;
    }
