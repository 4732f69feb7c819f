-- The calls on route sheets: each contract is its relation in SheetCalls, which a result meets, and one only.
use mathlib.Core.Path.{refl}
use Rattle.load.specs.Plain.{check_plain}
use Rattle.sheet_line.proofs.CallLaws.{LineAt-unique, LineOf-unique}
use Rattle.sheet.specs.Writing.{sheet_bytes}
use Rattle.sheet.proofs.CallLaws.{ReadSheet-unique, WriteSheet-unique}
use Rattle.demands.specs.SheetCalls.{EverySheetCall}
use Rattle.demands.specs.Sameness.{OneResult}
use Rattle.demands.specs.JoinedContract.{Relation}
use Rattle.demands.specs.Demand1.{Answer}
use Rattle.demands.proofs.contracts.SheetContracts.{SheetContracts}
use Rattle.demands.proofs.calls.CallAnswers.{listed, both, is, writes-out}

abbrev pub sheet-relations : EverySheetCall Relation
sheet-relations =
    record {
      line_at = λ bs at. listed;
      line-of = λ row j. listed;
      read-sheet = λ bs. listed;
      write-sheet = λ load out. listed;
    }

pub sheet-contracts : SheetContracts sheet-relations
sheet-contracts =
    record {
      line_at = refl;
      line-of = refl;
      read-sheet = refl;
      write-sheet = refl;
    }

pub sheet-same : EverySheetCall OneResult
sheet-same =
    record {
      line_at = LineAt-unique;
      line-of = LineOf-unique;
      read-sheet = ReadSheet-unique;
      write-sheet = λ load out. both _ (WriteSheet-unique load out);
    }

pub sheet-answers : EverySheetCall Answer
sheet-answers =
    record {
      line_at = λ bs at. is _;
      line-of = λ row j. is _;
      read-sheet = λ bs. is _;
      write-sheet = λ load out. writes-out (check_plain load) (sheet_bytes load) out;
    }
