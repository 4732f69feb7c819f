-- The calls on load files: each contract is its relation in FileCalls, which a result meets, and one only.
use mathlib.Core.Path.{refl}
use Rattle.load_records.specs.Writing.{load_bytes, write_fault}
use Rattle.load_records.proofs.CallLaws.{RowSize-unique, RowRecordsOf-unique, SizeIn-unique, WriteIn-unique}
use Rattle.load_file.proofs.CallLaws.{ReadLoad-unique}
use Rattle.demands.specs.FileCalls.{EveryFileCall}
use Rattle.demands.specs.Sameness.{OneResult}
use Rattle.demands.specs.JoinedContract.{Relation}
use Rattle.demands.specs.Demand1.{Answer}
use Rattle.demands.proofs.contracts.FileContracts.{FileContracts}
use Rattle.demands.proofs.calls.CallAnswers.{listed, both, is, given}

abbrev pub file-relations : EveryFileCall Relation
file-relations =
    record {
      row-size = λ version. listed;
      row-records = λ row. listed;
      version-1-size = λ load. listed;
      version-2-size = λ load. listed;
      write-version-1 = λ load out. listed;
      write-version-2 = λ load out. listed;
      read-load = λ bs. listed;
    }

pub file-contracts : FileContracts file-relations
file-contracts =
    record {
      row-size = refl;
      row-records = refl;
      version-1-size = refl;
      version-2-size = refl;
      write-version-1 = refl;
      write-version-2 = refl;
      read-load = refl;
    }

pub file-same : EveryFileCall OneResult
file-same =
    record {
      row-size = RowSize-unique;
      row-records = RowRecordsOf-unique;
      version-1-size = SizeIn-unique 1;
      version-2-size = SizeIn-unique 2;
      write-version-1 = λ load out. both _ (WriteIn-unique 1 load out);
      write-version-2 = λ load out. both _ (WriteIn-unique 2 load out);
      read-load = ReadLoad-unique;
    }

pub file-answers : EveryFileCall Answer
file-answers =
    record {
      row-size = λ version. is _;
      row-records = λ row. is _;
      version-1-size = λ load. is _;
      version-2-size = λ load. is _;
      write-version-1 = λ load out. given (write_fault 1 load) (load_bytes 1 load) out;
      write-version-2 = λ load out. given (write_fault 2 load) (load_bytes 2 load) out;
      read-load = λ bs. is _;
    }
