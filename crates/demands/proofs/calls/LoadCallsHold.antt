-- The calls on a load in memory: each contract is its relation in LoadCalls, which a result meets, and one only.
use mathlib.Core.Path.{refl}
use Rattle.load.proofs.CallLaws.{
  CheckLoad-unique,
  CheckPlain-unique,
  CheckFields-unique,
  CheckStep-unique,
  CheckWindow-unique,
  CheckParts-unique,
  IdentifierTaken-unique,
  BoxTaken-unique,
  RowAt-unique,
  StepAt-unique,
  WindowAt-unique,
  EmbeddedAt-unique,
  ChainBetween-unique,
  StepsIn-unique,
  ZeroRow-unique,
  ZeroLoad-unique,
}
use Rattle.demands.specs.LoadCalls.{EveryLoadCall}
use Rattle.demands.specs.Sameness.{OneResult}
use Rattle.demands.specs.JoinedContract.{Relation}
use Rattle.demands.specs.Demand1.{Answer}
use Rattle.demands.proofs.contracts.LoadContracts.{LoadContracts}
use Rattle.demands.proofs.calls.CallAnswers.{listed, is}

abbrev pub load-relations : EveryLoadCall Relation
load-relations =
    record {
      check-load = λ load. listed;
      check-plain = λ load. listed;
      check-fields = λ row. listed;
      check-step = λ step is_last. listed;
      check-window = λ row window before. listed;
      check-parts = λ row. listed;
      identifier-taken = λ identifiers n identifier. listed;
      box-taken = λ boxes n box. listed;
      row-at = λ load i. listed;
      step-at = λ row j. listed;
      window-at = λ row k. listed;
      embedded-at = λ row j. listed;
      chain-between = λ row from to. listed;
      steps-in = λ load. listed;
      zero_row = listed;
      zero-load = listed;
    }

pub load-contracts : LoadContracts load-relations
load-contracts =
    record {
      check-load = refl;
      check-plain = refl;
      check-fields = refl;
      check-step = refl;
      check-window = refl;
      check-parts = refl;
      identifier-taken = refl;
      box-taken = refl;
      row-at = refl;
      step-at = refl;
      window-at = refl;
      embedded-at = refl;
      chain-between = refl;
      steps-in = refl;
      zero_row = refl;
      zero-load = refl;
    }

pub load_same : EveryLoadCall OneResult
load_same =
    record {
      check-load = CheckLoad-unique;
      check-plain = CheckPlain-unique;
      check-fields = CheckFields-unique;
      check-step = CheckStep-unique;
      check-window = CheckWindow-unique;
      check-parts = CheckParts-unique;
      identifier-taken = IdentifierTaken-unique;
      box-taken = BoxTaken-unique;
      row-at = RowAt-unique;
      step-at = StepAt-unique;
      window-at = WindowAt-unique;
      embedded-at = EmbeddedAt-unique;
      chain-between = ChainBetween-unique;
      steps-in = StepsIn-unique;
      zero_row = ZeroRow-unique;
      zero-load = ZeroLoad-unique;
    }

pub load-answers : EveryLoadCall Answer
load-answers =
    record {
      check-load = λ load. is _;
      check-plain = λ load. is _;
      check-fields = λ row. is _;
      check-step = λ step is_last. is _;
      check-window = λ row window before. is _;
      check-parts = λ row. is _;
      identifier-taken = λ identifiers n identifier. is _;
      box-taken = λ boxes n box. is _;
      row-at = λ load i. is _;
      step-at = λ row j. is _;
      window-at = λ row k. is _;
      embedded-at = λ row j. is _;
      chain-between = λ row from to. is _;
      steps-in = λ load. is _;
      zero_row = is _;
      zero-load = is _;
    }
