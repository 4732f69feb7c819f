-- The calls on words and refusals: each contract is its relation in WordCalls, which a result meets, and one only.
use mathlib.Core.Path.{refl}
use Rattle.words.proofs.CallLaws.{
  ByteAt-unique,
  NumberAt-unique,
  Overwrite-unique,
  LittleEndian-unique,
  Complement-unique,
  DecimalOf-unique,
  SignedOf-unique,
  DecimalAt-unique,
}
use Rattle.refusals.proofs.CallLaws.{NumberOf-unique, NumberGiven-unique}
use Rattle.demands.specs.WordCalls.{EveryWordCall}
use Rattle.demands.specs.Sameness.{OneResult}
use Rattle.demands.specs.JoinedContract.{Relation}
use Rattle.demands.specs.Demand1.{Answer}
use Rattle.demands.proofs.contracts.WordContracts.{WordContracts}
use Rattle.demands.proofs.calls.CallAnswers.{listed, is}

abbrev pub word-relations : EveryWordCall Relation
word-relations =
    record {
      byte-at = λ bs at. listed;
      number16-at = λ bs at. listed;
      number32-at = λ bs at. listed;
      overwrite = λ out at bytes. listed;
      bytes16 = λ number. listed;
      bytes32 = λ number. listed;
      complement32 = λ number. listed;
      decimal-of = λ number. listed;
      signed_of = λ number. listed;
      decimal-at = λ bs at. listed;
      number_of = λ refusal. listed;
      number-given = λ found. listed;
    }

pub word-contracts : WordContracts word-relations
word-contracts =
    record {
      byte-at = refl;
      number16-at = refl;
      number32-at = refl;
      overwrite = refl;
      bytes16 = refl;
      bytes32 = refl;
      complement32 = refl;
      decimal-of = refl;
      signed_of = refl;
      decimal-at = refl;
      number_of = refl;
      number-given = refl;
    }

pub word_same : EveryWordCall OneResult
word_same =
    record {
      byte-at = ByteAt-unique;
      number16-at = NumberAt-unique 2;
      number32-at = NumberAt-unique 4;
      overwrite = Overwrite-unique;
      bytes16 = LittleEndian-unique 2;
      bytes32 = LittleEndian-unique 4;
      complement32 = Complement-unique 32;
      decimal-of = DecimalOf-unique;
      signed_of = SignedOf-unique;
      decimal-at = DecimalAt-unique;
      number_of = NumberOf-unique;
      number-given = NumberGiven-unique;
    }

pub word-answers : EveryWordCall Answer
word-answers =
    record {
      byte-at = λ bs at. is _;
      number16-at = λ bs at. is _;
      number32-at = λ bs at. is _;
      overwrite = λ out at bytes. is _;
      bytes16 = λ n. is _;
      bytes32 = λ n. is _;
      complement32 = λ z. is _;
      decimal-of = λ n. is _;
      signed_of = λ z. is _;
      decimal-at = λ bs at. is _;
      number_of = λ refusal. is _;
      number-given = λ found. is _;
    }
