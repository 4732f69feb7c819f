-- "What the contracts have to say": every public call on words and refusals, once.
-- To be read after the Calls of the crates that it names.
use Rattle.std.specs.Prelude.{ℕ, List, ℤ, Option}
use Rattle.words.specs.declared.Word.{Word}
use Rattle.words.specs.declared.Digits.{Digits}
use Rattle.words.specs.Calls.{ByteAt, NumberAt, Overwrite, LittleEndian, Complement}
use Rattle.words.specs.Calls.{DecimalOf, SignedOf, DecimalAt}
use Rattle.refusals.specs.declared.Refusal.{Refusal}
use Rattle.refusals.specs.Checked.{Checked}
use Rattle.refusals.specs.Calls.{NumberOf, NumberGiven}

-- what is claimed of the relation of each call on words and refusals, for all that it is given
pub record EveryWordCall {ℓ} (Claim : (A : Type 0) → (A → Type 0) → Type ℓ) : Type ℓ where
  -- words
  pub byte-at : (bs : List ℕ) (at : ℕ) → Claim ℕ (ByteAt bs at)
  pub number16-at : (bs : List ℕ) (at : ℕ) → Claim ℕ (NumberAt 2 bs at)
  pub number32-at : (bs : List ℕ) (at : ℕ) → Claim ℕ (NumberAt 4 bs at)
  pub overwrite : (out : List ℕ) (at : ℕ) (bytes : List ℕ) → Claim (List ℕ) (Overwrite out at bytes)
  pub bytes16 : (number : ℕ) → Claim (List ℕ) (LittleEndian 2 number)
  pub bytes32 : (number : ℕ) → Claim (List ℕ) (LittleEndian 4 number)
  pub complement32 : (number : ℤ) → Claim ℕ (Complement 32 number)
  pub decimal-of : (number : ℕ) → Claim Word (DecimalOf number)
  pub signed_of : (number : ℤ) → Claim Word (SignedOf number)
  pub decimal-at : (bs : List ℕ) (at : ℕ) → Claim (Option Digits) (DecimalAt bs at)
  -- refusals
  pub number_of : (refusal : Refusal) → Claim ℕ (NumberOf refusal)
  pub number-given : (found : Checked) → Claim ℕ (NumberGiven found)
