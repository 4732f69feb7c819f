-- Any two results that meet a call's contract are equal, over any width.
use Prim.Native.Nat.{ℕ}
use mathlib.Core.List.{List}
use mathlib.Core.Path.{◌≡◌, sym, ◌∙◌}
use lib.IntN.{ℤ}
use Rattle.std.specs.Prelude.{Option}
use Rattle.words.specs.declared.Digits.{Digits}
use Rattle.words.specs.declared.Word.{Word}
use Rattle.words.specs.Calls.{
  ByteAt,
  NumberAt,
  Overwrite,
  LittleEndian,
  Complement,
  DecimalOf,
  SignedOf,
  DecimalAt,
}

pub ByteAt-unique : (bs : List ℕ) (at r s : ℕ) → ByteAt bs at r → ByteAt bs at s → r ≡ s
ByteAt-unique bs at r s p q = p ∙ sym q

pub NumberAt-unique : (width : ℕ) (bs : List ℕ) (at r s : ℕ)
    → NumberAt width bs at r → NumberAt width bs at s → r ≡ s
NumberAt-unique width bs at r s p q = p ∙ sym q

pub Overwrite-unique : (out : List ℕ) (at : ℕ) (bytes after later : List ℕ)
    → Overwrite out at bytes after → Overwrite out at bytes later → after ≡ later
Overwrite-unique out at bytes after later p q = p ∙ sym q

pub LittleEndian-unique : (width n : ℕ) (r s : List ℕ) → LittleEndian width n r → LittleEndian width n s → r ≡ s
LittleEndian-unique width n r s p q = p ∙ sym q

pub Complement-unique : (bits : ℕ) (z : ℤ) (r s : ℕ) → Complement bits z r → Complement bits z s → r ≡ s
Complement-unique bits z r s p q = p ∙ sym q

pub DecimalOf-unique : (n : ℕ) (r s : Word) → DecimalOf n r → DecimalOf n s → r ≡ s
DecimalOf-unique n r s p q = p ∙ sym q

pub SignedOf-unique : (z : ℤ) (r s : Word) → SignedOf z r → SignedOf z s → r ≡ s
SignedOf-unique z r s p q = p ∙ sym q

pub DecimalAt-unique : (bs : List ℕ) (at : ℕ) (r s : Option Digits) → DecimalAt bs at r → DecimalAt bs at s → r ≡ s
DecimalAt-unique bs at r s p q = p ∙ sym q
