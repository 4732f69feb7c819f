-- What each public call's contract says: one relation a call, over what it takes, what it gives,
-- and what the lent bytes hold afterwards. Places past the end read as 0 and are not written.
use Rattle.std.specs.Prelude.{ℕ, ◌-◌, cond, List, ◌++◌, ◌≡◌, ltb, ℤ, length, replicate}
use Rattle.std.specs.Prelude.{Option, Some, None}
use Rattle.std.proofs.lemmas.List.Edits.{sets}
use Rattle.words.specs.declared.Word.{Word}
use Rattle.words.specs.declared.Digits.{Digits}
use Rattle.words.specs.Decimal.{decimal, signed_decimal}
use Rattle.words.specs.LittleEndian.{byte_at, number_at, little_endian}
use Rattle.words.specs.TwosComplement.{twos_complement}
use Rattle.words.specs.PlainDecimal.{plain_at, plain_value}

-- byte_at(bs, at): the byte at a place
abbrev pub ByteAt : List ℕ → ℕ → ℕ → Type 0
ByteAt bs at r = r ≡ byte_at bs at

-- number16_at(bs, at) and number32_at(bs, at): the number of 2 and of 4 bytes from a place on
abbrev pub NumberAt : ℕ → List ℕ → ℕ → ℕ → Type 0
NumberAt width bs at r = r ≡ number_at width bs at

-- overwrite(out, at, bytes): the output with the bytes in it from a place on
abbrev pub Overwrite : List ℕ → ℕ → List ℕ → List ℕ → Type 0
Overwrite out at bytes after = after ≡ sets out at bytes

-- bytes16(number) and bytes32(number): the 2 and the 4 bytes of a number
abbrev pub LittleEndian : ℕ → ℕ → List ℕ → Type 0
LittleEndian width n r = r ≡ little_endian width n

-- complement32(number): the word of 32 bits of a whole number
abbrev pub Complement : ℕ → ℤ → ℕ → Type 0
Complement bits z r = r ≡ twos_complement bits z

-- how many places a word has: a sign and ten digits
abbrev pub word_places : ℕ
word_places = 11

-- a text as a word: its length, its bytes, and 0 in the places past them
abbrev pub word_holding : List ℕ → Word
word_holding bs =
    record { length = length bs; bytes = bs ++ replicate (word_places - length bs) 0 }

-- decimal_of(number): the number in decimal
abbrev pub DecimalOf : ℕ → Word → Type 0
DecimalOf n r = r ≡ word_holding (decimal n)

-- signed_of(number): the whole number in decimal, with a minus sign where it is negative
abbrev pub SignedOf : ℤ → Word → Type 0
SignedOf z r = r ≡ word_holding (signed_decimal z)

-- decimal_at(bs, at): the plain decimal at a place, where one stands there: how many digits it has,
-- and the number
abbrev pub DecimalAt : List ℕ → ℕ → Option Digits → Type 0
DecimalAt bs at r =
    r
    ≡ cond
    (ltb 0 (plain_at bs at))
    (Some (record { count = plain_at bs at; value = plain_value bs at }))
    None
