-- "Loads to try": bytes as hexadecimal text, and lines as text. The loads themselves are written as
-- in load's Notation.
use Rattle.std.specs.Prelude.{ℕ, ◌+◌, ◌-◌, ◌*◌, cond, not, List, [], ◌∷◌, ◌++◌, eqb, ltb}
use Prim.Native.String.{String}
use Rattle.counting.specs.Lists.{join_in, keep_in}
use Rattle.words.specs.Decimal.{text}

-- the value of a hexadecimal digit, 0 to 9 and A to F
abbrev pub hex_digit : ℕ → ℕ
hex_digit sign = cond (ltb sign 58) (sign - 48) (sign - 55)

-- two digits to a byte
unfoldable pub pairs : List ℕ → List ℕ
pairs [] = []
pairs (high ∷ []) = []
pairs (high ∷ low ∷ rest) = (16 * hex_digit high + hex_digit low) ∷ pairs rest

-- the bytes of a hexadecimal text; spaces may stand between them
unfoldable pub hex : String → List ℕ
hex s = pairs (keep_in (λ sign. not (eqb sign 32)) (text s))

-- the bytes of a file, a text to a record
unfoldable pub bytes_of : List String → List ℕ
bytes_of records = join_in hex records

-- lines of text, each with its line feed
unfoldable pub lines_of : List String → List ℕ
lines_of lines = join_in (λ l. text l ++ 10 ∷ []) lines
