-- "It prints exactly this": texts as bytes, and whole numbers in plain decimal with no leading
-- zero. Rests on D38.
use Rattle.std.specs.Prelude.{ℕ, zero, suc, ◌+◌, ◌/◌, ◌%◌, true, false, List, [], ◌∷◌, ◌++◌, ltb, ℤ}
use Rattle.std.specs.Prelude.{pos, negsuc}
use Prim.Native.Char.{code}
use Prim.Native.String as quoted
use Prim.Native.String.{String}

-- the bytes of a text of ASCII characters
unfoldable pub text : String → List ℕ
text quoted.[] = []
text (quoted.◌∷◌ c rest) = code c ∷ text rest

-- the sign of a digit from 0 to 9
abbrev pub digit : ℕ → List ℕ
digit d = (48 + d) ∷ []

-- a number below 10 ^ most, in decimal
unfoldable pub decimal_to : ℕ → ℕ → List ℕ
decimal_to zero n = []
decimal_to (suc most) n =
    elim (ltb n 10) [ true ↦ digit n | false ↦ decimal_to most (n / 10) ++ digit (n % 10) ]

-- ten digits hold every number of 32 bits
abbrev pub decimal : ℕ → List ℕ
decimal n = decimal_to 10 n

-- a whole number in decimal, with a minus sign where it is negative
abbrev pub signed_decimal : ℤ → List ℕ
signed_decimal (pos n) = decimal n
signed_decimal (negsuc n) = 45 ∷ decimal (suc n)
