-- "Plain decimal without leading zeros", as it is read: the number that stands at a place of a list
-- of bytes, of at most ten digits. To be read after Decimal and LittleEndian.
use Rattle.std.specs.Prelude.{ℕ, zero, suc, ◌+◌, ◌-◌, ◌*◌, Bool, not, cond, ◌&&◌, ◌||◌, List, eqb}
use Rattle.std.specs.Prelude.{leb}
use Rattle.counting.specs.Searches.{first_to}
use Rattle.words.specs.LittleEndian.{byte_at}

-- the sign of a digit from 0 to 9
abbrev pub is_digit : ℕ → Bool
is_digit b = leb 48 b && leb b 57

-- "a number of over ten digits" is none
abbrev pub most_digits : ℕ
most_digits = 10

-- how many digits stand from a place on; eleven are told where there are more than ten
unfoldable pub digits_at : List ℕ → ℕ → ℕ
digits_at bs at = first_to (λ d. not (is_digit (byte_at bs (at + d)))) (suc most_digits)

-- the number that so many digits from a place on spell
unfoldable pub value_at : List ℕ → ℕ → ℕ → ℕ
value_at bs at zero = 0
value_at bs at (suc n) = 10 * value_at bs at n + (byte_at bs (at + n) - 48)

-- so many digits at a place are a plain decimal: one to ten, and a 0 at their front stands alone
abbrev pub is_plain : List ℕ → ℕ → ℕ → Bool
is_plain bs at digits =
    leb 1 digits && leb digits most_digits && (eqb digits 1 || not (eqb (byte_at bs at) 48))

-- how many digits the plain decimal at a place has, and 0 where none stands there
unfoldable pub plain_at : List ℕ → ℕ → ℕ
plain_at bs at = cond (is_plain bs at (digits_at bs at)) (digits_at bs at) 0

-- the number that the plain decimal at a place spells, and 0 where none stands there
abbrev pub plain_value : List ℕ → ℕ → ℕ
plain_value bs at = value_at bs at (plain_at bs at)
