-- "Little-endian": the bytes of a number, lowest first, and the number that stands at a place of a
-- list of bytes.
use Rattle.std.specs.Prelude.{ℕ, zero, suc, ◌+◌, ◌*◌, ◌/◌, ◌%◌, ◌<◌, List, [], ◌∷◌}
use Rattle.counting.specs.Lists.{member_at}

-- the width lowest bytes of a number, lowest first
unfoldable pub little_endian : ℕ → ℕ → List ℕ
little_endian zero n = []
little_endian (suc width) n = n % 256 ∷ little_endian width (n / 256)

-- the byte at a place, and 0 past the end
abbrev pub byte_at : List ℕ → ℕ → ℕ
byte_at bs at = member_at bs at

-- the number of width bytes from a place on
unfoldable pub number_at : ℕ → List ℕ → ℕ → ℕ
number_at zero bs at = 0
number_at (suc width) bs at = byte_at bs at + 256 * number_at width bs (at + 1)

-- a list of bytes: each member is below 256
abbrev pub Bytes : List ℕ → Type 0
Bytes bs = (at : ℕ) → byte_at bs at < 256
