-- What the two programs that read and write sheets take as their input: at most 65,536 bytes, and a
-- longer one is told in words before anything is read as a sheet or a load file. Rests on D89.
use Rattle.std.specs.Prelude.{ℕ, ◌+◌, min, Bool, List, ◌≡◌, ltb, length}

-- the most bytes of an input that is read
abbrev pub most_input_bytes : ℕ
most_input_bytes = 65536

-- the places that it is read into: one more, so that a longer one is seen to be longer
abbrev pub input_places : ℕ
input_places = most_input_bytes + 1

-- places(): so many
abbrev pub Places : List ℕ → Type 0
Places r = input_places ≡ length r

-- is_long(size): whether an input is longer, whatever its length, of which so many bytes were read:
-- as many as there are places, or all that it has
abbrev pub IsLong : ℕ → Bool → Type 0
IsLong size r = (bytes : ℕ) → size ≡ min bytes input_places → r ≡ ltb most_input_bytes bytes
