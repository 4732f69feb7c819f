-- "The bound and the margins": row bounds, margins, the verdict, and the margins' 96 bytes. To be
-- read after Bound. Rests on D20.
use Rattle.std.specs.Prelude.{ℕ, Bool, true, false, cond, not, List, ltb, ℤ, pos, negsuc, ◌-ℤ◌}
use Rattle.std.specs.Prelude.{get_or}
use Rattle.counting.specs.Sums.{all_to}
use Rattle.counting.specs.Lists.{join_to, list_to}
use Rattle.words.specs.LittleEndian.{little_endian}
use Rattle.words.specs.TwosComplement.{twos_complement}
use Rattle.load.specs.Load.{most_rows}
use Rattle.load.specs.View.{View}
use Rattle.rules.specs.Cut.{cut}
use Rattle.rules.specs.Bound.{bound}

-- a row's bound: that of the load cut at its number of steps
unfoldable pub row_bound : View → ℕ → ℕ
row_bound L i = bound (cut L (L.steps i))

-- a row's margin: its deadline less its row bound
unfoldable pub margin : View → ℕ → ℤ
margin L i = pos (L.deadline i) -ℤ pos (row_bound L i)

-- a whole number is negative
abbrev pub is_negative : ℤ → Bool
is_negative (pos n) = false
is_negative (negsuc n) = true

-- yes when no margin is negative
unfoldable pub verdict : View → Bool
verdict L = all_to (λ i. not (is_negative (margin L i))) L.rows

-- the margin at a place: those of rows not there are 0
abbrev pub margin_at : View → ℕ → ℤ
margin_at L i = cond (ltb i L.rows) (margin L i) (pos 0)

-- all margins
unfoldable pub margins : View → List ℤ
margins L = list_to (margin_at L) most_rows

-- the margin at a place of a list
abbrev pub margin_in : List ℤ → ℕ → ℤ
margin_in margins i = get_or margins i (pos 0)

-- the bytes of margins: 4 to a row, little-endian two's complement
unfoldable pub bytes_of_margins : List ℤ → List ℕ
bytes_of_margins margins =
    join_to (λ i. little_endian 4 (twos_complement 32 (margin_in margins i))) most_rows

-- the bytes of a load's margins
abbrev pub margin_bytes : View → List ℕ
margin_bytes L = bytes_of_margins (margins L)
