-- The worked cases hold: each is decided by computing.
use Prim.Native.Nat.{ℕ}
use mathlib.Core.Path.{refl}
use Rattle.counting.specs.Sums.{all_to}
use Rattle.counting.specs.Searches.{first_to}
use Rattle.words.specs.Decimal.{text, decimal_to}
use Rattle.words.specs.PlainDecimal.{digits_at, value_at, plain_at}
use Rattle.sheet_line.specs.LineText.{mark_among, line_of, mark_bytes, line_bytes}
use Rattle.sheet_line.specs.Line.{field_place, mark_at, behind_mark, is_line, line_in, next_line}
use Rattle.sheet_line.specs.WorkedCases.{WorkedCases}

-- to open this is to open all that its line names
unfoldable computing : ℕ
unfolding all_to first_to text decimal_to digits_at value_at plain_at mark_among line_of mark_bytes line_bytes
    field_place mark_at
    behind_mark is_line line_in next_line
computing = 0

pub worked-hold : WorkedCases
unfolding computing
worked-hold =
    record {
      of-first = refl;
      of_other = refl;
      of_plain = refl;
      of-past = refl;
      of_zero = refl;
      of-shared = refl;
      of-uncounted = refl;
      of-largest = refl;
      first = refl;
      other = refl;
      unmarked = refl;
      middle = refl;
      inside = refl;
      past = refl;
      leading-zero = refl;
      zero-limit = refl;
      eleven-digits = refl;
      feed-alone = refl;
      return_alone = refl;
      no_end = refl;
      six-fields = refl;
      eight-fields = refl;
      empty-field = refl;
      semicolon = refl;
      blank = refl;
    }
