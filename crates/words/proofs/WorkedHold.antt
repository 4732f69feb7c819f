-- The worked cases hold: both sides are computed.
use mathlib.Core.Path.{refl}
use Rattle.counting.specs.Searches.{first_to}
use Rattle.counting.specs.Sums.{sum_to}
use Rattle.words.specs.LittleEndian.{little_endian, number_at}
use Rattle.words.specs.Decimal.{text, decimal_to}
use Rattle.words.specs.PlainDecimal.{digits_at, value_at, plain_at}
use Rattle.words.specs.WorkedCases.{WorkedCases}

pub worked-hold : WorkedCases
unfolding sum_to little_endian number_at text decimal_to first_to digits_at value_at plain_at
worked-hold =
    record {
      spelled = refl;
      spelled-in-two = refl;
      read = refl;
      read_past = refl;
      lamps = refl;
      complements = refl;
      decimals = refl;
      signed = refl;
      zeros-read = refl;
      ten-read = refl;
      ends_read = refl;
      middle-read = refl;
      values-read = refl;
      most-read = refl;
    }
