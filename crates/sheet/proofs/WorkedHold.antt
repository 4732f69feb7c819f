-- The worked cases hold: both sides are computed.
use Prim.Native.Nat.{ℕ}
use mathlib.Core.Path.{refl}
use Rattle.counting.specs.Lists.{join_to, join_in}
use Rattle.counting.specs.Sums.{sum_to, all_to, any_to}
use Rattle.counting.specs.Searches.{first_to}
use Rattle.words.specs.Decimal.{text, decimal_to}
use Rattle.words.specs.PlainDecimal.{digits_at, value_at, plain_at}
use Rattle.refusals.specs.FirstMet.{first_fault_to}
use Rattle.load.specs.View.{chain}
use Rattle.load.specs.Load.{zero_row, zero_load}
use Rattle.load.specs.Faults.{row_tests, taken_tests, step_tests, window_tests}
use Rattle.load.specs.Check.{check_parts, row_fault, check_load}
use Rattle.load.specs.Plain.{check_plain}
use Rattle.sheet_line.specs.LineText.{mark_among, line_of, mark_bytes, line_bytes}
use Rattle.sheet_line.specs.Line.{field_place, mark_at, behind_mark, is_line, line_in, next_line}
use Rattle.sheet.specs.Lines.{line_place, lines_in}
use Rattle.sheet.specs.LineFaults.{line_tests, line_fault, lines_fault}
use Rattle.sheet.specs.SheetRows.{
  steps_from,
  dashes_behind,
  windows_of,
  row_of,
  row_place,
  rows_in,
  load_in_sheet,
}
use Rattle.sheet.specs.Reading.{sheet_fault, read_sheet}
use Rattle.sheet.specs.Writing.{row_lines, sheet_bytes}
use Rattle.sheet.specs.WorkedSheets.{sheet_of, numbers_read, load_b, WorkedSheets}
use Rattle.sheet.specs.WorkedCases.{WorkedCases}
use Rattle.sheet.specs.WorkedRanges.{rows_of_one, WorkedRanges}
use Rattle.sheet.specs.WorkedUrgent.{WorkedUrgent}

-- to open this is to open all that its line names
unfoldable pub computing : ℕ
unfolding join_to join_in sum_to all_to any_to first_to text decimal_to digits_at value_at plain_at first_fault_to
    chain zero_row
    zero_load row_tests taken_tests step_tests window_tests check_parts row_fault check_load check_plain
    mark_among line_of
    mark_bytes line_bytes field_place mark_at behind_mark is_line line_in next_line line_place lines_in
    line_tests line_fault
    lines_fault steps_from dashes_behind windows_of row_of row_place rows_in load_in_sheet sheet_fault
    read_sheet row_lines
    sheet_bytes sheet_of numbers_read load_b rows_of_one
computing = 0

pub sheets-hold : WorkedSheets
unfolding computing
sheets-hold =
    record {
      written = record { length-is = refl; output-is = refl };
      room-more = record { length-is = refl; output-is = refl };
      room-less = record { length-is = refl; output-is = refl };
      none_written = record { length-is = refl; output-is = refl };
      none_read = refl;
      read = refl;
      refused = refl;
      windows = refl;
      malformed = refl;
      line-ends = refl;
    }

pub cases-hold : WorkedCases
unfolding computing
cases-hold =
    record {
      differs = refl;
      dashes = refl;
      on-one-line = refl;
      in-line-order = refl;
    }

pub ranges-hold : WorkedRanges
unfolding computing
ranges-hold =
    record {
      wide = refl;
      out_of_range = refl;
      of-the-load = refl;
      first-row = refl;
      factory = refl;
      rows = refl;
    }

pub urgent-hold : WorkedUrgent
unfolding computing
urgent-hold =
    record {
      plain = record { length-is = refl; output-is = refl };
      with-room = record { length-is = refl; output-is = refl };
      room-less = record { length-is = refl; output-is = refl };
      no_room = record { length-is = refl; output-is = refl };
      last_row = record { length-is = refl; output-is = refl };
      class-four = record { length-is = refl; output-is = refl };
      head-two = record { length-is = refl; output-is = refl };
      own_first = record { length-is = refl; output-is = refl };
      read = refl;
      read-classes = refl;
      read-heads = refl;
    }
