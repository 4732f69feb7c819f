-- The worked cases hold: each is decided by computing.
use Prim.Native.Nat.{ℕ}
use mathlib.Core.Path.{refl}
use Rattle.counting.specs.Sums.{sum_to, all_to, any_to}
use Rattle.counting.specs.Lists.{join_to, join_in}
use Rattle.words.specs.LittleEndian.{little_endian}
use Rattle.refusals.specs.FirstMet.{first_fault_to}
use Rattle.load.specs.Load.{zero_row}
use Rattle.load.specs.View.{view_of, chain}
use Rattle.load.specs.Faults.{row_tests, taken_tests, step_tests, window_tests}
use Rattle.load.specs.Check.{check_parts, row_fault, check_load}
use Rattle.load.specs.Plain.{check_plain}
use Rattle.load_records.specs.Writing.{row_bytes, counted_row, load_bytes}
use Rattle.load_records.specs.WorkedFile.{joined, file, file2, spelled2}
use Rattle.load_records.specs.WorkedCases.{overfull, WorkedCases}

-- to open this is to open all that its line names
unfoldable computing : ℕ
unfolding sum_to all_to any_to join_to join_in little_endian first_fault_to zero_row view_of chain row_tests
    taken_tests step_tests
    window_tests check_parts row_fault check_load row_bytes counted_row load_bytes joined file file2 spelled2 overfull
    check_plain
computing = 0

pub worked-hold : WorkedCases
unfolding computing
worked-hold =
    record {
      records = refl;
      records-counted = refl;
      size = refl;
      size2 = refl;
      written = record { finding-is = refl; output-is = refl };
      room-more = record { finding-is = refl; output-is = refl };
      room-less = record { finding-is = refl; output-is = refl };
      written2 = record { finding-is = refl; output-is = refl };
      room-less2 = record { finding-is = refl; output-is = refl };
      urgent2 = record { finding-is = refl; output-is = refl };
      urgent = record { finding-is = refl; output-is = refl };
      urgent-no-room = record { finding-is = refl; output-is = refl };
      urgent-size = refl;
      class-out = record { finding-is = refl; output-is = refl };
      head-out = record { finding-is = refl; output-is = refl };
      row-sizes = (refl, refl);
    }
