-- The worked cases hold: each is decided by computing.
use Prim.Native.Nat.{ℕ}
use mathlib.Core.Path.{refl}
use Rattle.counting.specs.Sums.{sum_to, all_to, any_to}
use Rattle.counting.specs.Lists.{join_to, join_in}
use Rattle.words.specs.LittleEndian.{little_endian, number_at}
use Rattle.refusals.specs.FirstMet.{first_fault_to}
use Rattle.load.specs.Load.{zero_row, zero_load}
use Rattle.load.specs.View.{view_of, chain}
use Rattle.load.specs.Faults.{row_tests, taken_tests, step_tests, window_tests}
use Rattle.load_records.specs.WorkedFile.{joined, file, file2, spelled2}
use Rattle.load_file.specs.Places.{row_with, row_from, row_place, load_in}
use Rattle.load_file.specs.Reading.{
  header_tests,
  step_fault_in,
  window_fault_in,
  own_fault,
  row_fault_at,
  end_tests,
  file_fault,
  read_load,
}
use Rattle.load_file.specs.WorkedCases.{numbers_read, WorkedCases}
use Rattle.load_file.specs.WorkedVersions.{WorkedVersions}

-- to open this is to open all that its line names
unfoldable computing : ℕ
unfolding sum_to all_to any_to join_to join_in little_endian number_at first_fault_to zero_row zero_load view_of
    chain row_tests
    taken_tests step_tests window_tests row_with row_from row_place load_in header_tests step_fault_in
    window_fault_in own_fault
    row_fault_at end_tests file_fault read_load joined numbers_read file file2 spelled2
computing = 0

pub worked-hold : WorkedCases
unfolding computing
worked-hold =
    record {
      read = refl;
      refused = refl;
      ends-early = refl;
      row-too-many = refl;
      cut-before-mark = refl;
      marks = refl;
      marks-first = refl;
      versions = refl;
      ends = refl;
      shared = refl;
      front-to-back = refl;
    }

pub versions-hold : WorkedVersions
unfolding computing
versions-hold =
    record {
      read = refl;
      read_plain = refl;
      empty = refl;
      ranges = refl;
      exchanged = refl;
      fields-first = refl;
      cut = refl;
      other-header = refl;
    }
