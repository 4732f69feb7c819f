-- One name that opens every definition of document 01, those of the rules by a name of their own, so that a worked load
-- is decided by computing.
use Prim.Native.Nat.{ℕ}
use Rattle.words.specs.LittleEndian.{number_at}
use Rattle.words.specs.Decimal.{text, decimal_to}
use Rattle.load.specs.Load.{zero_load}
use Rattle.load_records.specs.Writing.{row_bytes, load_bytes}
use Rattle.load_file.specs.Places.{row_with, row_from, row_place, load_in}
use Rattle.load_file.specs.Reading.{
  header_tests,
  own_fault,
  step_fault_in,
  window_fault_in,
  row_fault_at,
  end_tests,
  file_fault,
  read_load,
}
use Rattle.rules.specs.State.{fresh}
use Rattle.rules.specs.Run.{state_after_by, starts_by, schedule_by}
use Rattle.rules.specs.Slots.{last_end}
use Rattle.rules.proofs.worked.WorkedComputing.{computing as computing_rules}
use Rattle.schedule_file.specs.ScheduleFile.{schedule_bytes}
use Rattle.lines.specs.Lines.{
  spaced,
  first_line_of,
  load_line,
  row_line_of,
  row_line,
  slot_line,
  load_lines,
  refused_line,
  printed_by,
}
use Rattle.demands.specs.Notation.{pairs, hex, bytes_of, lines_of}

-- to open this is to open all that its line names
unfoldable pub computing : ℕ
unfolding computing_rules number_at text decimal_to zero_load row_bytes load_bytes row_with row_from row_place load_in
    header_tests step_fault_in window_fault_in own_fault row_fault_at end_tests file_fault read_load fresh
    state_after_by starts_by
    schedule_by last_end schedule_bytes spaced first_line_of load_line row_line_of row_line slot_line
    load_lines refused_line
    printed_by pairs hex bytes_of lines_of
computing = 0
