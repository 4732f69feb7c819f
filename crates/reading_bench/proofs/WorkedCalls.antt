-- The worked cases of the calls for C hold, by computing, from the bytes of the file on.
use Prim.Native.Nat.{ℕ}
use mathlib.Core.List.{List, [], ◌∷◌}
use mathlib.Core.Path.{◌≡◌, refl}
use Rattle.words.specs.LittleEndian.{number_at}
use Rattle.refusals.specs.declared.Refusal.TheVariants.{OutputShort, EndDiffers}
use Rattle.refusals.specs.Checked.{Checked}
use Rattle.std.specs.Prelude.{Ok, Err}
use Rattle.refusals.specs.FirstMet.{first_fault}
use Rattle.refusals.specs.Refusals.{number_given}
use Rattle.refusals.specs.Given.{if_good, written, room_for}
use Rattle.load.specs.Load.{zero_load}
use Rattle.load_file.specs.Places.{row_with, row_from, row_place, load_in}
use Rattle.load_file.specs.Reading.{
  header_tests,
  own_fault,
  step_fault_in,
  window_fault_in,
  row_fault_at,
  end_tests,
  file_fault,
}
use Rattle.rules.specs.State.{fresh}
use Rattle.rules.specs.Run.{starts_by, schedule_by}
use Rattle.rules.proofs.worked.WorkedComputing.{computing}
use Rattle.schedule_file.specs.ScheduleFile.{schedule_bytes}
use Rattle.reading_bench.specs.Calls.{Numbered}
use Rattle.reading_bench.specs.WorkedCalls.{WorkedCalls}

-- to open this is to open all that its line names
unfoldable reading : ℕ
unfolding computing number_at zero_load row_with row_from row_place load_in header_tests own_fault step_fault_in
    window_fault_in
    row_fault_at end_tests file_fault fresh starts_by schedule_by schedule_bytes
reading = 0

told : {finding : Checked} {answer out : List ℕ} {r : ℕ} {after : List ℕ} (found : Checked)
    → found ≡ first_fault (finding ∷ room_for answer out ∷ []) → after ≡ if_good found (written answer out) out
    → r ≡ number_given found → Numbered finding answer out r after
told found e a n = record { found = found; given = record { finding-is = e; output-is = a }; number_is = n }

pub worked-calls : WorkedCalls
unfolding reading
worked-calls =
    record {
      bound-bytes = told (Ok tt) refl refl refl;
      bound-room = told (Ok tt) refl refl refl;
      bound-short = told (Err OutputShort) refl refl refl;
      verdict-yes = told (Ok tt) refl refl refl;
      verdict-no = told (Ok tt) refl refl refl;
      verdict-room = told (Ok tt) refl refl refl;
      verdict-short = told (Err OutputShort) refl refl refl;
      margin-bytes = told (Ok tt) refl refl refl;
      margin-room = told (Ok tt) refl refl refl;
      margin-short = told (Err OutputShort) refl refl refl;
      schedule-bytes = told (Ok tt) refl refl refl;
      schedule-room = told (Ok tt) refl refl refl;
      schedule-short = told (Err OutputShort) refl refl refl;
      file-first = told (Err EndDiffers) refl refl refl;
      refused-alone = told (Err EndDiffers) refl refl refl;
    }
