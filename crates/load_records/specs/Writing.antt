-- "Load file": "Header, then each row with its steps and then its windows, then the end record and
-- nothing more." What is refused that is to be written: the load's own numbers and, as version 1,
-- 22. To be read after Records. Rests on D92.
use Rattle.std.specs.Prelude.{ℕ, min, cond, List, ◌++◌}
use Rattle.counting.specs.Lists.{join_to}
use Rattle.refusals.specs.Checked.{Checked}
use Rattle.load.specs.declared.Row.{Row}
use Rattle.load.specs.declared.Load.{Load}
use Rattle.load.specs.Load.{most_steps, most_windows, row_at, step_at, window_at}
use Rattle.load.specs.View.{view_of, steps_in_all}
use Rattle.load.specs.Check.{check_load}
use Rattle.load.specs.Plain.{check_plain}
use Rattle.load_records.specs.Records.{
  carries,
  header_record,
  row_record,
  step_record,
  window_record,
  end_record,
}

-- a row with its steps and then its windows, in a version
unfoldable pub row_bytes : ℕ → Row → List ℕ
row_bytes v row =
    row_record v row
    ++ join_to (λ j. step_record (step_at row j)) row.steps
    ++ join_to (λ k. window_record (window_at row k)) row.windows

-- a row in memory with no more steps and windows than have a place: more count as 8 and 4
unfoldable pub counted_row : Row → Row
counted_row row =
    record {
      identifier = row.identifier;
      box_number = row.box_number;
      phase = row.phase;
      deadline = row.deadline;
      steps = min row.steps most_steps;
      windows = min row.windows most_windows;
      class = row.class;
      head = row.head;
      step = row.step;
      window = row.window;
    }

-- the file of a load, in a version
unfoldable pub load_bytes : ℕ → Load → List ℕ
load_bytes v load =
    header_record v load.rows
    ++ join_to (λ i. row_bytes v (row_at load i)) load.rows
    ++ end_record (steps_in_all (view_of load))

-- what a load is refused for that is to be written in a version: a version that carries no class
-- and no head refuses with 22 what is not class 0 and head 1
abbrev pub write_fault : ℕ → Load → Checked
write_fault v load = cond (carries v) (check_load load) (check_plain load)
