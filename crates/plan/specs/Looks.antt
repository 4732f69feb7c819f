-- What is looked up of a row for its next step, so that the search and the plan need not read the
-- load: the row as it stands, and as it will stand once its next step is over. A row taken by
-- itself is seen as a load and a state in which every row is alike. Rests on D79.
use Rattle.std.specs.Prelude.{ℕ, suc}
use Rattle.load.specs.declared.Row.{Row}
use Rattle.load.specs.Load.{step_at}
use Rattle.load.specs.View.{View, row_windows}
use Rattle.rules.specs.State.{State, is_open, open_window}
use Rattle.rules.specs.Ready.{released}
use Rattle.rules.specs.Plan.{due, window_left}
use Rattle.plan.specs.declared.Look.{Look}

-- the view in which every row is that row
abbrev pub view_alike : Row → View
view_alike row =
    record {
      rows = 1;
      phase = λ i. row.phase;
      deadline = λ i. row.deadline;
      steps = λ i. row.steps;
      cost = λ i j. (step_at row j).cost;
      wait = λ i j. (step_at row j).wait;
      windows = λ i. row_windows row;
      class = λ i. row.class;
    }

-- the state in which every row has those numbers
abbrev pub state_alike : ℕ → ℕ → ℕ → ℕ → State
state_alike clock finished end opening =
    record { clock = clock; finished = λ i. finished; end = λ i. end; opening = λ i. opening }

-- the state in which every row has one more step finished
abbrev pub further : State → State
further s =
    record {
      clock = s.clock;
      finished = λ i. suc (s.finished i);
      end = s.end;
      opening = s.opening;
    }

-- what is looked up of row i
unfoldable pub look_of : View → State → ℕ → Look
look_of L s i =
    record {
      finished = s.finished i;
      steps = L.steps i;
      opening = s.opening i;
      cost = L.cost i (s.finished i);
      release = released L s i;
      opened = is_open L s i;
      left = window_left L s i;
      due = due L s i;
      wait = L.wait i (s.finished i);
      stays = is_open L (further s) i;
      rest = window_left L (further s) i;
      limit = (open_window L (further s) i).limit;
    }

-- what is looked up of a row by itself, for so many steps finished, the end of the last of them and
-- the opening
abbrev pub look_by : Row → ℕ → ℕ → ℕ → Look
look_by row finished end opening = look_of (view_alike row) (state_alike 0 finished end opening) 0
