-- "A load": its ranges, the parts that stand at a place, and the parts that are all zero.
use Rattle.std.specs.Prelude.{ℕ, ◌+◌, [], get_or, replicate}
use Rattle.load.specs.declared.Step.{Step}
use Rattle.load.specs.declared.Window.{Window}
use Rattle.load.specs.declared.Row.{Row}
use Rattle.load.specs.declared.Load.{Load}

-- 0 to 24 rows
abbrev pub most_rows : ℕ
most_rows = 24

-- 1 to 8 steps
abbrev pub most_steps : ℕ
most_steps = 8

-- 0 to 4 windows
abbrev pub most_windows : ℕ
most_windows = 4

-- a class is 0 to 3 (2026-05)
abbrev pub most_class : ℕ
most_class = 3

-- a head "must be 1 for now" (2026-05)
abbrev pub only_head : ℕ
only_head = 1

-- an identifier is 1 to 4,294,967,295, a box number in the same range
abbrev pub largest_number : ℕ
largest_number = 4294967295

-- what "after a battery swap the newer loggers report" as their identifier (2026-04)
abbrev pub factory_identifier : ℕ
factory_identifier = 4294967295

-- a phase is 0 to 86,400
abbrev pub latest_phase : ℕ
latest_phase = 86400

-- a deadline is 1 to 1,000,000, and the bench clock goes no further
abbrev pub last_moment : ℕ
last_moment = 1000000

-- a cost is 1 to 600
abbrev pub largest_cost : ℕ
largest_cost = 600

-- a wait is 0 to 3,600
abbrev pub largest_wait : ℕ
largest_wait = 3600

-- a limit is 1 to 65,535
abbrev pub largest_limit : ℕ
largest_limit = 65535

-- a row or a step as it is shown, counted from 1, of its place, counted from 0
abbrev pub shown : ℕ → ℕ
shown place = place + 1

-- what is read where there is no step
abbrev pub no_step : Step
no_step = record { cost = 0; wait = 0 }

-- what is read where there is no window
abbrev pub no_window : Window
no_window = record { first = 0; last = 0; limit = 0 }

-- what is read where there is no row
abbrev pub no_row : Row
no_row =
    record {
      identifier = record { 0 = 0 };
      box_number = record { 0 = 0 };
      phase = 0;
      deadline = 0;
      steps = 0;
      windows = 0;
      class = 0;
      head = 0;
      step = [];
      window = [];
    }

-- the step at a place of a row
abbrev pub step_at : Row → ℕ → Step
step_at row j = get_or row.step j no_step

-- the window at a place of a row
abbrev pub window_at : Row → ℕ → Window
window_at row k = get_or row.window k no_window

-- the row at a place of a load
abbrev pub row_at : Load → ℕ → Row
row_at load i = get_or load.row i no_row

-- the row that an unused place holds
unfoldable pub zero_row : Row
zero_row =
    record {
      identifier = record { 0 = 0 };
      box_number = record { 0 = 0 };
      phase = 0;
      deadline = 0;
      steps = 0;
      windows = 0;
      class = 0;
      head = 0;
      step = replicate most_steps no_step;
      window = replicate most_windows no_window;
    }

-- the load of zeros: no row, and every place unused
unfoldable pub zero_load : Load
unfolding zero_row
zero_load = record { rows = 0; row = replicate most_rows zero_row }
