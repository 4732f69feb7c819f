-- "Loads to try": "Costs and waits are written in turn, waits as w. Unless given, phases are 0 and
-- deadlines 1,000,000; identifiers are 101, 102 and so on by row, boxes 201, 202 and so on." Loads
-- are written so in the worked cases; unless given, classes are 0 and heads 1. To be read after
-- Load.
use Rattle.std.specs.Prelude.{ℕ, ◌+◌, ◌-◌, List, ◌++◌, length, replicate}
use Rattle.load.specs.declared.Step.{Step}
use Rattle.load.specs.declared.Window.{Window}
use Rattle.load.specs.declared.Row.{Row}
use Rattle.load.specs.declared.Load.{Load}
use Rattle.load.specs.Load.{only_head, no_step, no_window, zero_row}

infix 80 ◌w◌
-- a step of cost c with a wait of n behind it
abbrev pub ◌w◌ : ℕ → ℕ → Step
c w n = record { cost = c; wait = n }

-- a window from its first step to its last, with its limit
abbrev pub window : ℕ → ℕ → ℕ → Window
window first last limit = record { first = first; last = last; limit = limit }

-- a list in so many places, those behind it zero
abbrev pub padded : {A : Type 0} → ℕ → A → List A → List A
padded places zeros l = l ++ replicate (places - length l) zeros

-- a row with everything given: its numbers, how many places are used, and what the places hold
abbrev pub row_placed : ℕ → ℕ → ℕ → ℕ → ℕ → ℕ → List Step → List Window → Row
row_placed identifier box phase deadline steps windows step window =
    record {
      identifier = record { 0 = identifier };
      box_number = record { 0 = box };
      phase = phase;
      deadline = deadline;
      steps = steps;
      windows = windows;
      class = 0;
      head = only_head;
      step = padded 8 no_step step;
      window = padded 4 no_window window;
    }

-- a row with another class and another head
abbrev pub classed : ℕ → ℕ → Row → Row
classed class head row =
    record {
      identifier = row.identifier;
      box_number = row.box_number;
      phase = row.phase;
      deadline = row.deadline;
      steps = row.steps;
      windows = row.windows;
      class = class;
      head = head;
      step = row.step;
      window = row.window;
    }

-- a row whose places are used as far as they are given
abbrev pub row_with : ℕ → ℕ → ℕ → ℕ → List Step → List Window → Row
row_with identifier box phase deadline steps windows =
    row_placed identifier box phase deadline (length steps) (length windows) steps windows

-- row n, counted from 1, with its phase and its deadline
abbrev pub row_by : ℕ → ℕ → ℕ → List Step → List Window → Row
row_by n phase deadline steps windows = row_with (100 + n) (200 + n) phase deadline steps windows

-- row n, counted from 1
abbrev pub row : ℕ → List Step → List Window → Row
row n steps windows = row_by n 0 1000000 steps windows

-- a load that uses so many rows, and what its places hold
abbrev pub load_placed : ℕ → List Row → Load
load_placed n rows = record { rows = n; row = padded 24 zero_row rows }

-- a load of some rows
abbrev pub load_of : List Row → Load
load_of rows = load_placed (length rows) rows
