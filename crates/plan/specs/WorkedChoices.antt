-- "Candidates are tried by step number, then higher class, then row"; "the first that passes the
-- stacking plan starts": worked over boards of two rows. The answers come from documents 01 and 02
-- by hand. To be read after Calls. Rests on D79.
use Rattle.std.specs.Prelude.{ℕ, true, false, List, ◌∷◌, replicate}
use Rattle.load.specs.Load.{most_rows}
use Rattle.plan.specs.declared.Look.{Look}
use Rattle.plan.specs.declared.Board.{Board}
use Rattle.plan.specs.Boards.{with_look}
use Rattle.plan.specs.Calls.{ChosenRow}

-- a look of a row with no window ahead: steps finished and in all, cost and release
abbrev pub free : ℕ → ℕ → ℕ → ℕ → Look
free finished steps cost release =
    record {
      finished = finished;
      steps = steps;
      opening = 0;
      cost = cost;
      release = release;
      opened = false;
      left = 0;
      due = 0;
      wait = 0;
      stays = false;
      rest = 0;
      limit = 0;
    }

-- a look of a row whose second and last step of cost 3, from moment 5 on, ends its window
abbrev pub inside : ℕ → Look
inside due =
    record {
      finished = 1;
      steps = 2;
      opening = 1;
      cost = 3;
      release = 5;
      opened = true;
      left = 3;
      due = due;
      wait = 0;
      stays = false;
      rest = 0;
      limit = 0;
    }

-- a zero in every place of a list of a board
abbrev pub zeros : List ℕ
zeros = replicate most_rows 0

-- a board of zeros
abbrev pub no_rows : Board
no_rows =
    record {
      finished = zeros;
      steps = zeros;
      opening = zeros;
      cost = zeros;
      release = zeros;
      opened = replicate most_rows false;
      left = zeros;
      due = zeros;
      wait = zeros;
      stays = replicate most_rows false;
      rest = zeros;
      limit = zeros;
    }

-- a board of two rows, each look in its places
abbrev pub two_rows : Look → Look → Board
two_rows first second =
    with_look (with_look no_rows 0 first) 1 second

-- the classes of two rows
abbrev pub classes : ℕ → ℕ → List ℕ
classes first second = first ∷ second ∷ replicate 22 0

-- one class throughout
abbrev pub one_class : List ℕ
one_class = classes 0 0

-- a board, and which row is chosen
pub record WorkedChoices : Type 0 where
  -- both are ready, and row 1's second step waits for row 2's first
  pub lower-step-first : ChosenRow (two_rows (free 1 2 3 5) (free 0 1 2 0)) one_class 5 2 1
  -- of two first steps the row decides
  pub lower-row-first : ChosenRow (two_rows (free 0 1 3 5) (free 0 1 2 0)) one_class 5 2 0
  -- row 1 is ready at 5 and not before, and then row 2 is tried alone
  pub not-ready : ChosenRow (two_rows (free 0 1 3 5) (free 0 1 2 0)) one_class 4 2 1
  -- a first step is tried before an embedded one, and passes: 5 + 2, then 3 more, is due
  pub embedded-later : ChosenRow (two_rows (inside 10) (free 0 1 2 0)) one_class 5 2 1
  -- one moment less, and it does not pass: the embedded step is chosen
  pub refused-by-plan : ChosenRow (two_rows (inside 9) (free 0 1 2 0)) one_class 5 2 0
  -- a step that would end past 1,000,000 is no candidate
  pub ends-in-time : ChosenRow (two_rows (free 0 1 3 5) (free 1 1 0 0)) one_class 999997 2 0
  pub ends-too-late : ChosenRow (two_rows (free 0 1 3 5) (free 1 1 0 0)) one_class 999998 2 2
  -- where no row is chosen it is the number of rows, at most 24
  pub none-there : ChosenRow no_rows one_class 0 2 2
  pub rows-past : ChosenRow no_rows one_class 0 25 24
  -- a row past its eighth step has no next one, whatever number of steps it tells
  pub steps-past : ChosenRow (two_rows (free 8 9 1 0) (free 1 1 0 0)) one_class 0 2 2
  -- of two first steps that of the higher class comes first, and of two of one class the lower row
  pub higher-class-first : ChosenRow (two_rows (free 0 1 3 5) (free 0 1 2 0)) (classes 0 1) 5 2 1
  pub row-within-class : ChosenRow (two_rows (free 0 1 3 5) (free 0 1 2 0)) (classes 2 2) 5 2 0
  -- a row of the highest class that is not ready keeps no other back
  pub urgent-not-ready : ChosenRow (two_rows (free 0 1 3 5) (free 0 1 2 0)) (classes 3 0) 4 2 1
  -- the step number comes first: an embedded step of class 3 after a first step of class 0
  pub step-before-class : ChosenRow (two_rows (inside 10) (free 0 1 2 0)) (classes 3 0) 5 2 1
  -- a class above 3 is as 3
  pub class-past : ChosenRow (two_rows (free 0 1 3 5) (free 0 1 2 0)) (classes 3 255) 5 2 0
