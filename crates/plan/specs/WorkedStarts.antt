-- "Idle moves the clock one tick" until a candidate passes: which row starts next, and when, worked
-- over boards of two rows. The answers come from documents 01 and 02 by hand, tick by tick. To be
-- read after WorkedChoices.
use Rattle.std.specs.Prelude.{ℕ, true, false}
use Rattle.plan.specs.declared.Look.{Look}
use Rattle.plan.specs.declared.Chosen.{Chosen}
use Rattle.plan.specs.Calls.{NextStart}
use Rattle.plan.specs.WorkedChoices.{free, inside, two_rows, classes, one_class}

-- a look of a row whose first step of cost 2, ready from the start, opens a window: after a wait a
-- second step of cost 4 is left of it, and then it is over; limits are at least 6 and the wait
abbrev pub opening : ℕ → ℕ → Look
opening wait limit =
    record {
      finished = 0;
      steps = 2;
      opening = 0;
      cost = 2;
      release = 0;
      opened = false;
      left = 0;
      due = 0;
      wait = wait;
      stays = true;
      rest = 4;
      limit = limit;
    }

-- a row, and the moment at which it starts
abbrev pub start_of : ℕ → ℕ → Chosen
start_of row moment = record { row = row; moment = moment }

-- a board and a clock, and what starts next; `inside` is open, ready at 5, and takes 3
pub record WorkedStarts : Type 0 where
  -- at the clock itself, where a step passes there
  pub now : NextStart (two_rows (free 0 1 3 5) (free 0 1 2 0)) one_class 4 2 (start_of 1 4)
  -- at the release of the next step that is allowed, and not before
  pub released : NextStart (two_rows (free 0 1 3 5) (free 1 1 0 0)) one_class 0 2 (start_of 0 5)
  -- where nothing starts up to 1,000,000, no row and that moment
  pub never :
      NextStart (two_rows (free 0 1 3 5) (free 1 1 0 0)) one_class 999998 2 (start_of 2 1000000)
  -- past it, the clock
  pub clock-past :
      NextStart (two_rows (free 0 1 3 5) (free 1 1 0 0)) one_class 1000001 2 (start_of 2 1000001)
  -- a step that opens no window ends at 3 at best, row 1 then at 8, due at 7: row 1 starts first
  pub refused-free : NextStart (two_rows (inside 7) (free 0 1 3 0)) one_class 0 2 (start_of 0 5)
  -- row 1 is finished at 8 whenever row 2 opens, and due at 6 before it: row 1 starts first
  pub refused-before : NextStart (two_rows (inside 6) (opening 1 20)) one_class 0 2 (start_of 0 5)
  -- row 1, due at 8 as row 2 would be, comes first: 2, 3 and 4 are more than a limit of 8, always
  pub refused-crowded : NextStart (two_rows (inside 8) (opening 1 8)) one_class 0 2 (start_of 0 5)
  -- row 1 is finished at 8, row 2 at 12: from 1 on that is in time
  pub refused-own : NextStart (two_rows (inside 8) (opening 1 11)) one_class 0 2 (start_of 1 1)
  -- row 2 first, finished at 16, makes row 1 late; due with it from 1 on, row 2 comes second
  pub refused-behind : NextStart (two_rows (inside 17) (opening 10 16)) one_class 0 2 (start_of 1 1)
  -- the lower row comes first while they are due together, and so it is one moment more
  pub refused-tie : NextStart (two_rows (opening 10 16) (inside 17)) one_class 0 2 (start_of 0 2)
  -- of two that may start at one moment that of the higher class starts, and else the sooner
  pub urgent-first :
      NextStart (two_rows (free 0 1 3 5) (free 0 1 2 5)) (classes 0 1) 0 2 (start_of 1 5)
  pub sooner-first :
      NextStart (two_rows (free 0 1 3 5) (free 0 1 2 4)) (classes 3 0) 0 2 (start_of 1 4)
