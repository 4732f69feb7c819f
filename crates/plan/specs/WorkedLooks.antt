-- What is looked up of a row, worked: a row before its window, inside it, and past all numbers that
-- a load has. The answers come by hand from document 01 and D79. To be read after Calls.
use Rattle.std.specs.Prelude.{true, false, [], ◌∷◌}
use Rattle.load.specs.declared.Row.{Row}
use Rattle.load.specs.Load.{no_window}
use Rattle.load.specs.Notation.{◌w◌, window, row_by}
use Rattle.plan.specs.Calls.{OpenWindow, LookOf, OpeningAfter}

-- three steps from moment 7 on, the first two in a window
abbrev pub lent : Row
lent = row_by 1 7 1000000 (2 w 4 ∷ 3 w 5 ∷ 1 w 0 ∷ []) (window 1 2 20 ∷ [])

-- a row by itself
pub record WorkedLooks : Type 0 where
  -- a window is open from its first step's end to its last step's
  pub shut-before : OpenWindow lent 0 no_window
  pub open-inside : OpenWindow lent 1 (window 1 2 20)
  pub shut-behind : OpenWindow lent 2 no_window
  -- before its first step a row waits for its phase, and that step opens the window
  pub looked-before :
      LookOf lent 0 0 0
      (record {
        finished = 0;
        steps = 3;
        opening = 0;
        cost = 2;
        release = 7;
        opened = false;
        left = 0;
        due = 0;
        wait = 4;
        stays = true;
        rest = 3;
        limit = 20;
      })
  -- inside it waits from the end of the step before, and the next step closes the window
  pub looked-inside :
      LookOf lent 1 9 7
      (record {
        finished = 1;
        steps = 3;
        opening = 7;
        cost = 3;
        release = 13;
        opened = true;
        left = 3;
        due = 27;
        wait = 5;
        stays = false;
        rest = 0;
        limit = 0;
      })
  -- steps past 8 count as 8, and moments past 1,000,000 as 1,000,000
  pub looked-past :
      LookOf lent 200 1000001 4294967295
      (record {
        finished = 8;
        steps = 3;
        opening = 1000000;
        cost = 0;
        release = 1000000;
        opened = false;
        left = 0;
        due = 1000000;
        wait = 0;
        stays = false;
        rest = 0;
        limit = 0;
      })
  -- a window that stays open keeps its opening, one that opens has the clock, else there is none
  pub opening-kept : OpeningAfter true true 5 9 5
  pub opening-new : OpeningAfter true false 5 9 9
  pub opening-none : OpeningAfter false true 5 9 0
  pub opening_past : OpeningAfter true true 1000001 9 1000000
  pub clock-past : OpeningAfter true false 5 1000001 1000001
