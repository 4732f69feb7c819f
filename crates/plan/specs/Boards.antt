-- The board: what is looked up of every row of a load, one list a number, so that the search and
-- the plan read plain lists. To be read after Looks. Rests on D81.
use Rattle.std.specs.Prelude.{ℕ, set}
use Rattle.counting.specs.Lists.{member_at, is_marked}
use Rattle.plan.specs.declared.Look.{Look}
use Rattle.plan.specs.declared.Board.{Board}

-- what a board has of row i
abbrev pub look_in : Board → ℕ → Look
look_in board i =
    record {
      finished = member_at board.finished i;
      steps = member_at board.steps i;
      opening = member_at board.opening i;
      cost = member_at board.cost i;
      release = member_at board.release i;
      opened = is_marked board.opened i;
      left = member_at board.left i;
      due = member_at board.due i;
      wait = member_at board.wait i;
      stays = is_marked board.stays i;
      rest = member_at board.rest i;
      limit = member_at board.limit i;
    }

-- a board with another look of row i
abbrev pub with_look : Board → ℕ → Look → Board
with_look board i look =
    record {
      finished = set board.finished i look.finished;
      steps = set board.steps i look.steps;
      opening = set board.opening i look.opening;
      cost = set board.cost i look.cost;
      release = set board.release i look.release;
      opened = set board.opened i look.opened;
      left = set board.left i look.left;
      due = set board.due i look.due;
      wait = set board.wait i look.wait;
      stays = set board.stays i look.stays;
      rest = set board.rest i look.rest;
      limit = set board.limit i look.limit;
    }
