-- What the code of the run does at a start.
use Rattle.std.specs.Prelude.{ℕ, ◌+◌, ◌≤◌, ◌<◌, ◌≡◌}
use Rattle.load.specs.declared.Row.{Row}
use Rattle.load.specs.Load.{most_rows, most_steps, last_moment}
use Rattle.plan.specs.declared.Look.{Look}
use Rattle.plan.specs.Looks.{look_by}
use Rattle.plan.specs.declared.Board.{Board}
use Rattle.plan.specs.Boards.{look_in}
use Rattle.plan.specs.Choices.{opening_in}
use Rattle.bench.specs.declared.Started.{Started}
use Rattle.bench.specs.inner.Boards.{Renewed}
use Rattle.bench.specs.inner.Moves.{slot_of}

-- row i, which is that row, once its next step, started at a moment, is over
abbrev pub look_after : Row → Board → ℕ → ℕ → Look
look_after row board clock i =
    look_by row ((look_in board i).finished + 1) (clock + (look_in board i).cost)
    (opening_in board clock i)

-- row i's next step is there and would end by 1,000,000
pub record CanStart (board : Board) (moment i : ℕ) : Type 0 where
  pub place : i < most_rows
  pub more : (look_in board i).finished < most_steps
  pub ends : moment + (look_in board i).cost ≤ last_moment

-- it was started at a moment: its slot, its end, and the board once it is over
pub record RowStarted (row : Row) (board : Board) (i moment : ℕ) (r : Started) (after : Board)
    : Type 0 where
  pub slot_is : r.slot ≡ slot_of i (look_in board i).finished moment
  pub end_is : r.end ≡ moment + (look_in board i).cost
  pub renewed : Renewed board i (look_after row board moment i) after
