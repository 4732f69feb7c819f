-- What a board, and the classes beside it, have to say of a load and its bench.
use Rattle.std.specs.Prelude.{ℕ, ◌≤◌, ◌<◌, List, ◌≢◌, ◌≡◌, length}
use Rattle.counting.specs.Lists.{member_at}
use Rattle.load.specs.declared.Load.{Load}
use Rattle.load.specs.Load.{most_rows, most_steps, last_moment, row_at}
use Rattle.load.specs.View.{view_of}
use Rattle.plan.specs.declared.Look.{Look}
use Rattle.plan.specs.Looks.{look_of}
use Rattle.plan.specs.declared.Board.{Board}
use Rattle.plan.specs.Boards.{look_in}
use Rattle.bench.specs.declared.Bench.{Bench}
use Rattle.bench.specs.Held.{state_of}

-- the lists that a start changes have a place for each of 24 rows
pub record Wide (board : Board) : Type 0 where
  pub opened-length : length board.opened ≡ most_rows
  pub release_length : length board.release ≡ most_rows
  pub left-length : length board.left ≡ most_rows
  pub due-length : length board.due ≡ most_rows

-- a board shows every row of a load and its bench as it is looked up, and counts nothing as less
pub record Shows (load : Load) (bench : Bench) (board : Board) : Type 0 where
  pub wide : Wide board
  pub looks : (i : ℕ) → i < load.rows → look_in board i ≡ look_of (view_of load) (state_of bench) i
  pub steps-most : (i : ℕ) → i < load.rows → (look_in board i).steps ≤ most_steps
  pub opening-most : (i : ℕ) → i < load.rows → (look_in board i).opening ≤ last_moment

-- the first rows of a load have those classes
abbrev pub ClassesOf : Load → ℕ → List ℕ → Type 0
ClassesOf load rows classes =
    (i : ℕ) → i < rows → member_at classes i ≡ (row_at load i).class

-- a board has another look of row i, and of the other rows what it had
pub record Renewed (board : Board) (i : ℕ) (look : Look) (after : Board) : Type 0 where
  pub wide : Wide after
  pub same : look_in after i ≡ look
  pub others : (k : ℕ) → k < most_rows → k ≢ i → look_in after k ≡ look_in board k
