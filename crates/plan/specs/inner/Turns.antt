-- How far the rows have been gone through, by step number, then class, then row: the rows of one
-- step number are tried in turns, as many as there are classes, the highest class first. To be read
-- after Searching.
use Rattle.std.specs.Prelude.{ℕ, ◌+◌, ◌≤◌, ◌<◌, true, false, List, ◌≡◌}
use Rattle.counting.specs.Searches.{at}
use Rattle.load.specs.Load.{most_rows, last_moment}
use Rattle.plan.specs.declared.Swept.{Swept}
use Rattle.plan.specs.declared.Board.{Board}
use Rattle.plan.specs.Boards.{look_in}
use Rattle.plan.specs.Choices.{candidate_in, passes_in, turn_in, chosen_in}

-- no row has a turn before the first
abbrev pub FirstTurn : List ℕ → ℕ → Type 0
FirstTurn classes first = (i : ℕ) → i < most_rows → first ≤ turn_in classes i

-- at a moment the rows that come before a step number, or before a turn with that number, are
-- passed over
pub record PassedTo (board : Board) (classes : List ℕ) (rows number turn moment : ℕ) : Type 0 where
  pub steps : (k : ℕ) → k < rows → (look_in board k).finished < number
      → candidate_in board moment rows k ≡ true → passes_in board moment rows k ≡ false
  pub turns : (k : ℕ) → k < rows → (look_in board k).finished ≡ number → turn_in classes k < turn
      → candidate_in board moment rows k ≡ true → passes_in board moment rows k ≡ false

-- and so are the first i rows with that number whose turn is before the next
pub record PassedRows (board : Board) (classes : List ℕ) (rows number turn next i moment : ℕ)
    : Type 0 where
  pub to : PassedTo board classes rows number turn moment
  pub row : (k : ℕ) → k < i → (look_in board k).finished ≡ number → turn_in classes k < next
      → candidate_in board moment rows k ≡ true → passes_in board moment rows k ≡ false

-- from the clock on and before the soonest moment, at which the row is chosen that was found, rows
-- are passed over; where none was found, that is the moment before which it was looked for
pub record SweptTo (board : Board) (classes : List ℕ) (clock before rows : ℕ)
    (Passed : ℕ → Type 0) (row soonest : ℕ) : Type 0 where
  pub most : soonest ≤ before
  pub quiet : (t : ℕ) → clock ≤ t → t < soonest → Passed t
  pub from : row < rows → clock ≤ soonest
  pub found : row < rows → chosen_in board classes soonest rows ≡ at row
  pub earlier : row < rows → soonest < before
  pub none_yet : rows ≤ row → soonest ≡ before
  pub row-most : row ≤ rows

-- the rows with a step number and of one turn were asked, from a row and a moment that were found
-- before on: the next turn is after it, and the rows up to that are swept
pub record SweptOn (board : Board) (classes : List ℕ) (clock rows number turn row soonest : ℕ)
    (r : Swept) : Type 0 where
  pub later : turn < r.next
  pub on : (before : ℕ)
      → SweptTo board classes clock before rows (PassedTo board classes rows number turn)
      row soonest
      → SweptTo board classes clock before rows (PassedTo board classes rows number r.next)
      r.row r.moment

-- a moment by that past 1,000,000, before which a row starts, or which is that one: not every row
-- is passed over at every moment from the clock on and before it
pub record StartsBefore (board : Board) (clock rows r : ℕ) : Type 0 where
  pub most : r ≤ last_moment + 1
  pub starts : r ≤ last_moment
      → ((t i : ℕ) → clock ≤ t → t < r → i < rows
      → candidate_in board t rows i ≡ true → passes_in board t rows i ≡ false)
      → ⊥
