-- The search for the next start: the lowest unfinished step, the step numbers that are tried, and
-- until when each row is known to be refused. To be read after Passing.
use Rattle.std.specs.Prelude.{ℕ, ◌+◌, min, ◌≤◌, ◌<◌, Bool, true, false, ◌&&◌, ◌||◌, List, ◌≡◌, eqb}
use Rattle.std.specs.Prelude.{leb, ltb, length, Option, MatchOption}
use Rattle.counting.specs.Sums.{all_to}
use Rattle.counting.specs.Lists.{member_at, is_marked}
use Rattle.load.specs.Load.{most_rows, most_steps, last_moment}
use Rattle.plan.specs.declared.Board.{Board}
use Rattle.plan.specs.Boards.{look_in}
use Rattle.plan.specs.Choices.{candidate_in, passes_in}
use Rattle.plan.specs.Calls.{ChosenRow}

-- row k has finished all its steps below place j
abbrev pub below_by : List ℕ → List ℕ → ℕ → ℕ → Bool
below_by finished steps j k = leb (min j (member_at steps k)) (member_at finished k)

-- r is the lowest step that some row has not finished, 8 where there is none: the rows have
-- finished all their steps below a place exactly where that is not after it
pub record LowestStep (finished steps : List ℕ) (rows r : ℕ) : Type 0 where
  pub most : r ≤ most_steps
  pub below : (j : ℕ) → j ≤ most_steps → all_to (below_by finished steps j) rows ≡ leb j r

-- a row's next step has that number, is there, and is allowed: the lowest unfinished step, or
-- embedded
abbrev pub tried_by : ℕ → ℕ → Bool → ℕ → ℕ → Bool
tried_by finished steps opened number lowest =
    eqb finished number && ltb number steps && (eqb number lowest || opened)

-- the same of row i
abbrev pub tried_in : Board → ℕ → ℕ → ℕ → Bool
tried_in board number lowest i =
    tried_by (look_in board i).finished (look_in board i).steps (look_in board i).opened number
    lowest

-- the same with the number that its next step has, which is one of the first eight
pub record TriedRow (finished steps : List ℕ) (opened : List Bool) (lowest i : ℕ) : Type 0 where
  pub number : member_at finished i < most_steps
  pub tried : tried_by (member_at finished i) (member_at steps i) (is_marked opened i)
      (member_at finished i) lowest ≡ true

-- every number of the first eight that a row is tried with is marked
pub record NumbersIn (finished : List ℕ) (opened : List Bool) (lowest rows : ℕ)
    (numbers : List Bool) : Type 0 where
  pub long : length numbers ≡ most_steps
  pub of-lowest : lowest < most_steps → is_marked numbers lowest ≡ true
  pub of-open : (i : ℕ) → i < rows → is_marked opened i ≡ true → member_at finished i < most_steps
      → is_marked numbers (member_at finished i) ≡ true

-- from the clock on, each row is known to be refused until its moment
pub record RefusedTo (board : Board) (clock rows : ℕ) (until : List ℕ) : Type 0 where
  pub long : length until ≡ most_rows
  pub refused : (i : ℕ) → i < rows → (t : ℕ) → clock ≤ t → t < member_at until i
      → candidate_in board t rows i ≡ true → passes_in board t rows i ≡ false

-- r is the clock where row i's next step would end by 1,000,000 and passes there, else a later
-- moment; before it the plan refuses the step, or it would end too late
pub record TriedUntil (board : Board) (clock rows i r : ℕ) : Type 0 where
  pub from : clock ≤ r
  pub ends : r ≡ clock → clock + (look_in board i).cost ≤ last_moment
  pub passes : r ≡ clock → passes_in board clock rows i ≡ true
  pub refused : (t : ℕ) → clock ≤ t → t < r → t + (look_in board i).cost ≤ last_moment
      → passes_in board t rows i ≡ false

-- r is the first moment from one on and before another at which row i's next step would end by
-- 1,000,000 and passes, and the other where there is none
pub record PassesFirst (board : Board) (from before rows i r : ℕ) : Type 0 where
  pub most : r ≤ before
  pub starts : r < before → from ≤ r
  pub ends : r < before → r + (look_in board i).cost ≤ last_moment
  pub passes : r < before → passes_in board r rows i ≡ true
  pub refused : (t : ℕ) → from ≤ t → t < r → t + (look_in board i).cost ≤ last_moment
      → passes_in board t rows i ≡ false

-- r is the row of the first candidate that passes, where one does
abbrev pub FirstRow : Board → List ℕ → ℕ → ℕ → Option ℕ → Type 0
FirstRow board classes clock rows r =
    MatchOption r (ChosenRow board classes clock rows rows)
    (λ row. (row < rows) × ChosenRow board classes clock rows row)
