-- "Candidates are ready, allowed steps that would end by 1,000,000"; they "are tried by step
-- number, then higher class, then row"; "the first that passes the stacking plan starts": over a
-- board and the classes of its rows, whose numbers may be any. To be read after Boards. Rests on
-- D79.
use Rattle.std.specs.Prelude.{ℕ, ◌+◌, ◌-◌, min, Bool, cond, ◌&&◌, ◌||◌, List, leb, ltb, set}
use Rattle.counting.specs.Sums.{all_to}
use Rattle.counting.specs.Lists.{member_at, is_marked, numbers_where}
use Rattle.counting.specs.Searches.{Found, at, none, is_found, first_to, found}
use Rattle.counting.specs.Sorting.{sorted, by_keys}
use Rattle.load.specs.Load.{most_steps, last_moment, most_class}
use Rattle.rules.specs.Plan.{Jobs, plan_by}
use Rattle.plan.specs.declared.Look.{Look}
use Rattle.plan.specs.declared.Board.{Board}
use Rattle.plan.specs.Boards.{look_in}

-- row k has finished all its steps below place j
abbrev pub below_in : Board → ℕ → ℕ → Bool
below_in board j k = leb (min j (look_in board k).steps) (look_in board k).finished

-- a row's next step is there, one of at most eight, ready and allowed, and would end by 1,000,000;
-- the last argument says whether every row has finished all its steps of lower number
abbrev pub candidate_by : Look → ℕ → Bool → Bool
candidate_by look clock below =
    ltb look.finished (min look.steps most_steps)
    && leb look.release clock
    && (look.opened || below)
    && leb (clock + look.cost) last_moment

-- row i's next step is a candidate
abbrev pub candidate_in : Board → ℕ → ℕ → ℕ → Bool
candidate_in board clock rows i =
    candidate_by (look_in board i) clock (all_to (below_in board (look_in board i).finished) rows)

-- a row's opening once its next step, started at a moment, is over: kept while its window stays
-- open, one past 1,000,000 as 1,000,000; the moment where the step opens one, else 0
abbrev pub opening_by : Bool → Bool → ℕ → ℕ → ℕ
opening_by stays opened opening clock = cond stays (cond opened (min opening last_moment) clock) 0

-- row i's opening once its next step, started at a moment, is over
abbrev pub opening_in : Board → ℕ → ℕ → ℕ
opening_in board clock i =
    opening_by (look_in board i).stays (look_in board i).opened (look_in board i).opening clock

-- the open windows once row i's next step is over
abbrev pub open_after : Board → ℕ → List Bool
open_after board i = set board.opened i (look_in board i).stays

-- what the plan asks of each row, held in lists: rows are ordered by the moment they are due
abbrev pub jobs_in : List ℕ → List ℕ → List ℕ → Jobs
jobs_in release left due =
    record {
      key = member_at due;
      release = member_at release;
      left = member_at left;
      due = member_at due;
    }

-- what the plan asks of each row once row i's next step, started at a moment, is over
abbrev pub jobs_after : Board → ℕ → ℕ → Jobs
jobs_after board clock i =
    jobs_in
    (set board.release i (clock + (look_in board i).cost + (look_in board i).wait))
    (set board.left i (look_in board i).rest)
    (set board.due i (opening_in board clock i + (look_in board i).limit))

-- the plan at the end of row i's next step passes: the row is seen as it will be then
unfoldable pub passes_in : Board → ℕ → ℕ → ℕ → Bool
passes_in board clock rows i =
    plan_by (is_marked (open_after board i)) (jobs_after board clock i) rows
    (clock + (look_in board i).cost)

-- how many classes are higher than row i's; a class above 3 is as 3
abbrev pub turn_in : List ℕ → ℕ → ℕ
turn_in classes i = most_class - member_at classes i

-- the first candidate that passes, by step number, then higher class, then row
unfoldable pub chosen_in : Board → List ℕ → ℕ → ℕ → Found
chosen_in board classes clock rows =
    found (passes_in board clock rows)
    (sorted (by_keys (member_at board.finished) (turn_in classes))
    (numbers_where (candidate_in board clock rows) rows))

-- the first moment from the clock on at which a candidate passes; where none does before 1,000,000,
-- that, or the clock past it
abbrev pub next_moment : Board → List ℕ → ℕ → ℕ → ℕ
next_moment board classes clock rows =
    clock + first_to (λ d. is_found (chosen_in board classes (clock + d) rows))
    (last_moment - clock)

-- the row that was found, and another number where none was
abbrev pub row_or : ℕ → Found → ℕ
row_or other (at i) = i
row_or other none = other
