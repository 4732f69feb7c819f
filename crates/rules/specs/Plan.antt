-- "Stacking plan, as things stand at the candidate's end". The plan is over what it asks of each
-- row, and the moment at which it begins is an argument. To be read after Ready. Rests on D12, D14,
-- D34 and D65.
use Rattle.std.specs.Prelude.{ℕ, ◌+◌, max, Bool, true, ◌&&◌, List, [], ◌∷◌, leb}
use Rattle.counting.specs.Lists.{numbers_where}
use Rattle.counting.specs.Sorting.{sorted, by_key}
use Rattle.load.specs.View.{View, chain}
use Rattle.rules.specs.State.{State, is_open, open_window}
use Rattle.rules.specs.Ready.{released}

-- what the plan asks of a row, as functions of the row
pub record Jobs : Type 0 where
  -- by what open windows are ordered
  pub key : ℕ → ℕ
  -- the moment from which the row's next step may start
  pub release : ℕ → ℕ
  -- what is left of its open window
  pub left : ℕ → ℕ
  -- the moment by which that is to be finished
  pub due : ℕ → ℕ

-- when an open window is finished: it begins its next step when the one before is finished or its
-- own wait is over, the later of the two, and goes on with its waits and costs
abbrev pub finish : Jobs → ℕ → ℕ → ℕ
finish jobs before i = max before (jobs.release i) + jobs.left i

-- finish them one after the other: each is finished by the moment that it is due
unfoldable pub in_time_by : Jobs → ℕ → List ℕ → Bool
in_time_by jobs t [] = true
in_time_by jobs t (i ∷ rest) =
    leb (finish jobs t i) (jobs.due i) && in_time_by jobs (finish jobs t i) rest

-- the rows with an open window, ordered by their key, then by row
unfoldable pub stack_by : (ℕ → Bool) → (ℕ → ℕ) → ℕ → List ℕ
stack_by opened key rows = sorted (by_key key) (numbers_where opened rows)

-- the plan of the rows with an open window, begun at a moment, passes
abbrev pub plan_by : (ℕ → Bool) → Jobs → ℕ → ℕ → Bool
plan_by opened jobs rows t = in_time_by jobs t (stack_by opened jobs.key rows)

-- opening plus limit
unfoldable pub due : View → State → ℕ → ℕ
due L s i = s.opening i + (open_window L s i).limit

-- what is left of an open window: its costs, and the waits between them, from the next step on
unfoldable pub window_left : View → State → ℕ → ℕ
window_left L s i = chain (L.cost i) (L.wait i) (s.finished i) (open_window L s i).last

-- open windows are ordered by opening plus limit, and each is finished by opening plus limit
abbrev pub jobs : View → State → Jobs
jobs L s =
    record {
      key = due L s;
      release = released L s;
      left = window_left L s;
      due = due L s;
    }

-- order open windows by opening plus limit, then by row
abbrev pub stack : View → State → List ℕ
stack L s = stack_by (is_open L s) (jobs L s).key L.rows

-- the plan that begins at moment t passes
abbrev pub plan_passes : View → State → ℕ → Bool
plan_passes L s t = in_time_by (jobs L s) t (stack L s)
