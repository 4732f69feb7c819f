-- The open rows in the stack's order, gone over one after the other, but for the row whose step is
-- tried. To be read after Passing.
use Rattle.std.specs.Prelude.{ℕ, ◌+◌, ◌≤◌, ◌<◌, Bool, true, false, cond, not, ◌&&◌, ◌||◌, List, []}
use Rattle.std.specs.Prelude.{Option, Some, None, ◌∷◌, eqb, leb, ltb, length}
use Rattle.counting.specs.Lists.{member_at, keep_in}
use Rattle.load.specs.Load.{most_rows}
use Rattle.rules.specs.Plan.{Jobs, finish}
use Rattle.plan.specs.declared.Walked.{Walked}

-- a list of rows, at most as many as there are
pub record RowsIn (stack : List ℕ) : Type 0 where
  pub most : length stack ≤ most_rows
  pub below : (k : ℕ) → k < length stack → member_at stack k < most_rows

-- the rows of a list, but row i
abbrev pub others_in : ℕ → List ℕ → List ℕ
others_in i rows = keep_in (λ k. not (eqb k i)) rows

-- row i, whose window is due at own, stands before row k, whose is due at due
abbrev pub stands_before : ℕ → ℕ → ℕ → ℕ → Bool
stands_before own i due k = ltb own due || eqb own due && leb i k

-- what a walk has come to: the place behind the rows that it went over, the moment at which they
-- are finished, the sum of what was left of them, and whether one was late
pub record Walk : Type 0 where
  pub place : ℕ
  pub time : ℕ
  pub work : ℕ
  pub late : Bool

-- such a walk
abbrev pub walked_to : ℕ → ℕ → ℕ → Bool → Walk
walked_to place time work late =
    record {
      place = place;
      time = time;
      work = work;
      late = late;
    }

-- the rows of a list, but row i, are finished one after the other until row i, whose window is due
-- at own, stands before one, or one is late; the place, the moment and the sum of what was left of
-- them are as they were before the list
unfoldable pub walk_in : Jobs → ℕ → ℕ → List ℕ → ℕ → ℕ → ℕ → Walk
walk_in jobs i own [] place time work = walked_to place time work false
walk_in jobs i own (k ∷ rest) place time work =
    cond (eqb k i) (walk_in jobs i own rest (place + 1) time work)
    (cond (stands_before own i (jobs.due k) k) (walked_to place time work false)
    (cond (ltb (jobs.due k) (finish jobs time k))
    (walked_to (place + 1) (finish jobs time k) (work + jobs.left k) true)
    (walk_in jobs i own rest (place + 1) (finish jobs time k) (work + jobs.left k))))

-- what a walk gives in which no row was late
abbrev pub walked_of : Walk → Option Walked
walked_of walk =
    cond walk.late None
    (Some (record { place = walk.place; time = walk.time; work = walk.work }))

-- what a walk over a stack gives: the sums fit
pub record WalkFits (count : ℕ) (walked : Walked) : Type 0 where
  pub place-most : walked.place ≤ count
  pub time-most : walked.time ≤ 4294967295
  pub work-most : walked.work ≤ 103079215080
