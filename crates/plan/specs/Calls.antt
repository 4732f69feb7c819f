-- What each public call's contract says: one relation a call, over what it takes and what it gives.
-- Numbers may be any: a number of rows past 24 is 24, a class above 3 is as 3, `look_of` takes
-- steps and moments past the last as the last, and all else is taken as it is. To be read after
-- Choices. Rests on D79.
use Rattle.std.specs.Prelude.{ℕ, min, Bool, cond, List, ◌≡◌, ltb}
use Rattle.load.specs.declared.Row.{Row}
use Rattle.load.specs.declared.Window.{Window}
use Rattle.load.specs.Load.{most_rows, most_steps, last_moment}
use Rattle.load.specs.View.{open_at}
use Rattle.plan.specs.declared.Look.{Look}
use Rattle.plan.specs.declared.Chosen.{Chosen}
use Rattle.plan.specs.Looks.{view_alike, look_by}
use Rattle.plan.specs.declared.Board.{Board}
use Rattle.plan.specs.Boards.{look_in, with_look}
use Rattle.plan.specs.Choices.{opening_by, chosen_in, next_moment, row_or}

-- open_window(row, finished): the window that is open once so many steps are finished, and a window
-- of zeros where none is
abbrev pub OpenWindow : Row → ℕ → Window → Type 0
OpenWindow row finished r = r ≡ open_at (view_alike row) 0 finished

-- look_of(row, finished, end, opening): what is looked up of the row
abbrev pub LookOf : Row → ℕ → ℕ → ℕ → Look → Type 0
LookOf row finished end opening r =
    r ≡ look_by row (min finished most_steps) (min end last_moment) (min opening last_moment)

-- look_at(board, i): what the board has of row i, and zeros past the last row
abbrev pub LookAt : Board → ℕ → Look → Type 0
LookAt board i r = r ≡ look_in board i

-- put_look(board, i, look): the board afterwards has that look of row i, and is as it was past the
-- last row
abbrev pub PutLook : Board → ℕ → Look → Board → Type 0
PutLook board i look after = after ≡ cond (ltb i most_rows) (with_look board i look) board

-- opening_after(stays, opened, opening, clock): a row's opening once its next step is over
abbrev pub OpeningAfter : Bool → Bool → ℕ → ℕ → ℕ → Type 0
OpeningAfter stays opened opening clock r = r ≡ opening_by stays opened opening clock

-- chosen_row(board, classes, clock, rows): the row of the first candidate that passes, and the
-- number of rows, at most 24, where none does
abbrev pub ChosenRow : Board → List ℕ → ℕ → ℕ → ℕ → Type 0
ChosenRow board classes clock rows r =
    r ≡ row_or (min rows most_rows) (chosen_in board classes clock (min rows most_rows))

-- next_start(board, classes, clock, rows): the row whose next step starts next, and when: the first
-- moment from the clock on at which a candidate passes, and the row that is chosen there
abbrev pub NextStart : Board → List ℕ → ℕ → ℕ → Chosen → Type 0
NextStart board classes clock rows r =
    (r.moment ≡ next_moment board classes clock (min rows most_rows))
    × ChosenRow board classes r.moment rows r.row
