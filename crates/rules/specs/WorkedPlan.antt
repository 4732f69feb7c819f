-- "Stacking plan, as things stand at the candidate's end": worked cases. The answers come from
-- document 01 by hand and from the second program; on each the nearest wrong rule gives another. To
-- be read after WorkedStates. Rests on D12.
use Rattle.std.specs.Prelude.{ℕ, [], ◌∷◌, ◌≡◌}
use Rattle.load.specs.declared.Row.{Row}
use Rattle.load.specs.declared.Load.{Load}
use Rattle.load.specs.Notation.{◌w◌, window, row, load_of}
use Rattle.rules.specs.declared.Outcome.TheVariants.{Start, Idle}
use Rattle.rules.specs.State.{State}
use Rattle.rules.specs.WorkedStates.{slot, has, state, answer}

-- row n with two steps in a window: its costs, the wait between them and the limit
abbrev pub double : ℕ → ℕ → ℕ → ℕ → ℕ → Row
double n first wait second limit =
    row n (first w wait ∷ second w 0 ∷ []) (window 1 2 limit ∷ [])

-- row n with one step
abbrev pub single : ℕ → ℕ → Row
single n cost = row n (cost w 0 ∷ []) []

-- row 1 with two windows one after the other, and a row with one step
abbrev pub two_windows : Load
two_windows =
    load_of
    (row 1 (1 w 0 ∷ 1 w 0 ∷ 1 w 0 ∷ 1 w 0 ∷ []) (window 1 2 2 ∷ window 3 4 9 ∷ [])
    ∷ single 2 1
    ∷ [])

-- two rows with windows of these limits, and a row with one step
abbrev pub three : ℕ → ℕ → Load
three limit₁ limit₂ = load_of (double 1 1 0 3 limit₁ ∷ double 2 1 0 2 limit₂ ∷ single 3 1 ∷ [])

-- rows 1 and 2 have opened their windows one after the other
abbrev pub opened : State
opened = state 2 (has 1 1 0 ∷ has 1 2 1 ∷ [])

-- row 1 has opened its window
abbrev pub one : State
one = state 1 (has 1 1 0 ∷ [])

-- the plan
pub record WorkedPlan : Type 0 where
  -- "order open windows by opening plus limit": row 2, finished at 5 as it is due, then row 1; by
  -- row or by opening row 2 would be finished at 8, and row 3's step would not pass
  pub by-due : answer (three 20 4) opened ≡ Start (slot 2 3 1)
  -- opening plus limit, and not the limit: row 1 (0 + 10) is finished at 10, row 2 (6 + 5) at 11
  pub not-by-limit :
      answer (load_of (double 1 1 0 2 10 ∷ double 2 1 0 1 5 ∷ single 3 1 ∷ []))
      (state 7 (has 1 1 0 ∷ has 1 7 6 ∷ [])) ≡ Start (slot 7 3 1)
  -- "then by row": both are due at 8; row 1 first is finished at 7, row 2 at 9, too late. With row
  -- 2 first, or without row 1's wait, row 3's step would pass
  pub then-by-row :
      answer (load_of (double 1 1 5 1 8 ∷ double 2 1 0 2 7 ∷ single 3 1 ∷ [])) opened
      ≡ Start (slot 2 2 2)
  -- "if each is finished": row 2, the tightest, is in time, and row 1 not, 8 after 7
  pub each-asked : answer (three 7 4) opened ≡ Start (slot 2 2 2)
  -- "by opening plus limit": row 2, finished at 5, is late for 4
  pub one-late : answer (three 20 3) opened ≡ Start (slot 2 2 2)
  -- "at the candidate's end": row 1 is finished at 3, and from row 2's start on it would be at 2.
  -- The next candidate is tried
  pub from_end : answer (load_of (double 1 1 0 1 2 ∷ single 2 1 ∷ [])) one ≡ Start (slot 1 1 2)
  -- "the later of the two": at 6 row 2's step and row 1's wait are over; the wait is not added
  pub later-of-two : answer (load_of (double 1 1 5 1 7 ∷ single 2 5 ∷ [])) one ≡ Start (slot 1 2 1)
  pub too-late : answer (load_of (double 1 1 5 1 7 ∷ single 2 6 ∷ [])) one ≡ Idle
  -- "and goes on with its waits and costs": 2 + 1 + 4 + 1 is in time, 3 + 1 + 4 + 1 not
  pub goes_on :
      answer (load_of (row 1 (1 w 0 ∷ 1 w 4 ∷ 1 w 0 ∷ []) (window 1 3 8 ∷ [])
      ∷ single 2 1 ∷ [])) one
      ≡ Start (slot 1 2 1)
  pub goes-on-late :
      answer (load_of (row 1 (1 w 0 ∷ 1 w 4 ∷ 1 w 0 ∷ []) (window 1 3 8 ∷ [])
      ∷ single 2 2 ∷ [])) one
      ≡ Start (slot 1 1 2)
  -- the window that is open is asked for, 2 + 9, and not the one before it, 2 + 2
  pub second-window : answer two_windows (state 4 (has 3 3 2 ∷ [])) ≡ Start (slot 4 2 1)
  -- "as things stand at the candidate's end": a window that the candidate ends is open no more, and
  -- is not asked for, though it is late
  pub own-ended : answer (load_of (double 1 1 0 1 2 ∷ [])) (state 5 (has 1 5 0 ∷ []))
      ≡ Start (slot 5 1 2)
  -- and one that it begins is open since its start: after row 1 it is finished at 4, due at 1 + 2
  pub own-begun :
      answer (load_of (double 1 1 0 1 3 ∷ double 2 1 0 1 2 ∷ [])) one ≡ Start (slot 1 1 2)
  -- "a refused first step may pass a tick later, as its own window then ends later": at 1 row 2 is
  -- due at 7 and finished at 8, at 2 due at 8; nothing is released before 6
  pub refused-now : answer (load_of (double 1 1 5 1 7 ∷ double 2 1 0 1 6 ∷ [])) one ≡ Idle
  pub a-tick-later :
      answer (load_of (double 1 1 5 1 7 ∷ double 2 1 0 1 6 ∷ [])) (state 2 (has 1 1 0 ∷ []))
      ≡ Start (slot 2 2 1)
  -- a window that cannot be kept lets nothing pass: row 1's wait is over at 10, and it was due at 7
  pub lost : answer (load_of (double 1 1 5 1 7 ∷ single 2 1 ∷ [])) (state 5 (has 1 5 0 ∷ [])) ≡ Idle
