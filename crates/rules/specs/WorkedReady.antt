-- "One move of the bench": worked cases of the steps that are ready, allowed, and candidates, and
-- of the order in which these are tried. The answers come from document 01 by hand and from the
-- second program; on each the nearest wrong rule gives another. To be read after WorkedStates.
use Rattle.std.specs.Prelude.{[], ◌∷◌, ◌≡◌}
use Rattle.load.specs.Load.{last_moment}
use Rattle.load.specs.Notation.{◌w◌, window, row_by, row, load_of}
use Rattle.rules.specs.declared.Outcome.TheVariants.{Start, Idle}
use Rattle.rules.specs.WorkedStates.{slot, has, state, answers}

-- candidates
pub record WorkedReady : Type 0 where
  -- "tried by step number": step 1 of row 2 before step 2 of row 1; "then row": row 1 before row
  -- 2, which was released before it
  pub by-step :
      answers
      (load_of
      (row_by 1 2 last_moment (1 w 0 ∷ 1 w 0 ∷ []) (window 1 2 9 ∷ [])
      ∷ row 2 (1 w 0 ∷ []) [] ∷ []))
      (state 1 (has 1 1 0 ∷ []) ∷ state 2 [] ∷ [])
      ≡ Start (slot 1 2 1) ∷ Start (slot 2 1 1) ∷ []
  -- "when the clock has reached its phase": at 5, and not at 4
  pub at-phase :
      answers (load_of (row_by 1 5 last_moment (1 w 0 ∷ []) [] ∷ [])) (state 4 [] ∷ state 5 [] ∷ [])
      ≡ Idle ∷ Start (slot 5 1 1) ∷ []
  -- "its phase (first step)": step 2 does not ask for it
  pub phase-once :
      answers
      (load_of (row_by 1 9 last_moment (1 w 0 ∷ 1 w 0 ∷ []) [] ∷ []))
      (state 1 (has 1 1 0 ∷ []) ∷ [])
      ≡ Start (slot 1 1 2) ∷ []
  -- "or the last end plus the wait": at 2 + 3, and not at 4; from the step's start it would be 3,
  -- and by the wait that follows the next step 2
  pub after-wait :
      answers
      (load_of (row 1 (2 w 3 ∷ 1 w 0 ∷ 1 w 0 ∷ []) [] ∷ []))
      (state 4 (has 1 2 0 ∷ []) ∷ state 5 (has 1 2 0 ∷ []) ∷ [])
      ≡ Idle ∷ Start (slot 5 1 2) ∷ []
  -- "if every row has finished all its steps of lower number": row 1's next step is ready, but row
  -- 2 has not finished step 1, as it is not released, or has not finished the second of two
  pub allowed :
      answers
      (load_of
      (row 1 (1 w 0 ∷ 1 w 0 ∷ 1 w 0 ∷ []) []
      ∷ row_by 2 9 last_moment (1 w 9 ∷ 1 w 0 ∷ []) []
      ∷ []))
      (state 1 (has 1 1 0 ∷ []) ∷ state 5 (has 2 5 0 ∷ has 1 3 0 ∷ []) ∷ [])
      ≡ Idle ∷ Idle ∷ []
  -- "all its steps": a row that has fewer does not hold the others back
  pub fewer-steps :
      answers
      (load_of (row 1 (1 w 0 ∷ 1 w 0 ∷ 1 w 0 ∷ []) [] ∷ row 2 (1 w 0 ∷ []) [] ∷ []))
      (state 3 (has 2 2 0 ∷ has 1 3 0 ∷ []) ∷ [])
      ≡ Start (slot 3 1 3) ∷ []
  -- "allowed if embedded", whatever row 2 has finished: steps 3 and 4 in the window of 2 to 4, but
  -- not its first, and not the step after it
  pub embedded-at-once :
      answers
      (load_of
      (row 1 (1 w 0 ∷ 1 w 0 ∷ 1 w 0 ∷ 1 w 0 ∷ 1 w 0 ∷ []) (window 2 4 9 ∷ [])
      ∷ row_by 2 9 last_moment (1 w 0 ∷ []) []
      ∷ []))
      (state 4 (has 1 4 0 ∷ [])
      ∷ state 4 (has 2 4 3 ∷ [])
      ∷ state 4 (has 3 4 2 ∷ [])
      ∷ state 4 (has 4 4 0 ∷ [])
      ∷ [])
      ≡ Idle ∷ Start (slot 4 1 3) ∷ Start (slot 4 1 4) ∷ Idle ∷ []
  -- "that would end by 1,000,000": at 999,997 + 3, and not one past it
  pub by-last-moment :
      answers (load_of (row 1 (3 w 0 ∷ []) [] ∷ [])) (state 999997 [] ∷ state 999998 [] ∷ [])
      ≡ Start (slot 999997 1 1) ∷ Idle ∷ []
