-- "Each move takes the bench state and hands the next one back, with Start (its row, step and
-- start), Idle or Done, and a word with one bit per row for the lamps": worked cases. The answers
-- come from document 01 by hand and from the second program; on each the nearest wrong rule gives
-- another. To be read after WorkedStates. Rests on D14 and D15.
use Rattle.std.specs.Prelude.{ℕ, List, [], ◌∷◌, ◌≡◌}
use Rattle.refusals.specs.declared.Refusal.TheVariants.{StateShape, ClockFull}
use Rattle.load.specs.declared.Load.{Load}
use Rattle.load.specs.Load.{last_moment}
use Rattle.load.specs.Notation.{◌w◌, window, row_by, row, load_of}
use Rattle.rules.specs.declared.Outcome.{Outcome}
use Rattle.rules.specs.declared.Outcome.TheVariants.{Start, Idle, Done, Refused}
use Rattle.rules.specs.WorkedStates.{slot, Progress, has, state, Seen, seen}

-- what is seen of a move: its answer, the lamp word and its count, the clock and the load's rows
abbrev pub sees : Outcome → ℕ → ℕ → ℕ → List Progress → Seen
sees outcome lamps count clock rows =
    record { outcome = outcome; lamps = lamps; count = count; clock = clock; rows = rows }

-- a row of three steps in one window
abbrev pub in_one : Load
in_one = load_of (row 1 (1 w 0 ∷ 1 w 0 ∷ 1 w 0 ∷ []) (window 1 3 9 ∷ []) ∷ [])

-- a row of two steps
abbrev pub plain : Load
plain = load_of (row 1 (2 w 0 ∷ 1 w 0 ∷ []) [] ∷ [])

-- moves
pub record WorkedMoves : Type 0 where
  -- "The clock moves to its end", 6 and not 5; the opening is "the start of an open window's first
  -- step", 4 and not 6; the lamps are those "open after the move"
  pub starts :
      seen
      (load_of (row 1 (2 w 0 ∷ 1 w 0 ∷ []) (window 1 2 9 ∷ []) ∷ row 2 (1 w 0 ∷ []) [] ∷ []))
      (state 4 []) ≡ sees (Start (slot 4 1 1)) 1 1 6 (has 1 6 4 ∷ has 0 0 0 ∷ [])
  -- a step inside a window leaves the opening as it is
  pub inside : seen in_one (state 5 (has 1 4 2 ∷ []))
      ≡ sees (Start (slot 5 1 2)) 1 1 6 (has 2 6 2 ∷ [])
  -- its last one closes it
  pub closes : seen in_one (state 6 (has 2 6 2 ∷ []))
      ≡ sees (Start (slot 6 1 3)) 0 0 7 (has 3 7 0 ∷ [])
  -- "Idle moves the clock one tick", with the lamps of rows 1 and 2, "bit 0 is row 1": not 6, which
  -- counts two as well
  pub idles :
      seen
      (load_of
      (row 1 (1 w 9 ∷ 1 w 0 ∷ []) (window 1 2 12 ∷ [])
      ∷ row 2 (1 w 9 ∷ 1 w 0 ∷ []) (window 1 2 12 ∷ [])
      ∷ row_by 3 50 last_moment (1 w 0 ∷ []) []
      ∷ []))
      (state 3 (has 1 1 0 ∷ has 1 2 1 ∷ []))
      ≡ sees Idle 3 2 4 (has 1 1 0 ∷ has 1 2 1 ∷ has 0 0 0 ∷ [])
  -- "Done, when all steps are finished, changes nothing"
  pub done : seen plain (state 7 (has 2 5 0 ∷ [])) ≡ sees Done 0 0 7 (has 2 5 0 ∷ [])
  -- Done at 1,000,000 too: 11 is for "work left"
  pub done-at-last : seen plain (state 1000000 (has 2 5 0 ∷ []))
      ≡ sees Done 0 0 1000000 (has 2 5 0 ∷ [])
  -- 11: "the bench clock is at 1,000,000 with work left", and "a refused move hands back the state
  -- it was given, with lamp word and count 0", though a window is open
  pub full : seen in_one (state 1000000 (has 1 4 2 ∷ []))
      ≡ sees (Refused ClockFull) 0 0 1000000 (has 1 4 2 ∷ [])
  -- one tick before it is Idle, where no step would end in time
  pub not-yet-full : seen plain (state 999999 []) ≡ sees Idle 0 0 1000000 (has 0 0 0 ∷ [])
  -- 10 hands back the state too
  pub no-shape : seen in_one (state 5 (has 1 6 2 ∷ []))
      ≡ sees (Refused StateShape) 0 0 5 (has 1 6 2 ∷ [])
