-- "One move of the bench", the shape: worked cases of each of its clauses, just inside and just
-- outside, as the number that a move gives. The answers come from document 01 by hand and from the
-- second program. To be read after WorkedStates. Rests on D11.
use Rattle.std.specs.Prelude.{[], ◌∷◌, ◌++◌, ◌≡◌, replicate}
use Rattle.load.specs.declared.Load.{Load}
use Rattle.load.specs.Notation.{◌w◌, window, row, load_of}
use Rattle.rules.specs.WorkedStates.{has, state, numbers}

-- one row of three steps, the last two of them in a window
abbrev pub alone : Load
alone = load_of (row 1 (1 w 0 ∷ 1 w 0 ∷ 1 w 0 ∷ []) (window 2 3 9 ∷ []) ∷ [])

-- two such rows
abbrev pub both : Load
both =
    load_of
    (row 1 (1 w 0 ∷ 1 w 0 ∷ 1 w 0 ∷ []) (window 2 3 9 ∷ [])
    ∷ row 2 (1 w 0 ∷ 1 w 0 ∷ 1 w 0 ∷ []) (window 2 3 9 ∷ [])
    ∷ [])

-- shape
pub record WorkedShape : Type 0 where
  -- "clock at most 1,000,000": at it 11 and not 10, or 0 with all finished; past it 10 with both
  pub clock :
      numbers alone
      (state 1000000 []
      ∷ state 1000000 (has 3 3 0 ∷ [])
      ∷ state 1000001 []
      ∷ state 1000001 (has 3 3 0 ∷ [])
      ∷ []) ≡ 11 ∷ 0 ∷ 10 ∷ 10 ∷ []
  -- "steps finished at most the row's steps": all 3, and not 4
  pub finished : numbers alone (state 5 (has 3 5 0 ∷ []) ∷ state 5 (has 4 5 0 ∷ []) ∷ [])
      ≡ 0 ∷ 10 ∷ []
  -- "end at most the clock": at it, and not one past it
  pub end : numbers alone (state 5 (has 1 5 0 ∷ []) ∷ state 5 (has 1 6 0 ∷ []) ∷ []) ≡ 0 ∷ 10 ∷ []
  -- "and 0 if nothing is finished": not 1, though the clock is 5
  pub end-of-none : numbers alone (state 5 (has 0 0 0 ∷ []) ∷ state 5 (has 0 1 0 ∷ []) ∷ [])
      ≡ 0 ∷ 10 ∷ []
  -- "opening at most the end while a window is open": from 0 to 3, and not 4, though the clock is 5
  pub opening :
      numbers alone
      (state 5 (has 2 3 0 ∷ []) ∷ state 5 (has 2 3 3 ∷ []) ∷ state 5 (has 2 3 4 ∷ []) ∷ [])
      ≡ 0 ∷ 0 ∷ 10 ∷ []
  -- "else 0": with nothing finished, before the window's first step is, and after its last
  pub opening-of-none :
      numbers alone
      (state 5 (has 0 0 1 ∷ []) ∷ state 5 (has 1 3 1 ∷ []) ∷ state 5 (has 3 3 1 ∷ []) ∷ [])
      ≡ 10 ∷ 10 ∷ 10 ∷ []
  -- "Places for rows the load does not have are 0": steps finished, end and opening of row 2
  pub unused :
      numbers alone
      (state 5 (has 0 0 0 ∷ has 1 0 0 ∷ [])
      ∷ state 5 (has 0 0 0 ∷ has 0 1 0 ∷ [])
      ∷ state 5 (has 0 0 0 ∷ has 0 0 1 ∷ [])
      ∷ []) ≡ 10 ∷ 10 ∷ 10 ∷ []
  -- and of row 24
  pub unused-last :
      numbers alone
      (state 5 (replicate 23 (has 0 0 0) ++ has 1 0 0 ∷ [])
      ∷ state 5 (replicate 23 (has 0 0 0) ++ has 0 1 0 ∷ [])
      ∷ state 5 (replicate 23 (has 0 0 0) ++ has 0 0 1 ∷ [])
      ∷ []) ≡ 10 ∷ 10 ∷ 10 ∷ []
  -- the rows that the load has are asked to the last
  pub second-row :
      numbers both
      (state 5 (has 1 5 0 ∷ has 2 3 3 ∷ [])
      ∷ state 5 (has 1 5 0 ∷ has 4 3 0 ∷ [])
      ∷ state 5 (has 1 5 0 ∷ has 0 1 0 ∷ [])
      ∷ state 5 (has 1 5 0 ∷ has 2 3 4 ∷ [])
      ∷ []) ≡ 0 ∷ 10 ∷ 10 ∷ 10 ∷ []
