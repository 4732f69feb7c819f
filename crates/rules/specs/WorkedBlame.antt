-- "See which wait holds the rack up": worked cases. The answers come from document 02 by hand and
-- from the second program; on each the nearest wrong rule gives another. To be read after Blame and
-- WorkedBound.
use Rattle.std.specs.Prelude.{ℕ, List, [], ◌∷◌, ◌≡◌}
use Rattle.load.specs.declared.Row.{Row}
use Rattle.load.specs.Load.{most_rows}
use Rattle.load.specs.Notation.{◌w◌, window, padded, row}
use Rattle.rules.specs.declared.LargestW.{LargestW}
use Rattle.rules.specs.declared.Blame.{Blame}
use Rattle.rules.specs.Bound.{most_places}
use Rattle.rules.specs.Blame.{none_left, nobody, place_waits, blames}
use Rattle.rules.specs.WorkedBound.{rows_seen}

infix 80 ◌of◌
-- a largest W, and its row
abbrev pub ◌of◌ : ℕ → ℕ → LargestW
left of row = record { left = left; row = row }

infix 80 ◌by◌
-- a place, and the row that is blamed there
abbrev pub ◌by◌ : ℕ → ℕ → Blame
place by row = record { place = place; row = row }

-- a load of some rows has these largest W's, and then none, and its rows blame so
pub record Holds (rows : List Row) (waits : List LargestW) (blamed : List Blame) : Type 0 where
  pub at_places : place_waits (rows_seen rows) ≡ padded most_places none_left waits
  pub by_rows : blames (rows_seen rows) ≡ padded most_rows nobody blamed

-- the blames
pub record WorkedBlame : Type 0 where
  -- load A: row 1 holds all three up
  pub one-row :
      Holds
      (row 1 (2 w 10 ∷ 3 w 0 ∷ []) []
      ∷ row 2 (1 w 4 ∷ 2 w 0 ∷ []) []
      ∷ row 3 (2 w 3 ∷ 1 w 0 ∷ []) []
      ∷ [])
      (8 of 1 ∷ [])
      (1 by 1 ∷ 1 by 1 ∷ 1 by 1 ∷ [])
  -- "the largest W", and not the first
  pub largest :
      Holds (row 1 (1 w 5 ∷ 1 w 0 ∷ []) [] ∷ row 2 (1 w 9 ∷ 1 w 0 ∷ []) [] ∷ []) (8 of 2 ∷ [])
      (1 by 2 ∷ 1 by 2 ∷ [])
  -- "the lowest row where several are equal", "lowest place first"
  pub alike :
      Holds (row 1 (1 w 9 ∷ 1 w 9 ∷ 1 w 0 ∷ []) [] ∷ row 2 (1 w 9 ∷ 1 w 9 ∷ 1 w 0 ∷ []) [] ∷ [])
      (8 of 1 ∷ 8 of 1 ∷ [])
      (1 by 1 ∷ 1 by 1 ∷ [])
  -- "of its cut load": place 3 is the worst, and row 2 alone comes to it
  pub cut-decides :
      Holds
      (row 1 (1 w 4 ∷ 1 w 0 ∷ []) []
      ∷ row 2 (1 w 2 ∷ 1 w 3 ∷ 1 w 20 ∷ 1 w 0 ∷ []) []
      ∷ row 3 (3 w 0 ∷ []) []
      ∷ [])
      (3 of 1 ∷ 3 of 2 ∷ 20 of 2 ∷ [])
      (1 by 1 ∷ 3 by 2 ∷ nobody ∷ [])
  -- row 1 has no place
  pub no_place :
      Holds (row 1 (1 w 0 ∷ []) [] ∷ row 2 (2 w 6 ∷ 2 w 0 ∷ []) [] ∷ []) (6 of 2 ∷ [])
      (nobody ∷ 1 by 2 ∷ [])
  -- "or the largest W is 0": waits that the other row's steps fill
  pub all-filled : Holds (row 1 (5 w 3 ∷ 5 w 0 ∷ []) [] ∷ row 2 (6 w 4 ∷ 6 w 0 ∷ []) [] ∷ []) [] []
  -- "where no row has a free wait there": load B, whose waits are embedded
  pub none_free :
      Holds
      (row 1 (2 w 4 ∷ 2 w 0 ∷ []) (window 1 2 8 ∷ [])
      ∷ row 2 (3 w 0 ∷ []) []
      ∷ row 3 (2 w 1 ∷ 1 w 0 ∷ []) (window 1 2 6 ∷ [])
      ∷ []) [] []
  -- by W and not by the wait; at place 2 both rows have 1, and so have both places; and the place
  -- comes before the row
  pub by-w :
      Holds
      (row 1 (1 w 0 ∷ 2 w 2 ∷ 2 w 0 ∷ []) [] ∷ row 2 (1 w 2 ∷ 1 w 3 ∷ 3 w 0 ∷ []) [] ∷ [])
      (1 of 2 ∷ 1 of 1 ∷ [])
      (1 by 2 ∷ 1 by 2 ∷ [])
  -- an embedded wait is nobody's, the free one behind it is
  pub behind-a-window :
      Holds (row 1 (1 w 0 ∷ []) [] ∷ row 2 (1 w 9 ∷ 1 w 5 ∷ 1 w 0 ∷ []) (window 1 2 11 ∷ []) ∷ [])
      (0 of 0 ∷ 5 of 2 ∷ [])
      (nobody ∷ 2 by 2 ∷ [])
  -- the load cut at 2 keeps the window whole, and for that no wait of rows 2 and 3
  pub window-whole :
      Holds
      (row 1 (1 w 0 ∷ 1 w 0 ∷ []) []
      ∷ row 2 (1 w 9 ∷ 1 w 9 ∷ 1 w 5 ∷ 1 w 0 ∷ []) (window 1 3 21 ∷ [])
      ∷ row 3 (1 w 0 ∷ 1 w 7 ∷ 1 w 0 ∷ []) []
      ∷ [])
      (0 of 0 ∷ 7 of 3 ∷ 5 of 2 ∷ [])
      (nobody ∷ 2 by 3 ∷ 2 by 3 ∷ [])
  -- the seventh place counts
  pub last-place :
      Holds
      (row 1 (1 w 1 ∷ 1 w 1 ∷ 1 w 1 ∷ 1 w 1 ∷ 1 w 1 ∷ 1 w 1 ∷ 1 w 2 ∷ 1 w 0 ∷ []) [] ∷ [])
      (1 of 1 ∷ 1 of 1 ∷ 1 of 1 ∷ 1 of 1 ∷ 1 of 1 ∷ 1 of 1 ∷ 2 of 1 ∷ [])
      (7 by 1 ∷ [])
  pub no_rows : Holds [] [] []
