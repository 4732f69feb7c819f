-- "The unused places of a part come after its used ones", worked: unused steps, windows and rows of
-- a load. The answers are the document's, taken by hand and from the second program. To be read
-- after WorkedCases. Rests on D9 and D92.
use Rattle.std.specs.Prelude.{List, [], ◌∷◌, ◌++◌, map, ◌≡◌, replicate}
use Rattle.load.specs.declared.Row.{Row}
use Rattle.load.specs.Load.{zero_row}
use Rattle.load.specs.Notation.{◌w◌, window, row_placed, classed, row, load_placed}
use Rattle.load.specs.WorkedRanges.{numbers_of, one, step1}
use Rattle.load.specs.WorkedCases.{two, steps2}

-- rows of zeros but for one number, which is the last step's wait, the last window's limit, the
-- class and the head in the last four
unfoldable pub not_zero : List Row
not_zero =
    map (classed 0 0)
    (row_placed 1 0 0 0 0 0 [] []
    ∷ row_placed 0 1 0 0 0 0 [] []
    ∷ row_placed 0 0 1 0 0 0 [] []
    ∷ row_placed 0 0 0 1 0 0 [] []
    ∷ row_placed 0 0 0 0 1 0 [] []
    ∷ row_placed 0 0 0 0 0 1 [] []
    ∷ row_placed 0 0 0 0 0 0 (replicate 7 (0 w 0) ++ 0 w 1 ∷ []) []
    ∷ row_placed 0 0 0 0 0 0 [] (replicate 3 (window 0 0 0) ++ window 0 0 1 ∷ [])
    ∷ [])
    ++ classed 1 0 (row_placed 0 0 0 0 0 0 [] [])
    ∷ classed 0 1 (row_placed 0 0 0 0 0 0 [] [])
    ∷ []

-- unused places
pub record WorkedUnused : Type 0 where
  -- unused steps that are not zero, the next place and the last one, and zeros
  pub unused-steps :
      numbers_of
      (λ unused. one (two 0 (1 w 0 ∷ 1 w 0 ∷ unused) []))
      ((1 w 0 ∷ [])
      ∷ (0 w 1 ∷ [])
      ∷ (replicate 5 (0 w 0) ++ 0 w 1 ∷ [])
      ∷ (replicate 6 (0 w 0))
      ∷ [])
      ≡ 3 ∷ 3 ∷ 3 ∷ 0 ∷ []
  -- unused windows that are not zero, the first place and the last one, and zeros
  pub unused-windows :
      numbers_of
      (λ unused. one (two 0 steps2 unused))
      ((window 1 0 0 ∷ [])
      ∷ (window 0 1 0 ∷ [])
      ∷ (window 0 0 1 ∷ [])
      ∷ (replicate 3 (window 0 0 0) ++ window 0 0 1 ∷ [])
      ∷ (replicate 4 (window 0 0 0))
      ∷ [])
      ≡ 3 ∷ 3 ∷ 3 ∷ 3 ∷ 0 ∷ []
  -- an unused row that is not zero, in the next place and in the last one
  pub unused-rows :
      numbers_of (λ r. load_placed 1 (row 1 step1 [] ∷ r ∷ [])) not_zero
      ++ numbers_of (λ r. load_placed 1 (row 1 step1 [] ∷ replicate 22 zero_row ++ r ∷ [])) not_zero
      ≡ replicate 20 3
