-- "The unused places of a part come after its used ones", worked of a row by itself: what
-- check_parts asks, and what it leaves to other checks. The answers are the document's, taken by
-- hand. To be read after WorkedCases. Rests on D9 and D71.
use Rattle.std.specs.Prelude.{ℕ, List, [], ◌∷◌, map, ◌≡◌, replicate, take}
use Rattle.refusals.specs.Refusals.{number_given}
use Rattle.load.specs.declared.Row.{Row}
use Rattle.load.specs.Check.{check_parts}
use Rattle.load.specs.Notation.{◌w◌, window, row_placed, row_with}
use Rattle.load.specs.WorkedRanges.{step1, five}
use Rattle.load.specs.WorkedCases.{two, steps2}

-- the numbers that rows are refused with for their parts, and 0 where these are good
unfoldable pub numbers_of_parts : List Row → List ℕ
numbers_of_parts rows = map (λ r. number_given (check_parts r)) rows

-- a row of eight steps that counts so many steps and windows, and holds four windows
abbrev pub counting : ℕ → ℕ → Row
counting steps windows =
    row_placed 101 201 0 1000000 steps windows (replicate 8 (1 w 0)) (take 4 five)

-- a row's parts, whatever else it holds
pub record WorkedParts : Type 0 where
  -- identifier 0, box 0, phase 86,401, deadline 0 and no step are no fault of a part
  pub fields-not-asked :
      numbers_of_parts
      (row_with 0 201 0 1000000 step1 []
      ∷ row_with 101 0 0 1000000 step1 []
      ∷ row_with 101 201 86401 1000000 step1 []
      ∷ row_with 101 201 0 0 step1 []
      ∷ row_with 101 201 0 1000000 [] []
      ∷ [])
      ≡ replicate 5 0
  -- every place counted, a step more, a window more, and a step and a window less
  pub places :
      numbers_of_parts (counting 8 4 ∷ counting 9 4 ∷ counting 8 5 ∷ counting 7 4
      ∷ counting 8 3 ∷ [])
      ≡ 0 ∷ 3 ∷ 3 ∷ 3 ∷ 3 ∷ []
  -- used steps before windows, unused steps before windows, windows before their unused places
  pub in_order :
      numbers_of_parts
      (two 1 (1 w 0 ∷ 0 w 0 ∷ []) (window 2 2 9 ∷ [])
      ∷ two 1 (1 w 0 ∷ 1 w 0 ∷ 0 w 1 ∷ []) (window 2 2 9 ∷ [])
      ∷ two 1 steps2 (window 2 2 9 ∷ window 1 2 9 ∷ [])
      ∷ two 1 steps2 (window 1 2 1 ∷ window 1 2 9 ∷ [])
      ∷ two 1 steps2 (window 1 2 2 ∷ window 0 0 1 ∷ [])
      ∷ two 1 steps2 (window 1 2 2 ∷ [])
      ∷ [])
      ≡ 3 ∷ 3 ∷ 6 ∷ 7 ∷ 3 ∷ 0 ∷ []
