-- "Refuse it even when alone": request 2026-04, worked for loads in memory. 21 comes after every 3
-- of the row's own fields, and before all else that is asked of the row. The answers are the
-- request's, taken by hand and from the second program. To be read after WorkedCases. Rests on D91.
use Rattle.std.specs.Prelude.{ℕ, List, [], ◌∷◌, ◌≡◌, replicate}
use Rattle.load.specs.declared.Step.{Step}
use Rattle.load.specs.declared.Window.{Window}
use Rattle.load.specs.declared.Row.{Row}
use Rattle.load.specs.Notation.{◌w◌, window, row_placed, row_with, row, load_placed, load_of}
use Rattle.load.specs.WorkedRanges.{numbers_of, one, step1, five}
use Rattle.load.specs.WorkedCases.{steps2}

-- a row with the factory identifier, in a box
abbrev pub factory_row : ℕ → List Step → List Window → Row
factory_row box steps windows = row_with 4294967295 box 0 1000000 steps windows

-- the factory identifier
pub record WorkedFactory : Type 0 where
  -- alone, and in two rows: it is not 4
  pub alone : numbers_of one (factory_row 201 step1 [] ∷ []) ≡ 21 ∷ []
  pub twice :
      numbers_of
      (λ box. load_of (factory_row 201 step1 [] ∷ factory_row box step1 [] ∷ []))
      (202 ∷ 201 ∷ [])
      ≡ 21 ∷ 21 ∷ []
  -- an identifier one below it, and a box of its number
  pub beside :
      numbers_of
      one
      (row_with 4294967294 4294967295 0 1000000 step1 []
      ∷ row_with 101 4294967295 0 1000000 step1 []
      ∷ [])
      ≡ 0 ∷ 0 ∷ []
  -- with box 0, phase 86,401, deadline 0, no step, nine steps and five windows: each 3 comes first
  pub fields-first :
      numbers_of
      one
      (factory_row 0 step1 []
      ∷ row_with 4294967295 201 86401 1000000 step1 []
      ∷ row_with 4294967295 201 0 0 step1 []
      ∷ factory_row 201 [] []
      ∷ factory_row 201 (replicate 9 (1 w 0)) []
      ∷ factory_row 201 (replicate 8 (1 w 0)) five
      ∷ [])
      ≡ replicate 6 3
  -- with cost 0, a window of one step, a limit below its chain, and unused places that are not zero
  pub parts-later :
      numbers_of
      one
      (factory_row 201 (0 w 0 ∷ []) []
      ∷ factory_row 201 steps2 (window 2 2 9 ∷ [])
      ∷ factory_row 201 steps2 (window 1 2 1 ∷ [])
      ∷ row_placed 4294967295 201 0 1000000 1 0 steps2 []
      ∷ row_placed 4294967295 201 0 1000000 1 0 step1 (window 0 0 1 ∷ [])
      ∷ [])
      ≡ replicate 5 21
  -- a second row that also has the first's box: it is not 5
  pub box-later :
      numbers_of (λ box. load_of (row 1 step1 [] ∷ factory_row box step1 [] ∷ [])) (201 ∷ 202 ∷ [])
      ≡ 21 ∷ 21 ∷ []
  -- the first faulty row decides: a cost of 0, a window of one step and a limit below its chain in
  -- the row before
  pub row_before :
      numbers_of
      (λ r. load_of (r ∷ factory_row 202 step1 [] ∷ []))
      (row 1 (0 w 0 ∷ []) []
      ∷ row 1 steps2 (window 2 2 9 ∷ [])
      ∷ row 1 steps2 (window 1 2 1 ∷ [])
      ∷ [])
      ≡ 3 ∷ 6 ∷ 7 ∷ []
  -- 25 rows, the first of which has it; and an unused row that has it
  pub rows-first :
      numbers_of (λ n. load_placed n (factory_row 201 step1 [] ∷ [])) (25 ∷ 1 ∷ 0 ∷ [])
      ≡ 3 ∷ 21 ∷ 3 ∷ []
