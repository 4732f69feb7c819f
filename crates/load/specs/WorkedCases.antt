-- "Numbers given back", 3 to 7, worked: which number comes first where a load has two faults, and
-- what rows may share. The answers are the document's, taken by hand and from the
-- second program. To be read after WorkedWindows. Rests on D9.
use Rattle.std.specs.Prelude.{ℕ, List, [], ◌∷◌, ◌≡◌}
use Rattle.load.specs.declared.Step.{Step}
use Rattle.load.specs.declared.Window.{Window}
use Rattle.load.specs.declared.Row.{Row}
use Rattle.load.specs.Notation.{◌w◌, window, row_placed, row_with, row, load_placed, load_of}
use Rattle.load.specs.WorkedRanges.{numbers_of, one, step1}

-- a row that uses two steps and some windows, and what its places hold
abbrev pub two : ℕ → List Step → List Window → Row
two windows step window = row_placed 101 201 0 1000000 2 windows step window

-- two steps of cost 1
abbrev pub steps2 : List Step
steps2 = 1 w 0 ∷ 1 w 0 ∷ []

-- order, and what rows share
pub record WorkedCases : Type 0 where
  -- a third row with the first's identifier, the second's, the first's box, both, and with the
  -- first's box as its identifier and the first's identifier as its box
  pub shared :
      numbers_of
      (λ r. load_of (row 1 step1 [] ∷ row 2 step1 [] ∷ r ∷ []))
      (row_with 101 203 0 1000000 step1 []
      ∷ row_with 102 203 0 1000000 step1 []
      ∷ row_with 103 201 0 1000000 step1 []
      ∷ row_with 101 201 0 1000000 step1 []
      ∷ row_with 201 101 0 1000000 step1 []
      ∷ [])
      ≡ 4 ∷ 4 ∷ 5 ∷ 4 ∷ 0 ∷ []
  -- a second row that shares: 3 of any field comes first, 3 of a step after 4 and after 5
  pub fields-then-shared :
      numbers_of
      (λ r. load_of (row 1 step1 [] ∷ r ∷ []))
      (row_with 101 202 86401 1000000 step1 []
      ∷ row_placed 101 201 0 1000000 1 5 step1 []
      ∷ row_with 101 202 0 1000000 (0 w 0 ∷ []) []
      ∷ row_with 102 201 0 1000000 (0 w 0 ∷ []) []
      ∷ [])
      ≡ 3 ∷ 3 ∷ 4 ∷ 5 ∷ []
  -- the first faulty row decides: its step, its limit and its unused places before a second row's 4
  pub first-row :
      numbers_of
      (λ r. load_of (r ∷ row_with 101 202 0 1000000 step1 [] ∷ []))
      (row 1 (0 w 0 ∷ []) []
      ∷ row 1 steps2 (window 1 2 1 ∷ [])
      ∷ two 0 (1 w 0 ∷ 1 w 0 ∷ 1 w 0 ∷ []) []
      ∷ two 0 steps2 (window 0 0 1 ∷ [])
      ∷ row 1 step1 []
      ∷ [])
      ≡ 3 ∷ 7 ∷ 3 ∷ 3 ∷ 4 ∷ []
  -- and its window's steps and limit before the 3 of a second row's phase
  pub first-row-windows :
      numbers_of
      (λ r. load_of (r ∷ row_with 102 202 86401 1000000 step1 [] ∷ []))
      (row 1 steps2 (window 2 2 9 ∷ []) ∷ row 1 steps2 (window 1 2 1 ∷ []) ∷ [])
      ≡ 6 ∷ 7 ∷ []
  -- in a row: used steps before windows, unused steps before windows, windows before their unused
  -- places
  pub row-order :
      numbers_of
      one
      (two 1 (1 w 0 ∷ 0 w 0 ∷ []) (window 2 2 9 ∷ [])
      ∷ two 1 (1 w 0 ∷ 1 w 0 ∷ 1 w 0 ∷ []) (window 2 2 9 ∷ [])
      ∷ two 1 steps2 (window 2 2 9 ∷ window 1 2 9 ∷ [])
      ∷ two 1 steps2 (window 1 2 1 ∷ window 1 2 9 ∷ [])
      ∷ [])
      ≡ 3 ∷ 3 ∷ 6 ∷ 7 ∷ []
  -- the row count before a row's 7, and that before unused rows
  pub load-order :
      numbers_of
      (λ n. load_placed n (row 1 steps2 (window 1 2 1 ∷ []) ∷ row 2 step1 [] ∷ []))
      (25 ∷ 1 ∷ [])
      ≡ 3 ∷ 7 ∷ []
