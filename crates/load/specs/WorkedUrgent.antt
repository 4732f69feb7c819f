-- "Each row gains a class, 0 to 3, and a head number, which must be 1 for now": request 2026-05,
-- worked for loads in memory, and 22 of loads that version 1 and sheets cannot carry. The answers
-- are the request's, taken by hand and from the second program. To be read after WorkedUnused, and
-- after Plain. Rests on D92.
use Rattle.std.specs.Prelude.{ℕ, List, [], ◌∷◌, map, ◌≡◌, replicate}
use Rattle.refusals.specs.Refusals.{number_given}
use Rattle.load.specs.declared.Load.{Load}
use Rattle.load.specs.Plain.{check_plain}
use Rattle.load.specs.Notation.{◌w◌, window, row_with, classed, row, load_placed, load_of}
use Rattle.load.specs.WorkedRanges.{numbers_of, one, step1, five}
use Rattle.load.specs.WorkedCases.{steps2}

-- the numbers that loads are refused with where they are written as version 1 or as sheets
unfoldable pub numbers_of_plain : List Load → List ℕ
numbers_of_plain loads = map (λ load. number_given (check_plain load)) loads

-- a load of two rows, of which the second has a class and a head
abbrev pub second : ℕ → ℕ → Load
second class head = load_of (row 1 step1 [] ∷ classed class head (row 2 step1 []) ∷ [])

-- class and head
pub record WorkedUrgent : Type 0 where
  -- classes 0, 1, 3, 4 and 255
  pub classes : numbers_of (λ n. second n 1) (0 ∷ 1 ∷ 3 ∷ 4 ∷ 255 ∷ []) ≡ 0 ∷ 0 ∷ 0 ∷ 3 ∷ 3 ∷ []
  -- heads 0, 1, 2 and 255
  pub heads : numbers_of (second 0) (0 ∷ 1 ∷ 2 ∷ 255 ∷ []) ≡ 3 ∷ 0 ∷ 3 ∷ 3 ∷ []
  -- class 4 and head 2 of a row with the factory identifier: each 3 comes first
  pub factory-later :
      numbers_of
      one
      (classed 4 1 (row_with 4294967295 201 0 1000000 step1 [])
      ∷ classed 0 2 (row_with 4294967295 201 0 1000000 step1 [])
      ∷ classed 3 1 (row_with 4294967295 201 0 1000000 step1 [])
      ∷ [])
      ≡ 3 ∷ 3 ∷ 21 ∷ []
  -- class 4 and head 2 of a second row with the first's identifier, and with its box
  pub shared-later :
      numbers_of
      (λ r. load_of (row 1 step1 [] ∷ r ∷ []))
      (classed 4 1 (row_with 101 202 0 1000000 step1 [])
      ∷ classed 0 2 (row_with 102 201 0 1000000 step1 [])
      ∷ classed 3 1 (row_with 101 202 0 1000000 step1 [])
      ∷ classed 3 1 (row_with 102 201 0 1000000 step1 [])
      ∷ [])
      ≡ 3 ∷ 3 ∷ 4 ∷ 5 ∷ []
  -- class 4 and head 2 of a row with cost 0, with a window of one step and with five windows
  pub parts-later :
      numbers_of
      one
      (classed 4 1 (row 1 (0 w 0 ∷ []) [])
      ∷ classed 0 2 (row 1 steps2 (window 2 2 9 ∷ []))
      ∷ classed 3 1 (row 1 (replicate 8 (1 w 0)) five)
      ∷ classed 3 1 (row 1 steps2 (window 2 2 9 ∷ []))
      ∷ [])
      ≡ 3 ∷ 3 ∷ 3 ∷ 6 ∷ []
  -- to be written as version 1 or as a sheet: classes 0, 1 and 3 of a second row, class 1 of a
  -- first one, and no row
  pub carried :
      numbers_of_plain
      (second 0 1
      ∷ second 1 1
      ∷ second 3 1
      ∷ load_of (classed 1 1 (row 1 step1 []) ∷ row 2 step1 [] ∷ [])
      ∷ load_of []
      ∷ [])
      ≡ 0 ∷ 22 ∷ 22 ∷ 22 ∷ 0 ∷ []
  -- the load's own numbers come first, of class and head too: class 4 and head 2 never reach 22; a
  -- class before a later row's 3, 4 and 7, and before an unused row that is not zero
  pub carried_later :
      numbers_of_plain
      (second 4 1
      ∷ second 0 2
      ∷ load_of (classed 1 1 (row 1 step1 []) ∷ row 2 (0 w 0 ∷ []) [] ∷ [])
      ∷ load_of (classed 1 1 (row 1 step1 []) ∷ row_with 101 202 0 1000000 step1 [] ∷ [])
      ∷ load_of (classed 1 1 (row 1 step1 []) ∷ row 2 steps2 (window 1 2 1 ∷ []) ∷ [])
      ∷ load_placed 1 (classed 1 1 (row 1 step1 []) ∷ row 2 step1 [] ∷ [])
      ∷ [])
      ≡ 3 ∷ 3 ∷ 3 ∷ 4 ∷ 7 ∷ 3 ∷ []
