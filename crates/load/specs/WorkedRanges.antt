-- "A load" and number 3, worked: the least and the largest number of each range, and the first ones
-- outside it. The answers are the document's, taken by hand and from the second program. To be read
-- after Check and Notation.
use Rattle.std.specs.Prelude.{ℕ, suc, List, [], ◌∷◌, map, ◌≡◌, replicate, take}
use Rattle.counting.specs.Lists.{list_to}
use Rattle.refusals.specs.Refusals.{number_given}
use Rattle.load.specs.declared.Step.{Step}
use Rattle.load.specs.declared.Window.{Window}
use Rattle.load.specs.declared.Row.{Row}
use Rattle.load.specs.declared.Load.{Load}
use Rattle.load.specs.Check.{check_step, check_window, check_load}
use Rattle.load.specs.Notation.{◌w◌, window, row_with, row, load_of}

-- the numbers that loads are refused with, and 0 for one that is accepted: a load for each member
-- of a list
unfoldable pub numbers_of : {A : Type 0} → (A → Load) → List A → List ℕ
numbers_of load members = map (λ member. number_given (check_load (load member))) members

-- a load of one row
abbrev pub one : Row → Load
one r = load_of (r ∷ [])

-- a single step
abbrev pub step1 : List Step
step1 = 1 w 0 ∷ []

-- more windows than eight steps can hold
unfoldable pub five : List Window
five = window 1 2 2 ∷ window 3 4 2 ∷ window 5 6 2 ∷ window 7 8 2 ∷ window 8 9 2 ∷ []

-- each range, by its ends
pub record WorkedRanges : Type 0 where
  -- identifiers 0, 1 and 4,294,967,294
  pub identifiers :
      numbers_of (λ n. one (row_with n 201 0 1000000 step1 [])) (0 ∷ 1 ∷ 4294967294 ∷ [])
      ≡ 3 ∷ 0 ∷ 0 ∷ []
  -- boxes 0, 1 and 4,294,967,295
  pub boxes :
      numbers_of (λ n. one (row_with 101 n 0 1000000 step1 [])) (0 ∷ 1 ∷ 4294967295 ∷ [])
      ≡ 3 ∷ 0 ∷ 0 ∷ []
  -- phases 0, 86,400 and 86,401
  pub phases :
      numbers_of (λ n. one (row_with 101 201 n 1000000 step1 [])) (0 ∷ 86400 ∷ 86401 ∷ [])
      ≡ 0 ∷ 0 ∷ 3 ∷ []
  -- deadlines 0, 1, 1,000,000 and 1,000,001
  pub deadlines :
      numbers_of (λ n. one (row_with 101 201 0 n step1 [])) (0 ∷ 1 ∷ 1000000 ∷ 1000001 ∷ [])
      ≡ 3 ∷ 0 ∷ 0 ∷ 3 ∷ []
  -- 0, 1, 8 and 9 steps
  pub steps :
      numbers_of (λ n. one (row 1 (replicate n (1 w 0)) [])) (0 ∷ 1 ∷ 8 ∷ 9 ∷ [])
      ≡ 3 ∷ 0 ∷ 0 ∷ 3 ∷ []
  -- 0, 1, 4 and 5 windows
  pub windows :
      numbers_of (λ n. one (row 1 (replicate 8 (1 w 0)) (take n five))) (0 ∷ 1 ∷ 4 ∷ 5 ∷ [])
      ≡ 0 ∷ 0 ∷ 0 ∷ 3 ∷ []
  -- 0, 1, 24 and 25 rows
  pub rows :
      numbers_of (λ n. load_of (list_to (λ i. row (suc i) step1 []) n)) (0 ∷ 1 ∷ 24 ∷ 25 ∷ [])
      ≡ 0 ∷ 0 ∷ 0 ∷ 3 ∷ []
  -- costs 0, 1, 600 and 601
  pub costs :
      numbers_of (λ n. one (row 1 (n w 0 ∷ []) [])) (0 ∷ 1 ∷ 600 ∷ 601 ∷ [])
      ≡ 3 ∷ 0 ∷ 0 ∷ 3 ∷ []
  -- waits 0, 3,600 and 3,601 before another step
  pub waits :
      numbers_of (λ n. one (row 1 (1 w n ∷ 1 w 0 ∷ []) [])) (0 ∷ 3600 ∷ 3601 ∷ [])
      ≡ 0 ∷ 0 ∷ 3 ∷ []
  -- a last step's waits 0 and 1
  pub last-waits :
      numbers_of (λ n. one (row 1 (1 w 5 ∷ 1 w n ∷ []) [])) (0 ∷ 1 ∷ []) ≡ 0 ∷ 3 ∷ []
  -- limits 0, 1, 2 and 65,535 of two steps of cost 1: 1 is in its range, and below the chain
  pub limits :
      numbers_of
      (λ n. one (row 1 (1 w 0 ∷ 1 w 0 ∷ []) (window 1 2 n ∷ [])))
      (0 ∷ 1 ∷ 2 ∷ 65535 ∷ [])
      ≡ 3 ∷ 7 ∷ 0 ∷ 0 ∷ []
  -- past the last place a step of zeros is met, and a window of zeros
  pub past-places :
      number_given (check_step (row 1 step1 []) 8)
      ∷ number_given (check_window (row 1 step1 []) 4)
      ∷ []
      ≡ 3 ∷ 3 ∷ []
