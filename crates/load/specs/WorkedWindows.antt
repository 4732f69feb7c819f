-- "A load" and numbers 3, 6 and 7 of windows, worked; which steps and waits are embedded, and
-- chains. The answers are the document's, taken by hand; the numbers were asked of the second
-- program too. To be read after WorkedRanges. Rests on D4.
use Rattle.std.specs.Prelude.{true, false, List, [], ◌∷◌, ◌++◌, map, ◌≡◌, replicate}
use Rattle.counting.specs.Lists.{list_to}
use Rattle.load.specs.declared.Step.{Step}
use Rattle.load.specs.declared.Window.{Window}
use Rattle.load.specs.declared.Load.{Load}
use Rattle.load.specs.View.{view_of, embedded, is_free, free_wait, embedded_wait, steps_in_all}
use Rattle.load.specs.View.{chain_between}
use Rattle.load.specs.Faults.{chain_of}
use Rattle.load.specs.Acceptable.{chain_in}
use Rattle.load.specs.Notation.{◌w◌, window, row, load_placed}
use Rattle.load.specs.WorkedRanges.{numbers_of, one, step1}

-- 5 w7 2 w4 2 w9 1
abbrev pub waiting : List Step
waiting = 5 w 7 ∷ 2 w 4 ∷ 2 w 9 ∷ 1 w 0 ∷ []

-- a load of one row of six steps, each of cost 1 and with no wait
abbrev pub six : List Window → Load
six windows = one (row 1 (replicate 6 (1 w 0)) windows)

-- windows, by their numbers; embedded, free and chains, by places counted from 0
pub record WorkedWindows : Type 0 where
  -- 0 for a first step, a last step or a limit is 3, before any 6
  pub zeros :
      numbers_of
      (λ t. six (t ∷ []))
      (window 0 2 9
      ∷ window 1 0 9
      ∷ window 1 2 0
      ∷ window 0 0 9
      ∷ window 0 7 9
      ∷ window 7 0 9
      ∷ window 2 1 0
      ∷ [])
      ≡ 3 ∷ 3 ∷ 3 ∷ 3 ∷ 3 ∷ 3 ∷ 3 ∷ []
  -- a last step that is not after the first, or names no step, is 6, before 7
  pub last-steps :
      numbers_of
      (λ t. six (t ∷ []))
      (window 2 2 9
      ∷ window 2 1 9
      ∷ window 5 7 9
      ∷ window 9 255 9
      ∷ window 3 7 1
      ∷ window 5 6 2
      ∷ [])
      ≡ 6 ∷ 6 ∷ 6 ∷ 6 ∷ 6 ∷ 0 ∷ []
  -- behind a window of steps 3 and 4: one that shares a step, shares and ends later, precedes,
  -- shares with too low a limit, and one that stands clear
  pub in_order :
      numbers_of
      (λ t. six (window 3 4 2 ∷ t ∷ []))
      (window 4 5 9 ∷ window 3 6 9 ∷ window 1 2 9 ∷ window 4 5 1 ∷ window 5 6 2 ∷ [])
      ≡ 6 ∷ 6 ∷ 6 ∷ 6 ∷ 0 ∷ []
  -- behind windows of steps 1 and 2, and of 3 and 4: one that shares a step with the nearer, and
  -- one that stands clear
  pub third-window :
      numbers_of
      (λ t. six (window 1 2 2 ∷ window 3 4 2 ∷ t ∷ []))
      (window 4 5 9 ∷ window 5 6 2 ∷ [])
      ≡ 6 ∷ 0 ∷ []
  -- a window's limit one below its chain, and equal to it: steps 2 to 3, and 1 to 4
  pub limit-and-chain :
      numbers_of
      (λ t. one (row 1 waiting (t ∷ [])))
      (window 2 3 7 ∷ window 2 3 8 ∷ window 1 4 29 ∷ window 1 4 30 ∷ [])
      ≡ 7 ∷ 0 ∷ 7 ∷ 0 ∷ []
  -- the first faulty window decides: 7 before the next one's 3, and 6 before it
  pub first-window :
      numbers_of
      (λ t. six (t ∷ window 0 0 0 ∷ []))
      (window 1 2 1 ∷ window 2 2 9 ∷ window 1 2 2 ∷ [])
      ≡ 7 ∷ 6 ∷ 3 ∷ []
  -- the chain of steps 2 to 3, and 1 to 4: 2 + 4 + 2, and 5 + 7 + 2 + 4 + 2 + 9 + 1
  pub chains :
      map (chain_of (row 1 waiting [])) (window 2 3 1 ∷ window 1 4 1 ∷ []) ≡ 8 ∷ 30 ∷ []
  -- the same of the view
  pub chains-in :
      map (chain_in (view_of (one (row 1 waiting []))) 0) (window 2 3 1 ∷ window 1 4 1 ∷ [])
      ≡ 8 ∷ 30 ∷ []
  -- the same of places: from 1, 2, 3 and 5 on and below 3; from 2 on, as far as there are steps
  pub chains-between :
      map (λ a. chain_between (row 1 waiting []) a 3) (1 ∷ 2 ∷ 3 ∷ 5 ∷ [])
      ++ chain_between (row 1 waiting []) 2 9 ∷ []
      ≡ 8 ∷ 2 ∷ 0 ∷ 0 ∷ 12 ∷ []
  -- six steps with a window from 2 to 4: steps 3 and 4 are embedded
  pub steps-embedded :
      list_to (embedded (view_of (six (window 2 4 9 ∷ []))) 0) 6
      ≡ false ∷ false ∷ true ∷ true ∷ false ∷ false ∷ []
  -- every other step is free; there is no seventh
  pub steps-free :
      list_to (is_free (view_of (six (window 2 4 9 ∷ []))) 0) 7
      ≡ true ∷ true ∷ false ∷ false ∷ true ∷ true ∷ false ∷ []
  -- a wait is embedded as the step after it is
  pub waits-embedded :
      list_to (embedded_wait (view_of (six (window 2 4 9 ∷ []))) 0) 6
      ≡ false ∷ true ∷ true ∷ false ∷ false ∷ false ∷ []
  -- a wait is free as the step after it is; none follows the last step
  pub waits-free :
      list_to (free_wait (view_of (six (window 2 4 9 ∷ []))) 0) 6
      ≡ true ∷ false ∷ false ∷ true ∷ true ∷ false ∷ []
  -- two windows, from 1 to 2 and from 4 to 6
  pub two-windows :
      list_to (embedded (view_of (six (window 1 2 9 ∷ window 4 6 9 ∷ []))) 0) 6
      ≡ false ∷ true ∷ false ∷ false ∷ true ∷ true ∷ []
  -- the steps of two rows, four and one, where 0, 1, 2 and 25 rows are counted
  pub steps-in-all :
      map
      (λ n. steps_in_all (view_of (load_placed n (row 1 waiting [] ∷ row 2 step1 [] ∷ []))))
      (0 ∷ 1 ∷ 2 ∷ 25 ∷ [])
      ≡ 0 ∷ 4 ∷ 5 ∷ 5 ∷ []
