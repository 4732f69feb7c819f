-- "Blood gas boxes must go first among equals. [..] Candidates are tried by step number, then
-- higher class, then row. The plan for windows keeps its own order": worked cases (2026-05). The
-- answers come from documents 01 and 02 by hand; on each the nearest wrong rule gives another. To
-- be read after WorkedStates, Run and Plan.
use Rattle.std.specs.Prelude.{ℕ, [], ◌∷◌, ◌≡◌}
use Rattle.load.specs.declared.Row.{Row}
use Rattle.load.specs.declared.Load.{Load}
use Rattle.load.specs.Load.{only_head}
use Rattle.load.specs.View.{view_of}
use Rattle.load.specs.Notation.{◌w◌, window, classed, row_by, row, load_of}
use Rattle.rules.specs.State.{State}
use Rattle.rules.specs.Ready.{candidates}
use Rattle.rules.specs.Plan.{stack}
use Rattle.rules.specs.Run.{schedule}
use Rattle.rules.specs.WorkedStates.{slot, has, state}

-- a row of a class
abbrev pub of_class : ℕ → Row → Row
of_class class row = classed class only_head row

-- row n of a class, with two steps of cost 1
abbrev pub twice : ℕ → ℕ → Row
twice n class = of_class class (row n (1 w 0 ∷ 1 w 0 ∷ []) [])

-- row n of a class, with two steps of cost 1 in a window of that limit
abbrev pub windowed : ℕ → ℕ → ℕ → Row
windowed n class limit = of_class class (row n (1 w 0 ∷ 1 w 0 ∷ []) (window 1 2 limit ∷ []))

-- four rows of these classes
abbrev pub four : ℕ → ℕ → ℕ → ℕ → Load
four a b c d = load_of (twice 1 a ∷ twice 2 b ∷ twice 3 c ∷ twice 4 d ∷ [])

-- row 1, in a window, of class 3, and row 2 with one step
abbrev pub urgent_window : Load
urgent_window = load_of (windowed 1 3 20 ∷ row 2 (5 w 0 ∷ []) [] ∷ [])

-- rows 1 and 2 have opened their windows one after the other
abbrev pub both_open : State
both_open = state 2 (has 1 1 0 ∷ has 1 2 1 ∷ [])

-- rows by their places from 0, and slots as the program prints them
pub record WorkedUrgent : Type 0 where
  -- "then higher class, then row": class 3, the two of class 1 by row, class 0
  pub by-class : candidates (view_of (four 0 1 3 1)) (state 0 []) ≡ 2 ∷ 1 ∷ 3 ∷ 0 ∷ []
  -- one class throughout: by row
  pub one_class : candidates (view_of (four 2 2 2 2)) (state 0 []) ≡ 0 ∷ 1 ∷ 2 ∷ 3 ∷ []
  -- "by step number" first: row 2's first step before row 1's second, whose class is higher
  pub step-first : candidates (view_of urgent_window) (state 1 (has 1 1 0 ∷ [])) ≡ 1 ∷ 0 ∷ []
  -- "The plan for windows keeps its own order": by the moment that they are due, then row
  pub stack-by-due :
      stack (view_of (load_of (windowed 1 0 9 ∷ windowed 2 3 9 ∷ []))) both_open ≡ 0 ∷ 1 ∷ []
  pub stack-by-row :
      stack (view_of (load_of (windowed 1 0 10 ∷ windowed 2 3 9 ∷ []))) both_open ≡ 0 ∷ 1 ∷ []
  -- load A with classes 0, 0 and 3: row 3 goes first, and the others as by row
  pub load-a :
      schedule
      (view_of
      (load_of
      (row_by 1 0 20 (2 w 10 ∷ 3 w 0 ∷ []) []
      ∷ row_by 2 0 19 (1 w 4 ∷ 2 w 0 ∷ []) []
      ∷ of_class 3 (row_by 3 0 18 (2 w 3 ∷ 1 w 0 ∷ []) [])
      ∷ [])))
      ≡ slot 0 3 1 ∷ slot 2 1 1 ∷ slot 4 2 1 ∷ slot 5 3 2 ∷ slot 9 2 2 ∷ slot 14 1 2 ∷ []
  -- classes 0, 1 and 3: rows 3, 2 and 1, and again
  pub falling :
      schedule (view_of (load_of (twice 1 0 ∷ twice 2 1 ∷ twice 3 3 ∷ [])))
      ≡ slot 0 3 1 ∷ slot 1 2 1 ∷ slot 2 1 1 ∷ slot 3 3 2 ∷ slot 4 2 2 ∷ slot 5 1 2 ∷ []
  -- row 2's first step at 1, though row 1's second is ready: by class first it would be that
  pub waits-for-step : schedule (view_of urgent_window) ≡ slot 0 1 1 ∷ slot 1 2 1 ∷ slot 6 1 2 ∷ []
