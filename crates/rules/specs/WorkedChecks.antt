-- "The schedule check takes 3 to 7, then 12, then slot by slot 13 to 17, and says yes when none is
-- met": worked cases, the number that each list of slots is given. The answers come from document
-- 01 by hand and from the second program; on each the nearest wrong rule gives another. To be read
-- after WorkedStates. Rests on D21 and D22.
use Rattle.std.specs.Prelude.{ℕ, List, [], ◌∷◌, ◌≡◌}
use Rattle.load.specs.declared.Load.{Load}
use Rattle.load.specs.Notation.{◌w◌, window, row_by, row, load_of}
use Rattle.rules.specs.declared.Slot.{Slot}
use Rattle.rules.specs.WorkedStates.{slot, findings}

-- row 1, phase 1, deadline 12: 2 w3 2 in a window of 8; row 2, deadline 5: 2
abbrev pub pair : Load
pair =
    load_of
    (row_by 1 1 12 (2 w 3 ∷ 2 w 0 ∷ []) (window 1 2 8 ∷ []) ∷ row_by 2 0 5 (2 w 0 ∷ []) [] ∷ [])

-- the pair's slots, row 2's step between row 1's steps: their starts in the list's order
abbrev pub between : ℕ → ℕ → ℕ → List Slot
between first second third = slot first 1 1 ∷ slot second 2 1 ∷ slot third 1 2 ∷ []

-- the pair's slots, row 2's step behind row 1's steps: their starts in the list's order
abbrev pub behind : ℕ → ℕ → ℕ → List Slot
behind first second third = slot first 1 1 ∷ slot second 1 2 ∷ slot third 2 1 ∷ []

-- row 1: 1 w0 1; row 2: 1
abbrev pub loose : Load
loose = load_of (row 1 (1 w 0 ∷ 1 w 0 ∷ []) [] ∷ row 2 (1 w 0 ∷ []) [] ∷ [])

-- one row of four steps in two windows
abbrev pub twice : Load
twice =
    load_of
    (row 1 (1 w 0 ∷ 1 w 0 ∷ 1 w 0 ∷ 1 w 0 ∷ []) (window 1 2 2 ∷ window 3 4 2 ∷ []) ∷ [])

-- the check
pub record WorkedChecks : Type 0 where
  -- yes, with everything at its last: a slot starts as the one before ends, at its phase, as its
  -- wait is over; it ends its window and its row as they are due
  pub yes : findings pair (between 1 3 6 ∷ between 1 3 7 ∷ []) ≡ 0 ∷ 0 ∷ []
  -- which row goes first is not asked
  pub any_order : findings loose ((slot 0 1 1 ∷ slot 1 1 2 ∷ slot 2 2 1 ∷ []) ∷ []) ≡ 0 ∷ []
  -- 12: a slot too few, a slot too many; and before 13, though there is no row 9
  pub count :
      findings pair
      ((slot 1 1 1 ∷ slot 3 2 1 ∷ [])
      ∷ (slot 1 1 1 ∷ slot 3 2 1 ∷ slot 6 1 2 ∷ slot 8 1 3 ∷ [])
      ∷ (slot 1 9 1 ∷ slot 3 2 1 ∷ [])
      ∷ []) ≡ 12 ∷ 12 ∷ 12 ∷ []
  -- 13, "a slot's row or step does not exist": rows 0 and 3, row 2's steps 0 and 2
  pub no_such :
      findings pair
      ((slot 1 1 1 ∷ slot 3 0 1 ∷ slot 6 1 2 ∷ [])
      ∷ (slot 1 1 1 ∷ slot 3 3 1 ∷ slot 6 1 2 ∷ [])
      ∷ (slot 1 1 1 ∷ slot 3 2 0 ∷ slot 6 1 2 ∷ [])
      ∷ (slot 1 2 1 ∷ slot 3 2 2 ∷ slot 6 1 1 ∷ [])
      ∷ []) ≡ 13 ∷ 13 ∷ 13 ∷ 13 ∷ []
  -- 13, "the step is not that row's next": step 2 first, step 1 twice
  pub not-next :
      findings pair
      ((slot 1 1 2 ∷ slot 3 2 1 ∷ slot 6 1 1 ∷ [])
      ∷ (slot 1 1 1 ∷ slot 3 2 1 ∷ slot 6 1 1 ∷ [])
      ∷ []) ≡ 13 ∷ 13 ∷ []
  -- 13, "its start exceeds 1,000,000": at it the row is late, and that is all
  pub past-last-moment : findings pair (behind 1 6 1000000 ∷ behind 1 6 1000001 ∷ []) ≡ 17 ∷ 13 ∷ []
  -- 13 comes before 14: there is no row 9, and the slot overlaps too
  pub no-such-first : findings pair ((slot 1 1 1 ∷ slot 2 9 1 ∷ slot 6 1 2 ∷ []) ∷ []) ≡ 13 ∷ []
  -- 14, "a slot starts before the previous slot ends": at 2, and the one before ends at 3; at 7,
  -- and it ends at 8, where the row is late too
  pub overlaps : findings pair (between 1 2 6 ∷ behind 1 6 7 ∷ []) ≡ 14 ∷ 14 ∷ []
  -- 14 comes before 15: row 1's step 2 overlaps its step 1, and its wait is not over
  pub overlaps-first : findings pair (behind 1 2 8 ∷ []) ≡ 14 ∷ []
  -- 15, "before its phase": at 0
  pub before-phase : findings pair (between 0 3 6 ∷ []) ≡ 15 ∷ []
  -- 15, "before the step before it in the row has ended and its wait has passed": at 5, where
  -- nothing overlaps; from the start of that step 4 would do
  pub before-wait : findings pair (between 1 3 5 ∷ behind 1 5 7 ∷ []) ≡ 15 ∷ 15 ∷ []
  -- 15 comes before 17: at 4, before its phase 5, it ends at 5, after its deadline 3
  pub early-first : findings (load_of (row_by 1 5 3 (1 w 0 ∷ []) [] ∷ [])) ((slot 4 1 1 ∷ []) ∷ [])
      ≡ 15 ∷ []
  -- 16, "it ends a window late": at 10, opened at 1 with a limit of 8
  pub window-late : findings pair (between 1 3 8 ∷ []) ≡ 16 ∷ []
  -- of two windows the second is asked for too: 2 + 2 is over at 5
  pub second-window :
      findings twice
      ((slot 0 1 1 ∷ slot 1 1 2 ∷ slot 2 1 3 ∷ slot 3 1 4 ∷ [])
      ∷ (slot 0 1 1 ∷ slot 1 1 2 ∷ slot 2 1 3 ∷ slot 4 1 4 ∷ [])
      ∷ []) ≡ 0 ∷ 16 ∷ []
  -- 16 comes before 17: at 13 it ends the window and the row late
  pub window-late-first : findings pair (between 1 3 11 ∷ []) ≡ 16 ∷ []
  -- 17, "it ends its row late": row 2 ends at 6, and its deadline is 5
  pub row-late : findings pair (between 1 4 7 ∷ []) ≡ 17 ∷ []
  -- 17 is for what ends the row: row 1's step 1 ends at 13, and its deadline is 12
  pub row_ends : findings pair ((slot 11 1 1 ∷ slot 13 9 1 ∷ slot 16 1 2 ∷ []) ∷ []) ≡ 13 ∷ []
  -- "slot by slot": the first slot is late, and the second of no row
  pub slot-by-slot :
      findings pair ((slot 4 2 1 ∷ slot 6 9 1 ∷ slot 9 1 1 ∷ []) ∷ []) ≡ 17 ∷ []
  -- "takes 3 to 7, then 12": a cost of 0, with a slot too few
  pub load-first :
      findings (load_of (row 1 (0 w 0 ∷ []) [] ∷ [])) ([] ∷ []) ≡ 3 ∷ []
  -- a limit below its chain, with slots of no row
  pub load-first-too :
      findings (load_of (row 1 (2 w 4 ∷ 2 w 0 ∷ []) (window 1 2 7 ∷ []) ∷ []))
      ((slot 0 9 9 ∷ slot 0 9 9 ∷ []) ∷ []) ≡ 7 ∷ []
