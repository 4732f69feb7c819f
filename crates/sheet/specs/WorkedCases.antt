-- "18 .. 19 .. 20 ..; in line order, on one line in this order", worked: the numbers that sheets
-- are refused with for their lines. The answers are the documents', taken by hand, and were asked
-- of the second program too. To be read after WorkedSheets. Rests on D87.
use Prim.Native.String.{String}
use Rattle.std.specs.Prelude.{[], ◌∷◌, ◌≡◌, replicate}
use Rattle.sheet.specs.WorkedSheets.{numbers_read}

-- the first line of a window of limit 8
abbrev pub opens : String
opens = "101,201,0,1000000,2,4,8"

-- its second line
abbrev pub follows : String
follows = "101,201,0,1000000,2,0,-"

-- a line that stands in no window
abbrev pub alone : String
alone = "102,202,0,1000000,3,0,"

-- sheets, by their numbers
pub record WorkedCases : Type 0 where
  -- 19: another box, phase or deadline in a row, also where it differs past its 32 bits, and where
  -- both numbers are wider
  pub differs :
      numbers_read
      ((opens ∷ "101,202,0,1000000,2,0,-" ∷ [])
      ∷ (opens ∷ "101,201,1,1000000,2,0,-" ∷ [])
      ∷ (opens ∷ "101,201,0,1000001,2,0,-" ∷ [])
      ∷ (opens ∷ "101,4294967497,0,1000000,2,0,-" ∷ [])
      ∷ ("101,4294967296,0,9,1,0," ∷ "101,9999999999,0,9,1,0," ∷ [])
      ∷ ("101,201,4294967296,9,1,0," ∷ "101,201,9999999999,9,1,0," ∷ [])
      ∷ ("101,201,0,4294967296,1,0," ∷ "101,201,0,9999999999,1,0," ∷ [])
      ∷ [])
      ≡ replicate 7 19
  -- 20: a dash on the first line, on a row's first line, behind no window, and behind one that has
  -- ended; a window of one step, at the end, before another row, before a step of its own row, and
  -- before another limit; and two identifiers that are both wider than 32 bits
  pub dashes :
      numbers_read
      ((follows ∷ [])
      ∷ (opens ∷ follows ∷ "102,202,0,1000000,3,0,-" ∷ [])
      ∷ (alone ∷ "102,202,0,1000000,3,0,-" ∷ [])
      ∷ (opens ∷ follows ∷ "101,201,0,1000000,2,0," ∷ follows ∷ [])
      ∷ (opens ∷ [])
      ∷ (opens ∷ alone ∷ [])
      ∷ (opens ∷ "101,201,0,1000000,2,0," ∷ [])
      ∷ (opens ∷ opens ∷ follows ∷ [])
      ∷ ("4294967296,201,0,9,1,0,5" ∷ "9999999999,201,0,9,1,0,-" ∷ [])
      ∷ [])
      ≡ replicate 9 20
  -- on one line 18 before 19, and 19 before 20, of this line's dash and of a window of one step
  -- that is found there
  pub on-one-line :
      numbers_read
      ((opens ∷ "101,0202,0,1000000,2,0,-" ∷ [])
      ∷ (alone ∷ "102,7,0,1000000,3,0,-" ∷ [])
      ∷ ("102,202,0,1000000,3,0,5" ∷ "102,7,0,1000000,3,0," ∷ [])
      ∷ ("102,202,0,1000000,3,0,5" ∷ "102,07,0,1000000,3,0," ∷ [])
      ∷ [])
      ≡ 18 ∷ 19 ∷ 19 ∷ 18 ∷ []
  -- in line order: 19 and 20, that of a window of one step too, before a later line's 18; 19 before
  -- the end's 20; and all of them before 3
  pub in-line-order :
      numbers_read
      ((alone ∷ "102,7,0,1000000,3,0," ∷ "0" ∷ [])
      ∷ (follows ∷ "0" ∷ [])
      ∷ ("101,201,0,0,1,0," ∷ "0" ∷ [])
      ∷ ("101,201,0,0,1,0," ∷ "102,202,0,9,1,0,-" ∷ [])
      ∷ (opens ∷ alone ∷ "0" ∷ [])
      ∷ (alone ∷ "102,7,0,1000000,3,0,5" ∷ [])
      ∷ ("101,201,0,0,1,0," ∷ "101,7,0,0,1,0," ∷ [])
      ∷ [])
      ≡ 19 ∷ 20 ∷ 18 ∷ 20 ∷ 20 ∷ 19 ∷ 19 ∷ []
