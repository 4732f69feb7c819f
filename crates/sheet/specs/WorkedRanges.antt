-- "Before 3 to 7, of which too many rows comes first", and numbers that no field of a load holds,
-- worked: the numbers that sheets are refused with for their load. The answers are the documents',
-- taken by hand, and were asked of the second program too. To be read after WorkedCases. Rests on
-- D87 and D88.
use Rattle.std.specs.Prelude.{ℕ, ◌+◌, List, [], ◌∷◌, ◌++◌, ◌≡◌, replicate}
use Rattle.counting.specs.Lists.{join_to}
use Rattle.words.specs.Decimal.{text, decimal}
use Rattle.refusals.specs.Refusals.{number_given}
use Rattle.sheet.specs.Reading.{sheet_fault}
use Rattle.sheet.specs.WorkedSheets.{sheet_of, numbers_read}
use Rattle.sheet.specs.WorkedCases.{opens, follows, alone}

-- so many rows of one line
unfoldable pub rows_of_one : ℕ → List ℕ
rows_of_one n =
    join_to (λ i. decimal (301 + i) ++ text "," ++ decimal (501 + i)
    ++ sheet_of (",0,9,1,0," ∷ [])) n

-- sheets that are refused for their load, and beside them what comes first, by their numbers
pub record WorkedRanges : Type 0 where
  -- 3: a number of ten digits in each field, and in all of them; and numbers that are in range once
  -- they are cut to their field's bits
  pub wide :
      numbers_read
      (("9999999999,201,0,9,1,0," ∷ [])
      ∷ ("101,9999999999,0,9,1,0," ∷ [])
      ∷ ("101,201,9999999999,9,1,0," ∷ [])
      ∷ ("101,201,0,9999999999,1,0," ∷ [])
      ∷ ("101,201,0,9,9999999999,0," ∷ [])
      ∷ ("101,201,0,9,1,9999999999," ∷ [])
      ∷ ("101,201,0,9,1,0,9999999999" ∷ "101,201,0,9,1,0,-" ∷ [])
      ∷ ("9999999999,9999999999,9999999999,9999999999,9999999999,9999999999," ∷ [])
      ∷ ("4294967397,201,0,9,1,0," ∷ [])
      ∷ ("101,4294967497,0,9,1,0," ∷ [])
      ∷ ("101,201,4294967296,9,1,0," ∷ [])
      ∷ ("101,201,0,4294967305,1,0," ∷ [])
      ∷ ("101,201,0,9,65537,0," ∷ [])
      ∷ ("101,201,0,9,1,65536," ∷ [])
      ∷ ("101,201,0,9,1,0,65545" ∷ "101,201,0,9,1,0,-" ∷ [])
      ∷ [])
      ≡ replicate 15 3
  -- 3: limits 0 and 65,536, and 0 alone in its row is 20; an identifier of 0 on the first line; a
  -- last step's wait; nine steps
  pub out_of_range :
      numbers_read
      (("101,201,0,9,1,0,0" ∷ "101,201,0,9,1,0,-" ∷ [])
      ∷ ("101,201,0,9,1,0,65536" ∷ "101,201,0,9,1,0,-" ∷ [])
      ∷ ("101,201,0,9,1,0,0" ∷ [])
      ∷ ("0,201,0,9,1,0," ∷ [])
      ∷ ("101,201,0,9,1,1," ∷ [])
      ∷ replicate 9 "101,201,0,9,1,0,"
      ∷ replicate 8 "101,201,0,9,1,0,"
      ∷ [])
      ≡ 3 ∷ 3 ∷ 20 ∷ 3 ∷ 3 ∷ 3 ∷ 0 ∷ []
  -- an identifier that returns begins a new row, which is 4; a box that returns is 5; a limit below
  -- its chain is 7; and an identifier that differs past its 32 bits begins a row, which is 3
  pub of-the-load :
      numbers_read
      ((opens ∷ follows ∷ alone ∷ opens ∷ follows ∷ [])
      ∷ (opens ∷ follows ∷ "102,201,0,1000000,3,0," ∷ [])
      ∷ ("101,201,0,1000000,2,4,7" ∷ follows ∷ [])
      ∷ ("101,201,0,1000000,2,4," ∷ "4294967397,201,0,1000000,2,0," ∷ [])
      ∷ [])
      ≡ 4 ∷ 5 ∷ 7 ∷ 3 ∷ []
  -- the first faulty row decides: its 7 before a later row's wide identifier, and before its nine
  -- steps
  pub first-row :
      numbers_read
      (("101,201,0,1000000,2,4,7" ∷ follows ∷ "9999999999,202,0,9,1,0," ∷ [])
      ∷ ("101,201,0,1000000,2,4,7" ∷ follows ∷ replicate 9 "102,202,0,9,1,0,")
      ∷ [])
      ≡ 7 ∷ 7 ∷ []
  -- 21: the factory identifier, alone, on two lines of a row, with cost 0, and in a second row with
  -- the first's box; one more is wider than its field, and one less is accepted, in a box of that
  -- number; deadline 0 and nine steps are 3, a row's 7 comes before a later row's 21, and a line
  -- that differs is 19
  pub factory :
      numbers_read
      (("4294967295,1,0,9,1,0," ∷ [])
      ∷ ("4294967295,1,0,9,1,0," ∷ "4294967295,1,0,9,1,0," ∷ [])
      ∷ ("4294967295,1,0,9,0,0," ∷ [])
      ∷ ("101,201,0,9,1,0," ∷ "4294967295,201,0,9,1,0," ∷ [])
      ∷ ("4294967296,1,0,9,1,0," ∷ [])
      ∷ ("4294967294,4294967295,0,9,1,0," ∷ [])
      ∷ ("4294967295,1,0,0,1,0," ∷ [])
      ∷ replicate 9 "4294967295,1,0,9,1,0,"
      ∷ ("101,201,0,1000000,2,4,7" ∷ follows ∷ "4294967295,202,0,9,1,0," ∷ [])
      ∷ ("4294967295,1,0,9,1,0," ∷ "4294967295,2,0,9,1,0," ∷ [])
      ∷ [])
      ≡ 21 ∷ 21 ∷ 21 ∷ 21 ∷ 3 ∷ 0 ∷ 3 ∷ 3 ∷ 7 ∷ 19 ∷ []
  -- too many rows come first: 25, of which the first has a limit below its chain
  pub rows :
      number_given
      (sheet_fault (sheet_of ("101,201,0,1000000,2,4,7" ∷ follows ∷ []) ++ rows_of_one 24))
      ≡ 3
