-- "Route sheets as text", worked: load B as its five lines, and the numbers that sheets are refused
-- with. The answers are the documents', taken by hand, and were asked of the second program too. To
-- be read after Calls. Rests on D86 to D88.
use Rattle.std.specs.Prelude.{ℕ, List, [], ◌∷◌, ◌++◌, map, ◌≡◌, replicate, take, Ok, Err}
use Prim.Native.String.{String}
use Rattle.counting.specs.Lists.{join_in}
use Rattle.words.specs.Decimal.{text}
use Rattle.refusals.specs.declared.Refusal.TheVariants.{OutputShort, WindowDash}
use Rattle.refusals.specs.Refusals.{number_given}
use Rattle.load.specs.declared.Load.{Load}
use Rattle.load.specs.Load.{zero_load}
use Rattle.load.specs.Notation.{◌w◌, window, row, load_of}
use Rattle.load_file.specs.RoundTrip.{accepted}
use Rattle.sheet_line.specs.LineText.{return, feed}
use Rattle.sheet.specs.Reading.{sheet_fault}
use Rattle.sheet.specs.Calls.{ReadSheet, WriteSheet}

-- lines of text, each with its CR LF
unfoldable pub sheet_of : List String → List ℕ
sheet_of lines = join_in (λ line. text line ++ return ∷ feed ∷ []) lines

-- the numbers that sheets are refused with, and 0 for one that is accepted
unfoldable pub numbers_read : List (List String) → List ℕ
numbers_read sheets = map (λ lines. number_given (sheet_fault (sheet_of lines))) sheets

-- load B: 2 w4 2 (window 1 to 2, limit 8) / 3 / 2 w1 1 (window 1 to 2, limit 6)
unfoldable pub load_b : Load
load_b =
    load_of
    (row 1 (2 w 4 ∷ 2 w 0 ∷ []) (window 1 2 8 ∷ [])
    ∷ row 2 (3 w 0 ∷ []) []
    ∷ row 3 (2 w 1 ∷ 1 w 0 ∷ []) (window 1 2 6 ∷ [])
    ∷ [])

-- its sheet, of 124 bytes
abbrev pub lines_b : List String
lines_b =
    "101,201,0,1000000,2,4,8"
    ∷ "101,201,0,1000000,2,0,-"
    ∷ "102,202,0,1000000,3,0,"
    ∷ "103,203,0,1000000,2,1,6"
    ∷ "103,203,0,1000000,1,0,-"
    ∷ []

-- sheets that are written, and sheets that are read
pub record WorkedSheets : Type 0 where
  -- B is written into a room of exactly its 124 bytes
  pub written : WriteSheet load_b (replicate 124 7) (Ok 124) (sheet_of lines_b)
  -- into a room of one byte more, which stays
  pub room-more : WriteSheet load_b (replicate 125 7) (Ok 124) (sheet_of lines_b ++ 7 ∷ [])
  -- and into one of a byte less it is not written
  pub room-less :
      WriteSheet load_b (replicate 123 7) (Err OutputShort) (replicate 123 7)
  -- the load of no rows is written as no byte, and no byte is read as that load
  pub none_written : WriteSheet zero_load [] (Ok 0) []
  pub none_read : ReadSheet [] (accepted zero_load)
  -- B is read back
  pub read : ReadSheet (sheet_of lines_b) (accepted load_b)
  -- a refused sheet gives the refusal alone: B without its last line
  pub refused : ReadSheet (sheet_of (take 4 lines_b)) (Err WindowDash)
  -- a row whose steps in order are window, no window, window of three: first, last and limit
  pub windows :
      ReadSheet
      (sheet_of
      ("101,201,0,1000000,1,0,9"
      ∷ "101,201,0,1000000,1,0,-"
      ∷ "101,201,0,1000000,1,0,"
      ∷ "101,201,0,1000000,1,0,7"
      ∷ "101,201,0,1000000,1,0,-"
      ∷ "101,201,0,1000000,1,0,-"
      ∷ []))
      (accepted
      (load_of (row 1 (replicate 6 (1 w 0)) (window 1 2 9 ∷ window 4 6 7 ∷ []) ∷ [])))
  -- 18: a leading zero, eleven digits, quotes, six fields, eight fields, a header, an empty line at
  -- the end, a space, a minus sign, no digit, a leading zero in the limit, two dashes, a dash and a
  -- digit, a digit and a dash
  pub malformed :
      numbers_read
      (("0101,201,0,9,1,0," ∷ [])
      ∷ ("10000000000,201,0,9,1,0," ∷ [])
      ∷ ("\"101\",201,0,9,1,0," ∷ [])
      ∷ ("101,201,0,9,1,0" ∷ [])
      ∷ ("101,201,0,9,1,0,," ∷ [])
      ∷ ("identifier,box,phase,deadline,cost,wait,limit" ∷ [])
      ∷ ("101,201,0,9,1,0," ∷ "" ∷ [])
      ∷ ("101, 201,0,9,1,0," ∷ [])
      ∷ ("101,201,-0,9,1,0," ∷ [])
      ∷ ("101,,0,9,1,0," ∷ [])
      ∷ ("101,201,0,9,1,0,08" ∷ "101,201,0,9,1,0,-" ∷ [])
      ∷ ("101,201,0,9,1,0,8" ∷ "101,201,0,9,1,0,--" ∷ [])
      ∷ ("101,201,0,9,1,0,8" ∷ "101,201,0,9,1,0,-1" ∷ [])
      ∷ ("101,201,0,9,1,0,8-" ∷ "101,201,0,9,1,0,-" ∷ [])
      ∷ [])
      ≡ replicate 14 18
  -- 18 too: one byte, no CR LF at the end, LF alone, two of them, CR alone, LF CR, and a byte order
  -- mark
  pub line-ends :
      map
      (λ bs. number_given (sheet_fault bs))
      (text "0"
      ∷ text "101,201,0,9,1,0,"
      ∷ (text "101,201,0,9,1,0," ++ feed ∷ [])
      ∷ (text "101,201,0,9,1,0," ++ feed ∷ feed ∷ [])
      ∷ (text "101,201,0,9,1,0," ++ return ∷ [])
      ∷ (text "101,201,0,9,1,0," ++ feed ∷ return ∷ [])
      ∷ (0xEF ∷ 0xBB ∷ 0xBF ∷ text "101,201,0,9,1,0," ++ return ∷ feed ∷ [])
      ∷ [])
      ≡ replicate 7 18
