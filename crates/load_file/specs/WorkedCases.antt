-- "Numbers given back", 1 to 8 and 21, worked: what reading small files gives. The answers are the
-- document's, taken by hand, and were asked of the second program too. To be read after Calls, and
-- after load_records' WorkedFile. Rests on D1, D6 to D8, D25 and D29.
use Rattle.std.specs.Prelude.{ℕ, List, [], ◌∷◌, ◌++◌, map, ◌≡◌, replicate, take, drop}
use Rattle.std.specs.Prelude.{Result, Ok, Err}
use Rattle.refusals.specs.declared.Refusal.{Refusal}
use Rattle.refusals.specs.declared.Refusal.TheVariants.{EndDiffers}
use Rattle.refusals.specs.Refusals.{number_of}
use Rattle.load.specs.declared.Load.{Load}
use Rattle.load_records.specs.WorkedFile.{joined, header, header2, row, steps}
use Rattle.load_records.specs.WorkedFile.{windows, end, file, spelled}
use Rattle.load_file.specs.Reading.{read_load}
use Rattle.load_file.specs.Calls.{ReadLoad}

-- the number of what a reading gives: 0 for a load
abbrev pub number_read : Result Load Refusal → ℕ
number_read (Ok load) = 0
number_read (Err refusal) = number_of refusal

-- the numbers that files are refused with, and 0 for one that is accepted
unfoldable pub numbers_read : List (List (List ℕ)) → List ℕ
numbers_read files = map (λ parts. number_read (read_load (joined parts))) files

-- files, by their numbers and by the load that is read
pub record WorkedCases : Type 0 where
  -- a file of one row is read as its load
  pub read : ReadLoad (joined file) (Ok spelled)
  -- a refused file gives the refusal alone
  pub refused : ReadLoad (joined file ++ 0 ∷ []) (Err EndDiffers)
  -- the file ends: no byte, a header cut, a header alone, a row cut, a row with no step, a step
  -- cut, a window cut, no end record, an end record cut
  pub ends-early :
      numbers_read
      ([]
      ∷ (take 3 (header 0) ∷ [])
      ∷ (header 0 ∷ [])
      ∷ (header 1 ∷ take 19 row ∷ [])
      ∷ (header 1 ∷ row ∷ [])
      ∷ (header 1 ∷ row ∷ take 11 steps ∷ [])
      ∷ (header 1 ∷ row ∷ steps ∷ take 5 windows ∷ [])
      ∷ (header 1 ∷ row ∷ steps ∷ windows ∷ [])
      ∷ (header 0 ∷ take 3 (end 0) ∷ [])
      ∷ [])
      ≡ replicate 9 1
  -- a row count one too large: 20 bytes are due where 4 are left
  pub row-too-many : numbers_read ((header 2 ∷ drop 1 file) ∷ []) ≡ 1 ∷ []
  -- a record that is cut is 1 whatever its mark is
  pub cut-before-mark :
      numbers_read (((0 ∷ 0 ∷ 0 ∷ []) ∷ []) ∷ (header 0 ∷ (0 ∷ 0 ∷ 0 ∷ []) ∷ []) ∷ [])
      ≡ 1 ∷ 1 ∷ []
  -- a mark differs, of each record and in each byte; and a window that stands before the steps
  pub marks :
      numbers_read
      (((0x44 ∷ drop 1 (header 0)) ∷ end 0 ∷ [])
      ∷ ((0x4C ∷ 0x4C ∷ drop 2 (header 0)) ∷ end 0 ∷ [])
      ∷ (header 1 ∷ (0x53 ∷ drop 1 row) ∷ drop 2 file)
      ∷ (header 1 ∷ (0x52 ∷ 0x52 ∷ drop 2 row) ∷ drop 2 file)
      ∷ (header 1 ∷ row ∷ (0x53 ∷ 0x57 ∷ drop 2 steps) ∷ drop 3 file)
      ∷ (header 1 ∷ row ∷ steps ∷ (0x57 ∷ 0x57 ∷ drop 2 windows) ∷ drop 4 file)
      ∷ (header 1 ∷ row ∷ windows ∷ steps ∷ drop 4 file)
      ∷ (header 0 ∷ (0x45 ∷ 0x45 ∷ 0 ∷ 0 ∷ []) ∷ (0 ∷ []) ∷ [])
      ∷ [])
      ≡ replicate 8 2
  -- a mark comes before its fields: a row, a step and a window with another, and a 0 behind it
  pub marks-first :
      numbers_read
      ((header 1 ∷ (0x53 ∷ 0x57 ∷ 0 ∷ 0 ∷ 0 ∷ 0 ∷ drop 6 row) ∷ drop 2 file)
      ∷ (header 1 ∷ row ∷ (0x53 ∷ 0x57 ∷ 0 ∷ 0 ∷ drop 4 steps) ∷ drop 3 file)
      ∷ (header 1 ∷ row ∷ steps ∷ (0x57 ∷ 0x57 ∷ 0 ∷ drop 3 windows) ∷ drop 4 file)
      ∷ [])
      ≡ replicate 3 2
  -- versions 0, 3 and 255; version 3 with 25 rows is 2, and 25 rows of version 1 and 2 are 3
  pub versions :
      numbers_read
      (((0x4C ∷ 0x44 ∷ 0 ∷ 0 ∷ []) ∷ end 0 ∷ [])
      ∷ ((0x4C ∷ 0x44 ∷ 3 ∷ 0 ∷ []) ∷ end 0 ∷ [])
      ∷ ((0x4C ∷ 0x44 ∷ 255 ∷ 0 ∷ []) ∷ end 0 ∷ [])
      ∷ ((0x4C ∷ 0x44 ∷ 3 ∷ 25 ∷ []) ∷ end 0 ∷ [])
      ∷ (header 25 ∷ end 0 ∷ [])
      ∷ (header2 25 ∷ end 0 ∷ [])
      ∷ [])
      ≡ 2 ∷ 2 ∷ 2 ∷ 2 ∷ 3 ∷ 3 ∷ []
  -- the end record: no rows and no steps, a step too many, its upper byte, too few; one byte that
  -- follows is 8, and so it is with a wrong count
  pub ends :
      numbers_read
      ((header 0 ∷ end 0 ∷ [])
      ∷ (header 0 ∷ end 1 ∷ [])
      ∷ (header 0 ∷ (0x45 ∷ 0x4E ∷ 0 ∷ 1 ∷ []) ∷ [])
      ∷ (header 1 ∷ row ∷ steps ∷ windows ∷ end 1 ∷ [])
      ∷ (header 0 ∷ end 0 ∷ (0 ∷ []) ∷ [])
      ∷ (header 0 ∷ end 1 ∷ (0 ∷ []) ∷ [])
      ∷ [])
      ≡ 0 ∷ 8 ∷ 8 ∷ 8 ∷ 8 ∷ 8 ∷ []
  -- a second row with the first's identifier is 4, before the 1 of its steps; with its box alone
  -- 5; with its identifier and 9 steps 3; with its box and the factory identifier 21, as alone
  pub shared :
      numbers_read
      ((header 2 ∷ row ∷ steps ∷ windows ∷ row ∷ [])
      ∷ (header 2 ∷ row ∷ steps ∷ windows ∷ (take 2 row ++ 9 ∷ drop 3 row) ∷ [])
      ∷ (header 2 ∷ row ∷ steps ∷ windows ∷ (take 18 row ++ 9 ∷ 1 ∷ []) ∷ [])
      ∷ (header 2 ∷ row ∷ steps ∷ windows ∷ (take 2 row ++ replicate 4 0xFF ++ drop 6 row) ∷ [])
      ∷ (header 1 ∷ (take 2 row ++ replicate 4 0xFF ++ drop 6 row) ∷ [])
      ∷ [])
      ≡ 4 ∷ 5 ∷ 3 ∷ 21 ∷ 21 ∷ []
  -- the first faulty record decides: a cost of 0 before a window's mark, a window's 6 and 7 before
  -- a wrong end count
  pub front-to-back :
      numbers_read
      ((header 1 ∷ row ∷ (0x53 ∷ 0x54 ∷ 0 ∷ 0 ∷ drop 4 steps) ∷ (0 ∷ drop 1 windows) ∷ end 2 ∷ [])
      ∷ (header 1 ∷ row ∷ steps ∷ (0x57 ∷ 0x4E ∷ 2 ∷ 2 ∷ drop 4 windows) ∷ end 9 ∷ [])
      ∷ (header 1 ∷ row ∷ steps ∷ (take 4 windows ++ 0x0E ∷ 0x0C ∷ []) ∷ end 9 ∷ [])
      ∷ [])
      ≡ 3 ∷ 6 ∷ 7 ∷ []
