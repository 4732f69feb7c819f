-- "Version 2 of the load file carries class and head, one byte each, after the row's window count",
-- worked: what reading small files of version 2 gives. The answers are the request's, taken by hand
-- and from the second program. To be read after WorkedCases. Rests on D92.
use Rattle.std.specs.Prelude.{[], ◌∷◌, ◌++◌, ◌≡◌, replicate, take, drop, Ok}
use Rattle.load_records.specs.WorkedFile.{
  joined,
  header,
  header2,
  row,
  class_head,
  steps,
  windows,
  end,
  file,
  file2,
  spelled2,
}
use Rattle.load_file.specs.Calls.{ReadLoad}
use Rattle.load_file.specs.WorkedCases.{numbers_read}

-- files of version 2
pub record WorkedVersions : Type 0 where
  -- a file of one row is read as its load, with class 3 and with class 0; the empty file too
  pub read : ReadLoad (joined (file2 3 1)) (Ok (spelled2 3 1))
  pub read_plain : ReadLoad (joined (file2 0 1)) (Ok (spelled2 0 1))
  pub empty : numbers_read ((header2 0 ∷ end 0 ∷ []) ∷ []) ≡ 0 ∷ []
  -- class 4 and 255, head 0, 2 and 255
  pub ranges :
      numbers_read (file2 4 1 ∷ file2 255 1 ∷ file2 0 0 ∷ file2 0 2 ∷ file2 0 255 ∷ [])
      ≡ replicate 5 3
  -- class and head exchanged are class 1 and head 0, or class 1 and head 3
  pub exchanged : numbers_read (file2 1 0 ∷ file2 1 3 ∷ []) ≡ 3 ∷ 3 ∷ []
  -- class 4 comes before the factory identifier's 21, before a taken identifier's 4 and before a
  -- step
  pub fields-first :
      numbers_read
      ((header2 1 ∷ (take 2 row ++ replicate 4 0xFF ++ drop 6 row) ∷ class_head 4 1 ∷ [])
      ∷ (header2 2 ∷ row ∷ class_head 0 1 ∷ steps ∷ windows ∷ row ∷ class_head 4 1 ∷ [])
      ∷ (header2 2 ∷ row ∷ class_head 0 1 ∷ steps ∷ windows ∷ row ∷ class_head 3 1 ∷ [])
      ∷ (header2 1 ∷ row ∷ class_head 4 1 ∷ [])
      ∷ (header2 1 ∷ row ∷ class_head 3 1 ∷ [])
      ∷ [])
      ≡ 3 ∷ 3 ∷ 4 ∷ 3 ∷ 1 ∷ []
  -- cut 20 and 21 bytes into its first row record
  pub cut :
      numbers_read ((header2 1 ∷ row ∷ []) ∷ (header2 1 ∷ row ∷ (3 ∷ []) ∷ []) ∷ []) ≡ 1 ∷ 1 ∷ []
  -- version 1's records behind version 2's header: the step's mark is a class of 83; version 2's
  -- behind version 1's: class and head are no step's mark
  pub other-header :
      numbers_read ((header2 1 ∷ drop 1 file) ∷ (header 1 ∷ drop 1 (file2 3 1)) ∷ [])
      ≡ 3 ∷ 2 ∷ []
