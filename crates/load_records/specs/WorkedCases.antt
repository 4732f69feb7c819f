-- "Load file", worked: what writing a small load gives, and the records of a row. The answers are
-- the document's, taken by hand. To be read after WorkedFile. Rests on D75
-- and D92.
use Rattle.std.specs.Prelude.{[], ◌∷◌, ◌++◌, replicate, take, Ok, Err}
use Rattle.refusals.specs.declared.Refusal.TheVariants.{OutOfRange, OutputShort, NotCarried}
use Rattle.load.specs.declared.Row.{Row}
use Rattle.load.specs.Load.{row_at}
use Rattle.load_records.specs.Calls.{RowSize, RowRecordsOf, Version1Size, Version2Size}
use Rattle.load_records.specs.Calls.{WriteVersion1, WriteVersion2}
use Rattle.load_records.specs.WorkedFile.{
  joined,
  row,
  class_head,
  steps,
  windows,
  file,
  file2,
  spelled,
  spelled2,
}

-- a row with more steps and windows than have a place
unfoldable pub overfull : Row → Row
overfull row =
    record {
      identifier = row.identifier;
      box_number = row.box_number;
      phase = row.phase;
      deadline = row.deadline;
      steps = 9;
      windows = 5;
      class = row.class;
      head = row.head;
      step = row.step;
      window = row.window;
    }

-- a load of one row, its records and its files
pub record WorkedCases : Type 0 where
  -- the row's records have 40 bytes; 54 places behind them are zero
  pub records :
      RowRecordsOf (row_at (spelled2 3 1) 0)
      (record { length = 40; bytes = row ++ class_head 3 1 ++ steps ++ windows ++ replicate 54 0 })
  -- with 9 steps and 5 windows in memory it has 8 and 4, and the records of zeros behind its own
  pub records-counted :
      RowRecordsOf (overfull (row_at (spelled2 3 1) 0))
      (record {
        length = 94;
        bytes =
            take 18 row
            ++ 8 ∷ 4 ∷ []
            ++ class_head 3 1
            ++ steps
            ++ joined (replicate 6 (0x53 ∷ 0x54 ∷ 0 ∷ 0 ∷ 0 ∷ 0 ∷ []))
            ++ windows
            ++ joined (replicate 3 (0x57 ∷ 0x4E ∷ 0 ∷ 0 ∷ 0 ∷ 0 ∷ []));
      })
  -- the load's file has 46 bytes, and 48 in version 2
  pub size : Version1Size spelled 46
  pub size2 : Version2Size spelled 48
  -- the load is written as its file, into a room of exactly its 46 bytes
  pub written : WriteVersion1 spelled (replicate 46 7) (Ok tt) (joined file)
  -- into a room of one byte more, which stays
  pub room-more : WriteVersion1 spelled (replicate 47 7) (Ok tt) (joined file ++ 7 ∷ [])
  -- and into one of a byte less it is not written
  pub room-less : WriteVersion1 spelled (replicate 45 7) (Err OutputShort) (replicate 45 7)
  -- as version 2 into a room of its 48 bytes, and not into one of 47
  pub written2 : WriteVersion2 spelled (replicate 48 7) (Ok tt) (joined (file2 0 1))
  pub room-less2 : WriteVersion2 spelled (replicate 47 7) (Err OutputShort) (replicate 47 7)
  -- with class 3 it is written as version 2, and not as version 1, also where there is no room; it
  -- has no size there
  pub urgent2 : WriteVersion2 (spelled2 3 1) (replicate 48 7) (Ok tt) (joined (file2 3 1))
  pub urgent : WriteVersion1 (spelled2 3 1) (replicate 48 7) (Err NotCarried) (replicate 48 7)
  pub urgent-no-room : WriteVersion1 (spelled2 3 1) [] (Err NotCarried) []
  pub urgent-size : Version1Size (spelled2 3 1) 0
  -- class 4 and head 2 are 3 in both versions
  pub class-out : WriteVersion2 (spelled2 4 1) [] (Err OutOfRange) []
  pub head-out : WriteVersion1 (spelled2 0 2) [] (Err OutOfRange) []
  -- a row's own record: version 1 and version 2
  pub row-sizes : RowSize 1 20 × RowSize 2 22
