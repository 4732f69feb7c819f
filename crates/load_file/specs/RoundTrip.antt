-- Demand 2 for load files: an accepted file reads to exactly one load, that load is written back to
-- the same bytes, and a written load reads back as itself; in the version that the bytes name
-- (2026-05). To be read after Writing and Reading. Rests on D92.
use Rattle.std.specs.Prelude.{ℕ, ◌^◌, ◌<◌, true, List, ◌≡◌, length, Result, Ok}
use Rattle.words.specs.LittleEndian.{Bytes}
use Rattle.refusals.specs.declared.Refusal.{Refusal}
use Rattle.load.specs.declared.Step.{Step}
use Rattle.load.specs.declared.Window.{Window}
use Rattle.load.specs.declared.Row.{Row}
use Rattle.load.specs.declared.Load.{Load}
use Rattle.load.specs.Load.{most_rows, most_steps, most_windows, row_at, step_at, window_at}
use Rattle.load_records.specs.Records.{is_version}
use Rattle.load_records.specs.Writing.{load_bytes, write_fault}
use Rattle.load_file.specs.Places.{version_said, load_in}
use Rattle.load_file.specs.Reading.{file_fault, read_load}

-- a step as it is held in memory: what its type alone says
pub record HeldStep (s : Step) : Type 0 where
  pub cost-fits : s.cost < 2 ^ 16
  pub wait-fits : s.wait < 2 ^ 16

-- a window as it is held in memory
pub record HeldWindow (w : Window) : Type 0 where
  pub first_fits : w.first < 256
  pub last_fits : w.last < 256
  pub limit-fits : w.limit < 2 ^ 16

-- a row as it is held in memory
pub record HeldRow (row : Row) : Type 0 where
  pub identifier-fits : row.identifier.0 < 2 ^ 32
  pub box-fits : row.box_number.0 < 2 ^ 32
  pub phase-fits : row.phase < 2 ^ 32
  pub deadline-fits : row.deadline < 2 ^ 32
  pub steps-fit : row.steps < 256
  pub windows-fit : row.windows < 256
  pub class-fits : row.class < 256
  pub head-fits : row.head < 256
  pub step-places : length row.step ≡ most_steps
  pub window-places : length row.window ≡ most_windows
  pub each_step : (j : ℕ) → j < most_steps → HeldStep (step_at row j)
  pub each-window : (k : ℕ) → k < most_windows → HeldWindow (window_at row k)

-- a load as it is held in memory
pub record Held (load : Load) : Type 0 where
  pub rows_fit : load.rows < 256
  pub row-places : length load.row ≡ most_rows
  pub each_row : (i : ℕ) → i < most_rows → HeldRow (row_at load i)

-- what a reading gives that refuses nothing
abbrev pub accepted : Load → Result Load Refusal
accepted load = Ok load

-- bytes that are an accepted file, and the load that they read to
pub record AcceptedFile (bs : List ℕ) (load : Load) : Type 0 where
  pub bytes : Bytes bs
  pub reads : read_load bs ≡ accepted load

-- a load held in memory that is not refused where it is written in a version, and the bytes that
-- are its file
pub record WrittenLoad (v : ℕ) (load : Load) (bs : List ℕ) : Type 0 where
  pub held : Held load
  pub good : write_fault v load ≡ Ok tt
  pub file : bs ≡ load_bytes v load

-- "A move from version 1 to version 2 and back gives the same bytes": the load of a file, written
-- as version 2, reads back as itself, and is written as version 1 to the file's bytes
pub record ThereAndBack (bs : List ℕ) (load : Load) : Type 0 where
  pub there : AcceptedFile (load_bytes 2 load) load
  pub back : WrittenLoad 1 load bs

-- the round trips: of bytes and a load, the bytes read to the load exactly when the load is written
-- as the bytes
pub record RoundTrip : Type 0 where
  -- a file that is not refused reads to a load
  pub some-load : (bs : List ℕ) → Bytes bs → file_fault bs ≡ Ok tt → AcceptedFile bs (load_in bs)
  -- and to no other
  pub one-load : (bs : List ℕ) (load other : Load)
      → AcceptedFile bs load → AcceptedFile bs other → load ≡ other
  -- an accepted file's load is not refused in the file's version, and is written back to the same
  -- bytes
  pub read-write : (bs : List ℕ) (load : Load) → AcceptedFile bs load
      → WrittenLoad (version_said bs) load bs
  -- a written load reads back as itself
  pub write_read : (v : ℕ) → is_version v ≡ true → (bs : List ℕ) (load : Load)
      → WrittenLoad v load bs → AcceptedFile bs load
  -- a file of version 1 moves to version 2 and back
  pub there_and_back : (bs : List ℕ) (load : Load) → version_said bs ≡ 1 → AcceptedFile bs load
      → ThereAndBack bs load
