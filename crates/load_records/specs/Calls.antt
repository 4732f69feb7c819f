-- What each public call's contract says: one relation a call, over what it takes, what it gives,
-- and what the lent bytes hold afterwards. To be read after Writing.
use Rattle.std.specs.Prelude.{ℕ, ◌-◌, List, ◌++◌, ◌≡◌, length, replicate}
use Rattle.refusals.specs.Checked.{Checked}
use Rattle.refusals.specs.Given.{if_good, Given}
use Rattle.load.specs.declared.Row.{Row}
use Rattle.load.specs.declared.Load.{Load}
use Rattle.load_records.specs.declared.RowRecords.{RowRecords}
use Rattle.load_records.specs.Records.{row_kind, newest, most_row_bytes}
use Rattle.load_records.specs.Writing.{row_bytes, counted_row, load_bytes, write_fault}

-- bytes as a row's records: how many there are, the bytes, and 0 in the places behind them
abbrev pub records_holding : List ℕ → RowRecords
records_holding bs =
    record { length = length bs; bytes = bs ++ replicate (most_row_bytes - length bs) 0 }

-- row_size(version): how many bytes a row's own record has, in version 2 and in any other
abbrev pub RowSize : ℕ → ℕ → Type 0
RowSize v r = r ≡ (row_kind v).size

-- row_records(row): the row's own record, then its steps' and its windows' records, as the newest
-- version has them
abbrev pub RowRecordsOf : Row → RowRecords → Type 0
RowRecordsOf row r = r ≡ records_holding (row_bytes newest (counted_row row))

-- how many bytes the load's file has in a version; 0 where the load is refused
abbrev pub SizeIn : ℕ → Load → ℕ → Type 0
SizeIn v load r = r ≡ if_good (write_fault v load) (length (load_bytes v load)) 0

-- the numbers of a load to be written in a version, then 9, and the output as it was; or Ok, and
-- the file at the output's front
abbrev pub WriteIn : ℕ → Load → List ℕ → Checked → List ℕ → Type 0
WriteIn v load out r after = Given (write_fault v load) (load_bytes v load) out r after

-- version_1_size(load)
abbrev pub Version1Size : Load → ℕ → Type 0
Version1Size load r = SizeIn 1 load r

-- version_2_size(load)
abbrev pub Version2Size : Load → ℕ → Type 0
Version2Size load r = SizeIn 2 load r

-- write_version_1(load, out): the load's own numbers, then 22, then 9
abbrev pub WriteVersion1 : Load → List ℕ → Checked → List ℕ → Type 0
WriteVersion1 load out r after = WriteIn 1 load out r after

-- write_version_2(load, out): the load's own numbers, then 9
abbrev pub WriteVersion2 : Load → List ℕ → Checked → List ℕ → Type 0
WriteVersion2 load out r after = WriteIn 2 load out r after
