-- "What the contracts have to say": every public call on load files, once.
-- To be read after the Calls of the crates that it names.
use Rattle.std.specs.Prelude.{ℕ, List, Result}
use Rattle.refusals.specs.declared.Refusal.{Refusal}
use Rattle.refusals.specs.Checked.{Checked}
use Rattle.load.specs.declared.Row.{Row}
use Rattle.load.specs.declared.Load.{Load}
use Rattle.load_records.specs.declared.RowRecords.{RowRecords}
use Rattle.load_records.specs.Calls.{RowSize, RowRecordsOf, Version1Size, Version2Size}
use Rattle.load_records.specs.Calls.{WriteVersion1, WriteVersion2}
use Rattle.load_file.specs.Calls.{ReadLoad}

-- what a writing call gives, and what its output holds afterwards
pub record Wrote (A : Type 0) : Type 0 where
  pub gives : A
  pub after : List ℕ

-- a writing call's relation, over both
abbrev pub Writes : {A : Type 0} → (A → List ℕ → Type 0) → Wrote A → Type 0
Writes meets wrote = meets wrote.gives wrote.after

-- what is claimed of the relation of each call on load files, for all that it is given
pub record EveryFileCall {ℓ} (Claim : (A : Type 0) → (A → Type 0) → Type ℓ) : Type ℓ where
  -- load_records
  pub row-size : (version : ℕ) → Claim ℕ (RowSize version)
  pub row-records : (row : Row) → Claim RowRecords (RowRecordsOf row)
  pub version-1-size : (load : Load) → Claim ℕ (Version1Size load)
  pub version-2-size : (load : Load) → Claim ℕ (Version2Size load)
  pub write-version-1 : (load : Load) (out : List ℕ)
      → Claim (Wrote Checked) (Writes (WriteVersion1 load out))
  pub write-version-2 : (load : Load) (out : List ℕ)
      → Claim (Wrote Checked) (Writes (WriteVersion2 load out))
  -- load_file
  pub read-load : (bs : List ℕ) → Claim (Result Load Refusal) (ReadLoad bs)
