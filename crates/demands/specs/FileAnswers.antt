-- "An accepted file reads to exactly one load, that load is written back to the same bytes, and a
-- written load reads back as itself": demand 2 for load files of both versions (2026-05), over any
-- results that meet the calls' relations. To be read after PublicCalls, and before Demand2.
-- Rests on D49 and D92.
use Rattle.std.specs.Prelude.{ℕ, true, List, ◌≡◌, length, take, Ok, Result}
use Rattle.words.specs.LittleEndian.{Bytes}
use Rattle.refusals.specs.declared.Refusal.{Refusal}
use Rattle.refusals.specs.Checked.{Checked}
use Rattle.refusals.specs.Given.{Given}
use Rattle.load.specs.declared.Load.{Load}
use Rattle.load.specs.Calls.{CheckPlain}
use Rattle.load_records.specs.Records.{is_version}
use Rattle.load_records.specs.Writing.{load_bytes}
use Rattle.load_records.specs.Calls.{WriteIn, WriteVersion1, WriteVersion2}
use Rattle.load_file.specs.Places.{version_said}
use Rattle.load_file.specs.Calls.{ReadLoad}
use Rattle.load_file.specs.RoundTrip.{Held, accepted, RoundTrip}

-- the file of a load that was written in a version into an output: so many bytes from its front
abbrev pub file_in : ℕ → Load → List ℕ → List ℕ
file_in v load after = take (length (load_bytes v load)) after

-- what reading and writing load files give; a version's writing call is `WriteIn` of it
pub record FileAnswers : Type 0 where
  -- of bytes and a load, the bytes read to the load exactly when the load is written as the bytes
  pub round-trips : RoundTrip
  -- an accepted file reads to exactly one load
  pub one-load : (bs : List ℕ) (a b : Load) → ReadLoad bs (Ok a) → ReadLoad bs (Ok b) → a ≡ b
  -- it names version 1 or version 2
  pub named : (bs : List ℕ) (load : Load) → ReadLoad bs (Ok load)
      → is_version (version_said bs) ≡ true
  -- and its load is written back in that version to the same bytes: it is not refused, and the
  -- answer is the file
  pub read-write : (bs : List ℕ) (load : Load) → Bytes bs → ReadLoad bs (Ok load)
      → (out : List ℕ) (found : Checked) (after : List ℕ)
      → WriteIn (version_said bs) load out found after → Given (Ok tt) bs out found after
  -- and a written load reads back as itself
  pub write_read : (v : ℕ) → is_version v ≡ true → (load : Load) → Held load → (out after : List ℕ)
      → WriteIn v load out (Ok tt) after
      → (r : Result Load Refusal) → ReadLoad (file_in v load after) r → r ≡ accepted load
  -- "Version 1 files .. go on being read, as class 0 and head 1"
  pub plain : (bs : List ℕ) (load : Load) → Bytes bs → ReadLoad bs (Ok load)
      → version_said bs ≡ 1 → CheckPlain load (Ok tt)
  -- "A move from version 1 to version 2 and back gives the same bytes": the load of a version 1
  -- file is written as version 2, and refused for want of room alone
  pub there : (bs : List ℕ) (load : Load) → Bytes bs → ReadLoad bs (Ok load)
      → version_said bs ≡ 1 → (out : List ℕ) (found : Checked) (after : List ℕ)
      → WriteVersion2 load out found after
      → Given (Ok tt) (load_bytes 2 load) out found after
  -- and what is read there is written back as version 1 to the file
  pub back : (bs : List ℕ) (load : Load) → Bytes bs → ReadLoad bs (Ok load)
      → version_said bs ≡ 1 → (two after : List ℕ) → WriteVersion2 load two (Ok tt) after
      → (again : Load) → ReadLoad (file_in 2 load after) (Ok again)
      → (out : List ℕ) (found : Checked) (last : List ℕ)
      → WriteVersion1 again out found last → Given (Ok tt) bs out found last
