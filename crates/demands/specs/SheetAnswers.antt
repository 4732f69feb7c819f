-- "Read a load from comma-separated lines .. and write one out": demand 2 for route sheets, over
-- any results that meet the calls' relations. To be read after PublicCalls, and before Demand2.
-- Rests on D49, D86, D88 and D92.
use Rattle.std.specs.Prelude.{ℕ, ◌≤◌, List, ◌≡◌, take, Ok, Result}
use Rattle.words.specs.LittleEndian.{Bytes}
use Rattle.refusals.specs.declared.Refusal.{Refusal}
use Rattle.refusals.specs.Given.{WritesOut}
use Rattle.load.specs.declared.Load.{Load}
use Rattle.load.specs.Calls.{CheckPlain}
use Rattle.load_file.specs.RoundTrip.{Held, accepted}
use Rattle.sheet.specs.Writing.{most_sheet_bytes}
use Rattle.sheet.specs.SheetTrip.{SheetTrip}
use Rattle.sheet.specs.Calls.{ReadSheet, WriteSheet}

-- what a sheet's reader and its writer give
pub record SheetAnswers : Type 0 where
  -- of bytes and a load, the bytes read to the load exactly when the load is exported as the bytes
  pub round-trips : SheetTrip
  -- an accepted sheet reads to exactly one load
  pub one-load : (bs : List ℕ) (a b : Load) → ReadSheet bs (Ok a) → ReadSheet bs (Ok b)
      → a ≡ b
  -- that load is held as its types say, passes its check, and has class 0 and head 1 throughout
  pub held : (bs : List ℕ) (load : Load) → Bytes bs → ReadSheet bs (Ok load)
      → Held load
  pub plain : (bs : List ℕ) (load : Load) → Bytes bs → ReadSheet bs (Ok load)
      → CheckPlain load (Ok tt)
  -- it is exported to the same bytes: it is not refused, and the answer is the sheet
  pub read-write : (bs : List ℕ) (load : Load) → Bytes bs → ReadSheet bs (Ok load)
      → (out : List ℕ) (w : Result ℕ Refusal) (after : List ℕ) → WriteSheet load out w after
      → WritesOut (Ok tt) bs out w after
  -- and an exported sheet, so many bytes from the output's front, reads back as the same load
  pub write_read : (load : Load) → Held load → (out : List ℕ) (n : ℕ) (after : List ℕ)
      → WriteSheet load out (Ok n) after
      → (r : Result Load Refusal) → ReadSheet (take n after) r → r ≡ accepted load
  -- whatever the load is, no more than 9,528 bytes are written
  pub most_bytes : (load : Load) (out : List ℕ) (n : ℕ) (after : List ℕ)
      → WriteSheet load out (Ok n) after → n ≤ most_sheet_bytes
