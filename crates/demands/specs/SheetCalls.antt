-- "What the contracts have to say": every public call on route sheets, once.
-- To be read after the Calls of the crates that it names.
use Rattle.std.specs.Prelude.{ℕ, List, Option, Result}
use Rattle.refusals.specs.declared.Refusal.{Refusal}
use Rattle.load.specs.declared.Row.{Row}
use Rattle.load.specs.declared.Load.{Load}
use Rattle.sheet_line.specs.declared.LineRead.{LineRead}
use Rattle.sheet_line.specs.declared.LineText.{LineText}
use Rattle.sheet_line.specs.Calls.{LineAt, LineOf}
use Rattle.sheet.specs.Calls.{ReadSheet, WriteSheet}
use Rattle.demands.specs.FileCalls.{Wrote, Writes}

-- what is claimed of the relation of each call on route sheets, for all that it is given
pub record EverySheetCall {ℓ} (Claim : (A : Type 0) → (A → Type 0) → Type ℓ) : Type ℓ where
  -- sheet_line
  pub line_at : (bs : List ℕ) (at : ℕ) → Claim (Option LineRead) (LineAt bs at)
  pub line-of : (row : Row) (j : ℕ) → Claim LineText (LineOf row j)
  -- sheet
  pub read-sheet : (bs : List ℕ) → Claim (Result Load Refusal) (ReadSheet bs)
  pub write-sheet : (load : Load) (out : List ℕ)
      → Claim (Wrote (Result ℕ Refusal)) (Writes (WriteSheet load out))
