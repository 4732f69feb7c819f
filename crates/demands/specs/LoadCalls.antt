-- "What the contracts have to say": every public call on a load in memory, once.
-- To be read after the Calls of the crates that it names.
use Rattle.std.specs.Prelude.{ℕ, Bool, List}
use Rattle.refusals.specs.Checked.{Checked}
use Rattle.load.specs.declared.Identifier.{Identifier}
use Rattle.load.specs.declared.BoxNumber.{BoxNumber}
use Rattle.load.specs.declared.Step.{Step}
use Rattle.load.specs.declared.Window.{Window}
use Rattle.load.specs.declared.Row.{Row}
use Rattle.load.specs.declared.Load.{Load}
use Rattle.load.specs.Calls.{CheckLoad, CheckPlain, CheckFields, CheckStep, CheckWindow, CheckParts}
use Rattle.load.specs.Calls.{IdentifierTaken, BoxTaken, RowAt, StepAt, WindowAt, EmbeddedAt}
use Rattle.load.specs.Calls.{ChainBetween, StepsIn, ZeroRow, ZeroLoad}

-- what is claimed of the relation of each call on a load in memory, for all that it is given
pub record EveryLoadCall {ℓ} (Claim : (A : Type 0) → (A → Type 0) → Type ℓ) : Type ℓ where
  -- load
  pub check-load : (load : Load) → Claim Checked (CheckLoad load)
  pub check-plain : (load : Load) → Claim Checked (CheckPlain load)
  pub check-fields : (row : Row) → Claim Checked (CheckFields row)
  pub check-step : (step : Step) (is_last : Bool) → Claim Checked (CheckStep step is_last)
  pub check-window : (row : Row) (window : Window) (before : ℕ)
      → Claim Checked (CheckWindow row window before)
  pub check-parts : (row : Row) → Claim Checked (CheckParts row)
  pub identifier-taken : (identifiers : List Identifier) (n : ℕ) (identifier : Identifier)
      → Claim Bool (IdentifierTaken identifiers n identifier)
  pub box-taken : (boxes : List BoxNumber) (n : ℕ) (box : BoxNumber)
      → Claim Bool (BoxTaken boxes n box)
  pub row-at : (load : Load) (i : ℕ) → Claim Row (RowAt load i)
  pub step-at : (row : Row) (j : ℕ) → Claim Step (StepAt row j)
  pub window-at : (row : Row) (k : ℕ) → Claim Window (WindowAt row k)
  pub embedded-at : (row : Row) (j : ℕ) → Claim Bool (EmbeddedAt row j)
  pub chain-between : (row : Row) (from to : ℕ) → Claim ℕ (ChainBetween row from to)
  pub steps-in : (load : Load) → Claim ℕ (StepsIn load)
  pub zero_row : Claim Row ZeroRow
  pub zero-load : Claim Load ZeroLoad
