-- Any two results that meet a call's contract are equal.
use Prim.Native.Nat.{ℕ}
use mathlib.Core.Bool.{Bool}
use mathlib.Core.List.{List}
use mathlib.Core.Path.{◌≡◌, sym, ◌∙◌}
use Rattle.refusals.specs.Checked.{Checked}
use Rattle.load.specs.declared.Identifier.{Identifier}
use Rattle.load.specs.declared.BoxNumber.{BoxNumber}
use Rattle.load.specs.declared.Step.{Step}
use Rattle.load.specs.declared.Window.{Window}
use Rattle.load.specs.declared.Row.{Row}
use Rattle.load.specs.declared.Load.{Load}
use Rattle.load.specs.Calls.{
  CheckLoad,
  CheckPlain,
  CheckFields,
  CheckStep,
  CheckWindow,
  CheckParts,
  IdentifierTaken,
  BoxTaken,
  RowAt,
  StepAt,
  WindowAt,
  EmbeddedAt,
  ChainBetween,
  StepsIn,
  ZeroRow,
  ZeroLoad,
}

pub CheckLoad-unique : (load : Load) (r s : Checked) → CheckLoad load r → CheckLoad load s → r ≡ s
CheckLoad-unique load r s p q = p ∙ sym q

pub CheckPlain-unique : (load : Load) (r s : Checked) → CheckPlain load r → CheckPlain load s → r ≡ s
CheckPlain-unique load r s p q = p ∙ sym q

pub CheckFields-unique : (row : Row) (r s : Checked) → CheckFields row r → CheckFields row s → r ≡ s
CheckFields-unique row r s p q = p ∙ sym q

pub CheckStep-unique : (step : Step) (is_last : Bool) (r s : Checked) → CheckStep step is_last r
    → CheckStep step is_last s → r ≡ s
CheckStep-unique step is_last r s p q = p ∙ sym q

pub CheckWindow-unique : (row : Row) (window : Window) (before : ℕ) (r s : Checked) → CheckWindow row window before r
    → CheckWindow row window before s → r ≡ s
CheckWindow-unique row window before r s p q = p ∙ sym q

pub CheckParts-unique : (row : Row) (r s : Checked) → CheckParts row r → CheckParts row s → r ≡ s
CheckParts-unique row r s p q = p ∙ sym q

pub IdentifierTaken-unique : (identifiers : List Identifier) (n : ℕ) (identifier : Identifier) (r s : Bool)
    → IdentifierTaken identifiers n identifier r → IdentifierTaken identifiers n identifier s → r ≡ s
IdentifierTaken-unique identifiers n identifier r s p q = p ∙ sym q

pub BoxTaken-unique : (boxes : List BoxNumber) (n : ℕ) (box : BoxNumber) (r s : Bool)
    → BoxTaken boxes n box r → BoxTaken boxes n box s → r ≡ s
BoxTaken-unique boxes n box r s p q = p ∙ sym q

pub RowAt-unique : (load : Load) (i : ℕ) (r s : Row) → RowAt load i r → RowAt load i s → r ≡ s
RowAt-unique load i r s p q = p ∙ sym q

pub StepAt-unique : (row : Row) (j : ℕ) (r s : Step) → StepAt row j r → StepAt row j s → r ≡ s
StepAt-unique row j r s p q = p ∙ sym q

pub WindowAt-unique : (row : Row) (k : ℕ) (r s : Window) → WindowAt row k r → WindowAt row k s → r ≡ s
WindowAt-unique row k r s p q = p ∙ sym q

pub EmbeddedAt-unique : (row : Row) (j : ℕ) (r s : Bool) → EmbeddedAt row j r → EmbeddedAt row j s → r ≡ s
EmbeddedAt-unique row j r s p q = p ∙ sym q

pub ChainBetween-unique : (row : Row) (from to r s : ℕ) → ChainBetween row from to r → ChainBetween row from to s
    → r ≡ s
ChainBetween-unique row from to r s p q = p ∙ sym q

pub StepsIn-unique : (load : Load) (r s : ℕ) → StepsIn load r → StepsIn load s → r ≡ s
StepsIn-unique load r s p q = p ∙ sym q

pub ZeroRow-unique : (r s : Row) → ZeroRow r → ZeroRow s → r ≡ s
ZeroRow-unique r s p q = p ∙ sym q

pub ZeroLoad-unique : (r s : Load) → ZeroLoad r → ZeroLoad s → r ≡ s
ZeroLoad-unique r s p q = p ∙ sym q
