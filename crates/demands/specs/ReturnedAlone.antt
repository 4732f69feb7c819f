-- "Each is given exactly then, and returned alone": where a call refuses, nothing stands beside the
-- refusal. To be read after PublicCalls.
use Rattle.std.specs.Prelude.{ℕ, List, Result, Ok, Err}
use Rattle.refusals.specs.declared.Refusal.{Refusal}
use Rattle.load.specs.declared.Load.{Load}
use Rattle.load_file.specs.Calls.{ReadLoad}
use Rattle.sheet.specs.Calls.{ReadSheet, WriteSheet}
use Rattle.bound.specs.Calls.{AnswersOf, BoundOf, MarginsOf, VerdictOf, BlamesOf, PlaceWaitsOf}
use Rattle.bench.specs.Calls.{Runs}
use Rattle.lines.specs.Calls.{PrintLines, PrintBlames}

-- of what a call refuses it gives no answer, whatever its relation is read for
abbrev pub Alone : {A : Type 0} → (Result A Refusal → Type 0) → Type 0
Alone {A} meets = (refusal : Refusal) (answer : A) → meets (Err refusal) → meets (Ok answer) → ⊥

-- so it is with a call that writes, whatever its output holds afterwards
abbrev pub WritesAlone : {A : Type 0} → (Result A Refusal → List ℕ → Type 0) → Type 0
WritesAlone {A} meets =
    (refusal : Refusal) (answer : A) (after later : List ℕ)
    → meets (Err refusal) after → meets (Ok answer) later → ⊥

-- a refusal is returned alone: with no load, no length, no W, no bound, no margins, no verdict,
-- nobody blamed, no slot
pub record ReturnedAlone : Type 0 where
  pub no-load : (bs : List ℕ) → Alone (ReadLoad bs)
  pub no-sheet-load : (bs : List ℕ) → Alone (ReadSheet bs)
  pub no-sheet-length : (load : Load) (out : List ℕ) → WritesAlone (WriteSheet load out)
  pub no-waits : (load : Load) → Alone (PlaceWaitsOf load)
  pub no_bound : (load : Load) → Alone (BoundOf load)
  pub no-margins : (load : Load) → Alone (MarginsOf load)
  pub no-verdict : (load : Load) → Alone (VerdictOf load)
  pub no-blames : (load : Load) → Alone (BlamesOf load)
  pub no-answers : (load : Load) → Alone (AnswersOf load)
  pub no-slots : (load : Load) → Alone (Runs load)
  pub no-lines : (bs out : List ℕ) → WritesAlone (PrintLines bs out)
  pub no-blamed-lines : (bs out : List ℕ) → WritesAlone (PrintBlames bs out)
