-- Any two results that meet a call's contract are equal. Also: what a reading finds, by what it gives, and which load
-- it gives.
use Prim.Native.Nat.{ℕ}
use mathlib.Core.List.{List}
use mathlib.Core.Path.{◌≡◌, sym, ◌∙◌}
use Rattle.std.specs.Prelude.{Result, Ok, Err}
use Rattle.refusals.specs.declared.Refusal.{Refusal}
use Rattle.refusals.proofs.GivenLaws.{given-refused, given-good, given-is, WritesOut-unique}
use Rattle.load.specs.declared.Load.{Load}
use Rattle.load.specs.Plain.{check_plain}
use Rattle.sheet.specs.SheetRows.{load_in_sheet}
use Rattle.sheet.specs.Reading.{sheet_fault, read_sheet}
use Rattle.sheet.specs.Writing.{sheet_bytes}
use Rattle.sheet.specs.Calls.{ReadSheet, WriteSheet}

pub ReadSheet-unique : (bs : List ℕ) (r s : Result Load Refusal) → ReadSheet bs r → ReadSheet bs s → r ≡ s
ReadSheet-unique bs r s p q = p ∙ sym q

pub ReadSheet-refused : (bs : List ℕ) (refusal : Refusal) → ReadSheet bs (Err refusal) → sheet_fault bs ≡ Err refusal
unfolding read_sheet
ReadSheet-refused bs refusal e = given-refused (sheet_fault bs) (load_in_sheet bs) refusal e

module _ (bs : List ℕ) (load : Load) (e : ReadSheet bs (Ok load)) where
  pub ReadSheet-good : sheet_fault bs ≡ Ok tt
  unfolding read_sheet
  ReadSheet-good = given-good (sheet_fault bs) (load_in_sheet bs) load e

  pub ReadSheet-load : load ≡ load_in_sheet bs
  unfolding read_sheet
  ReadSheet-load = given-is (sheet_fault bs) (load_in_sheet bs) load e

pub WriteSheet-unique : (load : Load) (out : List ℕ) (r s : Result ℕ Refusal) (after later : List ℕ)
    → WriteSheet load out r after → WriteSheet load out s later → (r ≡ s) × (after ≡ later)
WriteSheet-unique load out = WritesOut-unique (check_plain load) (sheet_bytes load) out
