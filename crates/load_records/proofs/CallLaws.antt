-- Any two results that meet a call's contract are equal, and so is what the output holds afterwards.
use Prim.Native.Nat.{ℕ}
use mathlib.Core.List.{List}
use mathlib.Core.Path.{◌≡◌, sym, ◌∙◌}
use Rattle.refusals.specs.Checked.{Checked}
use Rattle.refusals.proofs.CallLaws.{Given-unique-finding, Given-unique-output}
use Rattle.load.specs.declared.Row.{Row}
use Rattle.load.specs.declared.Load.{Load}
use Rattle.load_records.specs.declared.RowRecords.{RowRecords}
use Rattle.load_records.specs.Writing.{load_bytes, write_fault}
use Rattle.load_records.specs.Calls.{RowSize, RowRecordsOf, SizeIn, WriteIn}

pub RowSize-unique : (v r s : ℕ) → RowSize v r → RowSize v s → r ≡ s
RowSize-unique v r s p q = p ∙ sym q

pub RowRecordsOf-unique : (row : Row) (r s : RowRecords) → RowRecordsOf row r → RowRecordsOf row s → r ≡ s
RowRecordsOf-unique row r s p q = p ∙ sym q

-- in either version
module _ (v : ℕ) (load : Load) where
  pub SizeIn-unique : (r s : ℕ) → SizeIn v load r → SizeIn v load s → r ≡ s
  SizeIn-unique r s p q = p ∙ sym q

  pub WriteIn-unique : (out : List ℕ) (r s : Checked) (after later : List ℕ)
      → WriteIn v load out r after → WriteIn v load out s later → (r ≡ s) × (after ≡ later)
  WriteIn-unique out r s after later p q = (
    Given-unique-finding (write_fault v load) (load_bytes v load) out r s after later p q,
    Given-unique-output (write_fault v load) (load_bytes v load) out r s after later p q,
  )
