-- `check_rows` asks one row a turn: those asked so far have no fault, and the two arrays hold their identifiers and
-- boxes.
use Rattle.std.proofs.Common.{ℕ, ◌≡◌}
use Rattle.std.specs.Prelude.{Ok}
use Rattle.counting.specs.Lists.{filled}
use Rattle.refusals.specs.Checked.{Checked}
use Rattle.refusals.specs.FirstMet.{first_fault_to}
use Rattle.load.specs.declared.Identifier.{Identifier}
use Rattle.load.specs.declared.BoxNumber.{BoxNumber}
use Rattle.load.specs.declared.Load.{Load}
use Rattle.load.specs.Load.{most_rows, row_at}
use Rattle.load.specs.Check.{row_fault}
use Rattle.load.proofs.check.check_rows.Given as goal

-- what the row at a place holds, and its fault
abbrev pub identifier_at : Load → ℕ → Identifier
identifier_at load k = (row_at load k).identifier

abbrev pub box_at : Load → ℕ → BoxNumber
box_at load k = (row_at load k).box_number

abbrev pub fault_at : Load → ℕ → Checked
fault_at load i = row_fault load i (row_at load i)

abbrev pub invariant-loop-i : goal.invariant-loop-i
invariant-loop-i l =
    (first_fault_to (fault_at l.load) l.i ≡ Ok tt)
    × (l.identifiers ≡ filled (identifier_at l.load) l.i most_rows (record { 0 = 0 }))
    × (l.boxes ≡ filled (box_at l.load) l.i most_rows (record { 0 = 0 }))
