-- "The first faulty record decides": tests in their order, and the refusal of the first that is
-- met.
use Rattle.std.specs.Prelude.{ℕ, zero, suc, Bool, cond, List, [], ◌∷◌, Ok, Err}
use Rattle.refusals.specs.declared.Refusal.{Refusal}
use Rattle.refusals.specs.Checked.{Checked}

-- the refusal of the first test that is met, and Good where none is
abbrev pub first_met : List (Bool × Refusal) → Checked
first_met [] = Ok tt
first_met (test ∷ rest) = cond test.0 (Err test.1) (first_met rest)

-- one finding, and where it is Good the next
abbrev pub and_then : Checked → Checked → Checked
and_then (Ok tt) next = next
and_then (Err refusal) next = Err refusal

-- the first finding of a list that is not Good
abbrev pub first_fault : List Checked → Checked
first_fault [] = Ok tt
first_fault (finding ∷ rest) = and_then finding (first_fault rest)

-- the first of f 0, f 1, .., f (n - 1) that is not Good
unfoldable pub first_fault_to : (ℕ → Checked) → ℕ → Checked
first_fault_to f zero = Ok tt
first_fault_to f (suc n) = and_then (first_fault_to f n) (f n)
