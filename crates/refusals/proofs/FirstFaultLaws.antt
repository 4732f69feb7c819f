-- A whole list of tests, or of findings, taken apart by place: where the first fault is Good, the test at every place
-- is not met and the finding at every place is Good. At a numeral the place computes, so that each use is one line. Two
-- first faults agree where the findings up to them do.
use Prim.Native.Nat.{ℕ, zero, suc, ◌<◌}
use mathlib.Core.Bool.{Bool, false}
use mathlib.Core.List.{List, [], ◌∷◌}
use mathlib.Core.Path.{◌≡◌, refl, ap, ◌∙◌}
use native.Mathlib.Omega.{arith}
use Rattle.refusals.specs.declared.Refusal.{Refusal}
use Rattle.refusals.specs.Checked.{Checked}
use Rattle.std.specs.Prelude.{Ok, Err}
use Rattle.refusals.specs.FirstMet.{first_met, and_then, first_fault, first_fault_to}
use Rattle.refusals.proofs.FirstMetLaws.{
  and_then-good-first,
  and_then-good-second,
  first_met-good-first,
  first_met-good-rest,
}

-- the test at a place, past the last one that is not met
abbrev pub test_at : List (Bool × Refusal) → ℕ → Bool
test_at [] k = false
test_at (t ∷ ts) zero = t.0
test_at (t ∷ ts) (suc k) = test_at ts k

-- the finding at a place, past the last Good
abbrev pub finding_at : List Checked → ℕ → Checked
finding_at [] k = Ok tt
finding_at (f ∷ fs) zero = f
finding_at (f ∷ fs) (suc k) = finding_at fs k

pub first_met-good : (ts : List (Bool × Refusal)) → first_met ts ≡ Ok tt → (k : ℕ) → test_at ts k ≡ false
first_met-good [] e k = refl
first_met-good (t ∷ ts) e zero = first_met-good-first t ts e
first_met-good (t ∷ ts) e (suc k) = first_met-good ts (first_met-good-rest t ts e) k

pub first_fault-good : (fs : List Checked) → first_fault fs ≡ Ok tt → (k : ℕ) → finding_at fs k ≡ Ok tt
first_fault-good [] e k = refl
first_fault-good (f ∷ fs) e zero = and_then-good-first f (first_fault fs) e
first_fault-good (f ∷ fs) e (suc k) = first_fault-good fs (and_then-good-second f (first_fault fs) e) k

-- one finding, and where it is Good the next
pub and_then-agree : (a b x y : Checked) → a ≡ b → (a ≡ Ok tt → x ≡ y) → and_then a x ≡ and_then b y
and_then-agree (Ok tt) b x y e h = h refl ∙ ap (λ c. and_then c y) e
and_then-agree (Err r) b x y e h = ap (λ c. and_then c y) e

-- two first faults are one where the findings agree as long as those before them are Good
pub first_fault_to-agree : (f g : ℕ → Checked) (m : ℕ) → ((i : ℕ) → i < m → first_fault_to f i ≡ Ok tt → f i ≡ g i)
    → first_fault_to f m ≡ first_fault_to g m
unfolding first_fault_to
first_fault_to-agree f g zero h = refl
first_fault_to-agree f g (suc m) h =
    and_then-agree (first_fault_to f m) (first_fault_to g m) (f m) (g m)
    (first_fault_to-agree f g m (λ i l. h i (omega arith))) (h m (omega arith))
