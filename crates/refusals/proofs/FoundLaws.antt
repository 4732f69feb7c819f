-- A test that Good passes, and each refusal that some tests can give, is passed by what is found: by the first of them
-- that is met, by a finding and the next, which counts only where the first is Good, and by the first fault of many.
use Prim.Native.Nat.{ℕ, zero, suc, ◌<◌}
use mathlib.Core.Bool.{Bool, true, false, cond, ◌&&◌}
use mathlib.Core.List.{List, [], ◌∷◌}
use mathlib.Core.Path.{◌≡◌, refl}
use native.Mathlib.Omega.{arith}
use Rattle.counting.proofs.tests.TestLaws.{and_left, and_right}
use Rattle.refusals.specs.declared.Refusal.{Refusal}
use Rattle.refusals.specs.Checked.{Checked}
use Rattle.std.specs.Prelude.{Ok, Err}
use Rattle.refusals.specs.FirstMet.{first_met, and_then, first_fault_to}

-- each test's refusal passes
abbrev pub each_passes : (Checked → Bool) → List (Bool × Refusal) → Bool
each_passes p [] = true
each_passes p (t ∷ ts) = p (Err t.1) && each_passes p ts

-- what is found passes; a record, so that a finding is read off it
pub record Passes (p : Checked → Bool) (found : Checked) : Type 0 where
  pub passes : p found ≡ true

module _ (p : Checked → Bool) (good : Passes p (Ok tt)) where
  pub first_met-passes : (ts : List (Bool × Refusal)) → each_passes p ts ≡ true → Passes p (first_met ts)
  first_met-passes [] each = good
  first_met-passes (t ∷ ts) each =
      go t.0 (record { passes = and_left (p (Err t.1)) (each_passes p ts) each })
      (first_met-passes ts (and_right (p (Err t.1)) (each_passes p ts) each))
    where
      go : (met : Bool) → Passes p (Err t.1) → Passes p (first_met ts)
          → Passes p (cond met (Err t.1) (first_met ts))
      go true mine rest = mine
      go false mine rest = rest

  pub and_then-passes : (a b : Checked) → Passes p a → (a ≡ Ok tt → Passes p b) → Passes p (and_then a b)
  and_then-passes (Ok tt) b h next = next refl
  and_then-passes (Err refusal) b h next = h

  -- nothing behind it
  pub last-passes : (a : Checked) → Passes p a → Passes p (and_then a (Ok tt))
  last-passes a h = and_then-passes a (Ok tt) h (λ e. good)

  pub first_fault_to-passes : (f : ℕ → Checked) (n : ℕ) → ((i : ℕ) → i < n → Passes p (f i))
      → Passes p (first_fault_to f n)
  unfolding first_fault_to
  first_fault_to-passes f zero each = good
  first_fault_to-passes f (suc n) each =
      and_then-passes (first_fault_to f n) (f n) (first_fault_to-passes f n (λ i l. each i (omega arith)))
      (λ e. each n (omega arith))
