-- Of the numbers below n that have p one has the least key, unless there is none.
use Prim.Native.Nat.{ℕ, zero, suc, ◌≤◌, ◌<◌}
use mathlib.Core.Bool.{Bool, true, false}
use mathlib.Core.Path.{◌≡◌, refl}
use native.Mathlib.Decide.{ℕ_discrete, dec_lt}
use native.Mathlib.Omega.{arith}
use Rattle.counting.proofs.tests.TestLaws.{true-false}

pub data Least (p : ℕ → Bool) (key : ℕ → ℕ) (n : ℕ) : Type 0 where
  nothing : ((i : ℕ) → i < n → p i ≡ false) → Least p key n
  least_at : (r : ℕ) → r < n → p r ≡ true → ((i : ℕ) → i < n → p i ≡ true → key r ≤ key i) → Least p key n

pub least : (p : ℕ → Bool) (key : ℕ → ℕ) (n : ℕ) → Least p key n
least p key zero = nothing (λ i l. absurd (omega arith))
least p key (suc n) = go (p n) refl (least p key n)
  where
    go : (b : Bool) → p n ≡ b → Least p key n → Least p key (suc n)
    go true e (nothing h) =
        least_at n (omega arith) e
        (λ i l q. elim (ℕ_discrete i n) [
          | yes f ↦ rw f (omega arith)
          | no f ↦ absurd (true-false (p i) q (h i (omega arith)))
        ])
    go true e (least_at r lr pr h) =
        elim (dec_lt (key n) (key r)) [
          | yes l ↦
              least_at n (omega arith) e
              (λ i li q. elim (ℕ_discrete i n) [
                | yes f ↦ rw f (omega arith)
                | no f ↦ omega (arith, h i (omega arith) q)
              ])
          | no l ↦
              least_at r (omega arith) pr
              (λ i li q. elim (ℕ_discrete i n) [ yes f ↦ rw f (omega arith) | no f ↦ h i (omega arith) q ])
        ]
    go false e (nothing h) =
        nothing (λ i l. elim (ℕ_discrete i n) [ yes f ↦ rw f e | no f ↦ h i (omega arith) ])
    go false e (least_at r lr pr h) =
        least_at r (omega arith) pr
        (λ i li q. elim (ℕ_discrete i n) [
          | yes f ↦ absurd (true-false (p n) (rw f at q) e)
          | no f ↦ h i (omega arith) q
        ])
