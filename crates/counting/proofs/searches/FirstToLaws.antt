-- What a search over the numbers below n finds: the first that has p, or n; and it is the only such number.
use Prim.Native.Nat.{ℕ, zero, suc, ◌≤◌, ◌<◌}
use mathlib.Core.Bool.{Bool, true, false}
use mathlib.Core.Path.{◌≡◌, refl, ap, sym, ◌∙◌}
use native.Mathlib.Decide.{dec_lt}
use native.Mathlib.Omega.{arith}
use Rattle.counting.specs.Searches.{first_to}
use Rattle.counting.proofs.tests.TestLaws.{true-false}

-- the first number below n that has p, or n
pub record IsFirst (p : ℕ → Bool) (n r : ℕ) : Type 0 where
  pub most : r ≤ n
  pub before : (k : ℕ) → k < r → p k ≡ false
  pub has : r < n → p r ≡ true

pub first_to-first : (p : ℕ → Bool) (n : ℕ) → IsFirst p n (first_to p n)
unfolding first_to
first_to-first p zero =
    record { most = omega arith; before = λ k l. absurd (omega arith); has = λ l. absurd (omega arith) }
first_to-first p (suc n) = go (p 0) refl (first_to-first (λ k. p (suc k)) n)
  where
    next : ℕ
    next = first_to (λ k. p (suc k)) n

    go : (b : Bool) → p 0 ≡ b → IsFirst (λ k. p (suc k)) n next
        → IsFirst p (suc n) (elim b [ true ↦ 0 | false ↦ suc next ])
    go true e h = record { most = omega arith; before = λ k l. absurd (omega arith); has = λ _. e }
    go false e h =
        record {
          most = omega (arith, h.most);
          before = elim [ zero ↦ λ l. e | suc k ↦ λ l. h.before k (omega arith) ];
          has = λ l. h.has (omega arith);
        }

pub first_to-unique : (p : ℕ → Bool) (n r s : ℕ) → IsFirst p n r → IsFirst p n s → r ≡ s
first_to-unique p n r s f g =
    elim (dec_lt r s) [
      | yes l ↦ absurd (true-false (p r) (f.has (omega (arith, g.most))) (g.before r l))
      | no l ↦
          elim (dec_lt s r) [
            | yes m ↦ absurd (true-false (p s) (g.has (omega (arith, f.most))) (f.before s m))
            | no m ↦ omega arith
          ]
    ]

-- where n itself has p, what is found has it
pub first_to-has : (p : ℕ → Bool) (n : ℕ) → p n ≡ true → p (first_to p n) ≡ true
first_to-has p n h =
    let first = first_to-first p n in
    elim (dec_lt (first_to p n) n) [
      | yes l ↦ first.has l
      | no g ↦ let e : first_to p n ≡ n = omega (arith, first.most) in ap p e ∙ h
    ]

-- only what p says below n matters
pub first_to-ext : (p q : ℕ → Bool) (n : ℕ) → ((k : ℕ) → k < n → p k ≡ q k) → first_to p n ≡ first_to q n
first_to-ext p q n h =
    let first = first_to-first p n in
    first_to-unique q n (first_to p n) (first_to q n)
    (record {
      most = first.most;
      before = λ k l. sym (h k (omega (arith, first.most))) ∙ first.before k l;
      has = λ l. sym (h (first_to p n) l) ∙ first.has l;
    })
    (first_to-first q n)
