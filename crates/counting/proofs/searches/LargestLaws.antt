-- Where the largest stands first: a later one takes its place only where it is larger. So two that agree below n have
-- one such place, and what is 0 from n on does not count.
use Prim.Native.Nat.{ℕ, zero, suc, ◌+◌, ◌-◌, ◌≤◌, ◌<◌}
use mathlib.Core.Bool.{cond}
use mathlib.Core.Path.{◌≡◌, refl, ap, ap₂, ◌∙◌}
use native.Mathlib.Decide.{dec_lt, ℕ_discrete}
use native.Mathlib.Omega.{arith}
use borrow.Author.Tests.{lt-ltb, le-ltb, eq-eqb, ne_eqb, eqb-false}
use lib.Dec.{eqb, ltb}
use Rattle.counting.specs.Sums.{max_to}
use Rattle.counting.specs.Searches.{first_to, first_largest}
use Rattle.counting.proofs.sums.SumLaws.{max_to-zero, max_to-next, value-le-max_to, max_to-le, max_to-ext}
use Rattle.counting.proofs.searches.FirstToLaws.{first_to-first, first_to-unique}

-- the first of f 0 .. f (n - 1) that is v, counted from 0
abbrev first_of : (ℕ → ℕ) → ℕ → ℕ → ℕ
first_of f n v = first_to (λ i. eqb (f i) v) n

module _ (f : ℕ → ℕ) where
  pub first_largest-none : (n : ℕ) → max_to f n ≡ 0 → first_largest f n ≡ 0
  unfolding first_largest
  first_largest-none n e = ap (λ b. cond b 0 (suc (first_of f n (max_to f n)))) (eq-eqb (max_to f n) 0 e)

  first_largest-some : (n : ℕ) → 0 < max_to f n → first_largest f n ≡ suc (first_of f n (max_to f n))
  unfolding first_largest
  first_largest-some n l =
      ap (λ b. cond b 0 (suc (first_of f n (max_to f n)))) (ne_eqb (max_to f n) 0 (λ e. omega arith))

  -- a largest that is not 0 is one of the values
  largest-there : (n : ℕ) → 0 < max_to f n → first_of f n (max_to f n) < n
  largest-there n l =
      let v = max_to f n in
      let first = first_to-first (λ i. eqb (f i) v) n in
      elim (dec_lt (first_of f n v) n) [
        | yes there ↦ there
        | no past ↦
            absurd
            (let below : (i : ℕ) → i < n → f i ≤ v - 1 =
            λ i h. elim (ℕ_discrete (f i) v) [
              | yes e ↦ absurd (eqb-false (f i) v (first.before i (omega arith)) e)
              | no e ↦ omega (arith, value-le-max_to f n i h)
            ]
            in
            omega (arith, max_to-le f n (v - 1) below))
      ]

  -- one value more that is larger
  larger-first : (n : ℕ) → max_to f n < f n → first_of f (n + 1) (f n) ≡ n
  larger-first n l =
      first_to-unique (λ i. eqb (f i) (f n)) (n + 1) (first_of f (n + 1) (f n)) n
      (first_to-first (λ i. eqb (f i) (f n)) (n + 1))
      (record {
        most = omega arith;
        before = λ k h. ne_eqb (f k) (f n) (λ e. omega (arith, value-le-max_to f n k h));
        has = λ h. eq-eqb (f n) (f n) refl;
      })

  -- one that is not
  smaller-first : (n : ℕ) → 0 < max_to f n → first_of f (n + 1) (max_to f n) ≡ first_of f n (max_to f n)
  smaller-first n l =
      let v = max_to f n in
      let first = first_to-first (λ i. eqb (f i) v) n in
      first_to-unique (λ i. eqb (f i) v) (n + 1) (first_of f (n + 1) v) (first_of f n v)
      (first_to-first (λ i. eqb (f i) v) (n + 1))
      (record {
        most = omega (arith, first.most);
        before = first.before;
        has = λ h. first.has (largest-there n l);
      })

  -- a later one takes the place only where it is larger
  pub first_largest-next : (n : ℕ)
      → first_largest f (n + 1) ≡ cond (ltb (max_to f n) (f n)) (n + 1) (first_largest f n)
  first_largest-next n =
      elim (dec_lt (max_to f n) (f n)) [
        | yes l ↦
            rw (lt-ltb (max_to f n) (f n) l)
            (let e : max_to f (n + 1) ≡ f n = omega (arith, max_to-next f n) in
            first_largest-some (n + 1) (omega arith)
            ∙ ap (λ v. suc (first_of f (n + 1) v)) e
            ∙ omega (arith, larger-first n l))
        | no l ↦
            rw (le-ltb (max_to f n) (f n) (omega arith))
            (let e : max_to f (n + 1) ≡ max_to f n = omega (arith, max_to-next f n) in
            elim (ℕ_discrete (max_to f n) 0) [
              | yes z ↦ omega (arith, first_largest-none (n + 1) (omega arith), first_largest-none n z)
              | no z ↦
                  first_largest-some (n + 1) (omega arith)
                  ∙ ap (λ v. suc (first_of f (n + 1) v)) e
                  ∙ omega (arith, smaller-first n (omega arith), first_largest-some n (omega arith))
            ])
      ]

  -- it is at most n
  pub first_largest-le : (n : ℕ) → first_largest f n ≤ n
  first_largest-le n =
      elim (ℕ_discrete (max_to f n) 0) [
        | yes z ↦ omega (arith, first_largest-none n z)
        | no z ↦ omega (arith, first_largest-some n (omega arith), largest-there n (omega arith))
      ]

  -- values that are 0 from n on
  first_largest-rest : (n d : ℕ) → ((j : ℕ) → n ≤ j → j < n + d → f j ≡ 0)
      → first_largest f (n + d) ≡ first_largest f n
  first_largest-rest n zero zeros = ap (first_largest f) (let e : n + 0 ≡ n = omega arith in e)
  first_largest-rest n (suc d) zeros =
      let e : n + suc d ≡ n + d + 1 = omega arith in
      ap (first_largest f) e
      ∙ first_largest-next (n + d)
      ∙ ap (λ b. cond b (n + d + 1) (first_largest f (n + d)))
      (le-ltb (max_to f (n + d)) (f (n + d)) (omega (arith, zeros (n + d) (omega arith) (omega arith))))
      ∙ first_largest-rest n d (λ j a b. zeros j a (omega arith))

pub first_largest-ext : (f g : ℕ → ℕ) (n : ℕ) → ((i : ℕ) → i < n → f i ≡ g i) → first_largest f n ≡ first_largest g n
first_largest-ext f g zero h = omega (
  arith,
  first_largest-none f 0 (max_to-zero f),
  first_largest-none g 0 (max_to-zero g),
)
first_largest-ext f g (suc n) h =
    let e : suc n ≡ n + 1 = omega arith in
    let below : (i : ℕ) → i < n → f i ≡ g i = λ i l. h i (omega arith) in
    ap (first_largest f) e
    ∙ first_largest-next f n
    ∙ ap₂ (λ b r. cond b (n + 1) r)
    (ap₂ ltb (max_to-ext f g n below) (h n (omega arith))) (first_largest-ext f g n below)
    ∙ omega (arith, first_largest-next g n, ap (first_largest g) e)

-- two of which one is 0 from n on
pub first_largest-shorter : (f g : ℕ → ℕ) (n k : ℕ) → n ≤ k → ((j : ℕ) → j < n → f j ≡ g j)
    → ((j : ℕ) → n ≤ j → j < k → f j ≡ 0) → first_largest f k ≡ first_largest g n
first_largest-shorter f g n k h same zeros =
    let e : k ≡ n + (k - n) = omega arith in
    ap (first_largest f) e
    ∙ first_largest-rest f n (k - n) (λ j a b. zeros j a (omega arith))
    ∙ first_largest-ext f g n same
