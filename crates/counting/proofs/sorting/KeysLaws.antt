-- Sorting by one key, then by another, then by the number itself. Where the second key has a bound, both make one rank,
-- and so what holds of sorting by a key holds of sorting by two; where the second key is the same throughout, the first
-- decides alone.
use Prim.Native.Nat.{ℕ, suc, ◌+◌, ◌*◌, ◌≤◌, ◌<◌}
use mathlib.Core.Bool.{Bool, cond}
use mathlib.Core.List.{List, [], ◌∷◌}
use mathlib.Core.Path.{◌≡◌, refl, ap, sym, ◌∙◌}
use native.Mathlib.Decide.{ℕ_discrete, dec_lt}
use native.Mathlib.Nat.{mul-le-mul_right, suc-mul}
use native.Mathlib.Omega.{arith}
use borrow.Author.Tests.{lt-ltb, le-ltb, eq-eqb, ne_eqb}
use lib.Dec.{eqb, ltb}
use Rattle.counting.specs.Lists.{numbers_where}
use Rattle.counting.specs.Sorting.{sorted, by_key, by_keys}
use Rattle.counting.proofs.lists.EveryLaws.{every-numbers_where}
use Rattle.counting.proofs.lists.ListLaws.{join_to-ext}
use Rattle.counting.proofs.sorting.SortLaws.{at-Every, Precedes}
use Rattle.counting.proofs.sorting.OrderLaws.{sorted_ext}

-- the rank of two keys, of which the second is at most `most`
abbrev pub rank : ℕ → (ℕ → ℕ) → (ℕ → ℕ) → ℕ → ℕ
rank most first second i = first i * suc most + second i

-- what `by_keys` says of i and k
pub record PrecedesBy (first second : ℕ → ℕ) (i k : ℕ) : Type 0 where
  pub firsts : first i ≤ first k
  pub seconds : first i ≡ first k → second i ≤ second k
  pub ties : first i ≡ first k → second i ≡ second k → i ≤ k

-- a lower first key makes a lower rank, whatever the second keys are
rank_lt : (most a b x y : ℕ) → a < b → x ≤ most → a * suc most + x < b * suc most + y
rank_lt most a b x y l h =
    let next : suc a ≤ b = omega arith in
    let up : suc a * suc most ≤ b * suc most = mul-le-mul_right (suc most) next in
    omega (arith, up, suc-mul a (suc most))

-- a test by numbers that stand equally far off
ltb-shift : (c x y : ℕ) → ltb x y ≡ ltb (c + x) (c + y)
ltb-shift c x y =
    elim (dec_lt x y) [
      | yes l ↦ lt-ltb x y l ∙ sym (lt-ltb (c + x) (c + y) (omega arith))
      | no l ↦ le-ltb x y (omega arith) ∙ sym (le-ltb (c + x) (c + y) (omega arith))
    ]

eqb-shift : (c x y : ℕ) → eqb x y ≡ eqb (c + x) (c + y)
eqb-shift c x y =
    elim (ℕ_discrete x y) [
      | yes e ↦ eq-eqb x y e ∙ sym (eq-eqb (c + x) (c + y) (omega arith))
      | no e ↦ ne_eqb x y e ∙ sym (ne_eqb (c + x) (c + y) (λ q. e (omega arith)))
    ]

module _ (first second : ℕ → ℕ) (most : ℕ) (bounded : (i : ℕ) → second i ≤ most) where
  -- by two keys is by their rank
  pub by_keys-rank : (i k : ℕ) → by_keys first second i k ≡ by_key (rank most first second) i k
  by_keys-rank i k =
      elim (dec_lt (first i) (first k)) [
        | yes l ↦
            rw (
              lt-ltb (first i) (first k) l,
              lt-ltb (rank most first second i) (rank most first second k)
                  (rank_lt most (first i) (first k) (second i) (second k) l (bounded i)),
            )
        | no l ↦ elim (ℕ_discrete (first i) (first k)) [
          | yes e ↦
              rw (
                e,
                le-ltb (first k) (first k) (omega arith),
                eq-eqb (first k) (first k) refl,
                ← ltb-shift (first k * suc most) (second i) (second k),
                ← eqb-shift (first k * suc most) (second i) (second k),
              )
          | no e ↦
              let over : rank most first second k < rank most first second i =
              rank_lt most (first k) (first i) (second k) (second i) (omega arith) (bounded k) in
              rw (
                le-ltb (first i) (first k) (omega arith),
                ne_eqb (first i) (first k) e,
                le-ltb (rank most first second i) (rank most first second k) (omega arith),
                ne_eqb (rank most first second i) (rank most first second k) (λ q. omega arith),
              )
        ]
      ]

  pub sorted-rank : (l : List ℕ) → sorted (by_keys first second) l ≡ sorted (by_key (rank most first second)) l
  sorted-rank l =
      sorted_ext (λ i. Unit) (by_keys first second) (by_key (rank most first second)) (λ i k a b. by_keys-rank i k) l
      (at-Every (λ i. Unit) l 0 (λ i h. tt))

  pub precedes-rank : (i k : ℕ) → PrecedesBy first second i k → Precedes (rank most first second) i k
  precedes-rank i k p =
      elim (ℕ_discrete (first i) (first k)) [
        | yes e ↦
            let same : first i * suc most ≡ first k * suc most = ap (λ n. n * suc most) e in
            record {
              keys = omega (arith, same, p.seconds e);
              ties = λ q. p.ties e (omega (arith, same));
            }
        | no e ↦
            let under : rank most first second i < rank most first second k =
            rank_lt most (first i) (first k) (second i) (second k) (omega (arith, p.firsts)) (bounded i) in
            record { keys = omega arith; ties = λ q. absurd (omega arith) }
      ]

-- the same numbers, with the same keys
pub sorted-same-by : (first first' second second' : ℕ → ℕ) (p p' : ℕ → Bool) (n : ℕ)
    → ((i : ℕ) → i < n → p i ≡ p' i) → ((i : ℕ) → i < n → first i ≡ first' i)
    → ((i : ℕ) → i < n → second i ≡ second' i)
    → sorted (by_keys first second) (numbers_where p n) ≡ sorted (by_keys first' second') (numbers_where p' n)
sorted-same-by first first' second second' p p' n hp hf hs =
    sorted_ext Same (by_keys first second) (by_keys first' second') (λ i k a b. rw (a.0, b.0, a.1, b.1))
    (numbers_where p n)
    (every-numbers_where Same p n (λ i l h. (hf i l, hs i l)))
    ∙ ap (sorted (by_keys first' second'))
    (join_to-ext (λ i. cond (p i) (i ∷ []) []) (λ i. cond (p' i) (i ∷ []) []) n
    (λ i l. ap (λ b. cond b (i ∷ []) []) (hp i l)))
  where
    Same : ℕ → Type 0
    Same i = (first i ≡ first' i) × (second i ≡ second' i)

-- where the second key is the same throughout, the first decides alone
pub sorted-alike : (first second : ℕ → ℕ) (p : ℕ → Bool) (n c : ℕ) → ((i : ℕ) → i < n → second i ≡ c)
    → sorted (by_keys first second) (numbers_where p n) ≡ sorted (by_key first) (numbers_where p n)
sorted-alike first second p n c alike =
    sorted_ext (λ i. second i ≡ c) (by_keys first second) (by_key first)
    (λ i k a b. rw (a, b, le-ltb c c (omega arith), eq-eqb c c refl))
    (numbers_where p n)
    (every-numbers_where (λ i. second i ≡ c) p n (λ i l h. alike i l))
