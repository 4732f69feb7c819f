-- The r smallest of the 2r members of r pairs, where the pairs are those of the numbers below n that have p: by a value
-- with at most r members below it and at least r up to it, their sum is one over the numbers, and no list is made.
use Prim.Native.Nat.{ℕ, zero, suc, ◌+◌, ◌*◌, ◌≤◌, ◌<◌}
use mathlib.Core.Bool.{Bool, true, false, cond}
use mathlib.Core.List.{List, [], ◌∷◌, ◌++◌, append-nil}
use mathlib.Core.Path.{◌≡◌, refl, ap, ap₂, ◌∙◌}
use native.Mathlib.Decide.{dec_lt}
use native.Mathlib.Omega.{arith}
use borrow.Author.Tests.{lt-ltb, le-ltb, le-leb, lt-leb}
use lib.Dec.{leb, ltb}
use lib.ListN.{length}
use Rattle.counting.specs.Sums.{sum_to, bit, count_to}
use Rattle.counting.specs.Lists.{join_to, join_in, numbers_where}
use Rattle.counting.proofs.sums.SumLaws.{sum_to-ext, sum_to-mono, sum_to-next, sum_to-none}
use Rattle.counting.proofs.lists.ListLaws.{join_to-ext, join_in-append}
use Rattle.counting.proofs.sorting.SortLaws.{total_in, total_in-append}
use Rattle.counting.proofs.lists.NumbersLaws.{numbers_where-length}
use Rattle.counting.proofs.sorting.SmallestLaws.{smallest_sum, pairs_of}
use Rattle.counting.proofs.sorting.ThresholdLaws.{count_below, smallest_sum-threshold}

module _ (f g : ℕ → ℕ) (p : ℕ → Bool) (n : ℕ) where
  -- h of both members of every pair, added
  unfoldable pub pair_total : (ℕ → ℕ) → ℕ
  pair_total h = sum_to (λ k. cond (p k) (h (f k) + h (g k)) 0) n

  -- the members of the pairs
  abbrev pair_members : List ℕ
  pair_members = join_to (λ k. cond (p k) (f k ∷ g k ∷ []) []) n

  -- the sum of the r smallest
  unfoldable pub pairs_smallest : ℕ
  pairs_smallest = smallest_sum (count_to p n) pair_members

-- how many members are at most t, how many are below t, and the sum of those below
abbrev pub pairs_up_to : (ℕ → ℕ) → (ℕ → ℕ) → (ℕ → Bool) → ℕ → ℕ → ℕ
pairs_up_to f g p n t = pair_total f g p n (λ a. bit (leb a t))

abbrev pub pairs_below : (ℕ → ℕ) → (ℕ → ℕ) → (ℕ → Bool) → ℕ → ℕ → ℕ
pairs_below f g p n t = pair_total f g p n (λ a. bit (ltb a t))

abbrev pub pairs_sum_below : (ℕ → ℕ) → (ℕ → ℕ) → (ℕ → Bool) → ℕ → ℕ → ℕ
pairs_sum_below f g p n t = pair_total f g p n (λ a. cond (ltb a t) a 0)

-- a value that splits the 2r members: at most r are below it, at least r are up to it
pub record Splits (f g : ℕ → ℕ) (p : ℕ → Bool) (n t : ℕ) : Type 0 where
  pub below : pairs_below f g p n t ≤ count_to p n
  pub up_to : count_to p n ≤ pairs_up_to f g p n t

module _ {A : Type 0} where
  -- lists joined over the numbers that have p
  join_in-numbers_where : (h : ℕ → List A) (p : ℕ → Bool) (n : ℕ)
      → join_in h (numbers_where p n) ≡ join_to (λ k. cond (p k) (h k) []) n
  unfolding join_in join_to
  join_in-numbers_where h p zero = refl
  join_in-numbers_where h p (suc n) =
      join_in-append h (numbers_where p n) (cond (p n) (n ∷ []) [])
      ∙ ap₂ ◌++◌ (join_in-numbers_where h p n) (last (p n))
    where
      last : (b : Bool) → join_in h (cond b (n ∷ []) []) ≡ cond b (h n) []
      last true = append-nil (h n)
      last false = refl

module _ (f g : ℕ → ℕ) (p : ℕ → Bool) where
  -- the r smallest of the pairs of a list of numbers
  pub pairs_smallest-is : (n : ℕ)
      → smallest_sum (length (numbers_where p n)) (pairs_of f g (numbers_where p n)) ≡ pairs_smallest f g p n
  unfolding pairs_smallest
  pairs_smallest-is n =
      ap₂ smallest_sum (numbers_where-length p n) (join_in-numbers_where (λ k. f k ∷ g k ∷ []) p n)

  total_in-pairs : (h : ℕ → ℕ) (n : ℕ) → total_in h (pair_members f g p n) ≡ pair_total f g p n h
  unfolding join_to sum_to total_in pair_total
  total_in-pairs h zero = refl
  total_in-pairs h (suc n) =
      total_in-append h (pair_members f g p n) (cond (p n) (f n ∷ g n ∷ []) [])
      ∙ ap₂ ◌+◌ (total_in-pairs h n) (last (p n))
    where
      last : (b : Bool) → total_in h (cond b (f n ∷ g n ∷ []) []) ≡ cond b (h (f n) + h (g n)) 0
      last true = omega arith
      last false = refl

  -- d of the r are not below t
  pub pairs_smallest-threshold : (n t d : ℕ) → pairs_below f g p n t + d ≡ count_to p n
      → count_to p n ≤ pairs_up_to f g p n t → pairs_smallest f g p n ≡ pairs_sum_below f g p n t + d * t
  unfolding pairs_smallest
  pairs_smallest-threshold n t d e h =
      let l : List ℕ = pair_members f g p n in
      let below = total_in-pairs (λ a. bit (ltb a t)) n in
      let r : count_to p n ≡ count_below t l + d = omega (arith, e, below) in
      ap (λ r. smallest_sum r l) r
      ∙ smallest_sum-threshold t d l (omega (arith, total_in-pairs (λ a. bit (leb a t)) n))
      ∙ ap (λ s. s + d * t) (total_in-pairs (λ a. cond (ltb a t) a 0) n)

  pub pair_total-zero : (h : ℕ → ℕ) → pair_total f g p 0 h ≡ 0
  unfolding pair_total sum_to
  pair_total-zero h = refl

  pub pair_total-next : (h : ℕ → ℕ) (n : ℕ)
      → pair_total f g p (n + 1) h ≡ pair_total f g p n h + cond (p n) (h (f n) + h (g n)) 0
  unfolding pair_total
  pair_total-next h n = sum_to-next (λ k. cond (p k) (h (f k) + h (g k)) 0) n

  pair_total-ext : (h j : ℕ → ℕ) (n : ℕ) → ((a : ℕ) → h a ≡ j a) → pair_total f g p n h ≡ pair_total f g p n j
  unfolding pair_total
  pair_total-ext h j n e =
      sum_to-ext (λ k. cond (p k) (h (f k) + h (g k)) 0) (λ k. cond (p k) (j (f k) + j (g k)) 0) n
      (λ k l. ap (λ s. cond (p k) s 0) (ap₂ ◌+◌ (e (f k)) (e (g k))))

  -- nothing is below 0
  pub pairs_below-none : (n : ℕ) → pairs_below f g p n 0 ≡ 0
  unfolding pair_total
  pairs_below-none n =
      sum_to-none (λ k. cond (p k) (bit (ltb (f k) 0) + bit (ltb (g k) 0)) 0) n (λ k l. none (p k) k)
    where
      none : (b : Bool) (k : ℕ) → cond b (bit (ltb (f k) 0) + bit (ltb (g k) 0)) 0 ≡ 0
      none true k = rw (le-ltb (f k) 0 (omega arith), le-ltb (g k) 0 (omega arith))
      none false k = refl

  -- below t + 1 is up to t
  pub pairs_below-next : (n t : ℕ) → pairs_below f g p n (t + 1) ≡ pairs_up_to f g p n t
  pairs_below-next n t = pair_total-ext (λ a. bit (ltb a (t + 1))) (λ a. bit (leb a t)) n (λ a. same a (dec_lt t a))
    where
      same : (a : ℕ) → Dec (t < a) → bit (ltb a (t + 1)) ≡ bit (leb a t)
      same a (yes h) = rw (le-ltb a (t + 1) (omega arith), lt-leb a t h)
      same a (no h) = rw (lt-ltb a (t + 1) (omega arith), le-leb a t (omega arith))

  -- where the first member of every pair is at most t, at least r are
  pub count_to-pairs_up_to-le : (n t : ℕ) → ((k : ℕ) → k < n → p k ≡ true → f k ≤ t) → count_to p n
      ≤ pairs_up_to f g p n t
  unfolding pair_total
  count_to-pairs_up_to-le n t h =
      sum_to-mono (λ k. bit (p k)) (λ k. cond (p k) (bit (leb (f k) t) + bit (leb (g k) t)) 0) n
      (λ k l. each k (p k) (h k l))
    where
      each : (k : ℕ) (b : Bool) → (b ≡ true → f k ≤ t) → bit b ≤ cond b (bit (leb (f k) t) + bit (leb (g k) t)) 0
      each k true h = rw (le-leb (f k) t (h refl)) (omega arith)
      each k false h = omega arith

-- pairs that are the same below n
pub pairs_smallest-ext : (f f' g g' : ℕ → ℕ) (p p' : ℕ → Bool) (n : ℕ) → ((k : ℕ) → k < n → f k ≡ f' k)
    → ((k : ℕ) → k < n → g k ≡ g' k) → ((k : ℕ) → k < n → p k ≡ p' k)
    → pairs_smallest f g p n ≡ pairs_smallest f' g' p' n
unfolding pairs_smallest
pairs_smallest-ext f f' g g' p p' n ef eg ep =
    ap₂ smallest_sum (sum_to-ext (λ k. bit (p k)) (λ k. bit (p' k)) n (λ k l. ap bit (ep k l)))
    (join_to-ext (λ k. cond (p k) (f k ∷ g k ∷ []) []) (λ k. cond (p' k) (f' k ∷ g' k ∷ []) []) n
    (λ k l. ap₂ (λ b m. cond b m []) (ep k l) (ap₂ (λ a b. a ∷ b ∷ []) (ef k l) (eg k l))))
