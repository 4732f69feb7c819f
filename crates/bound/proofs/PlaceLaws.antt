-- The largest W at a place, by the marks of that place: each holds what the view says of the rows that are there, and
-- no others are asked.
use Prim.Native.Nat.{ℕ, suc, ◌+◌, ◌-◌, ◌≤◌, ◌<◌}
use mathlib.Core.Bool.{Bool, true, false, cond, ◌&&◌, not, and_assoc}
use mathlib.Core.List.{List}
use mathlib.Core.Path.{◌≡◌, refl, sym, ap, ap₂, ◌∙◌}
use native.Mathlib.Numerals.{add-one}
use borrow.Author.Tests.{ltb-true}
use lib.Dec.{eqb, ltb}
use lib.ListN.{get_or}
use Rattle.counting.specs.Sums.{any_to}
use Rattle.counting.specs.Lists.{filled, is_marked}
use Rattle.counting.proofs.tests.TestLaws.{and_left, any_to-false}
use Rattle.counting.proofs.lists.ListLaws.{get_or-filled}
use Rattle.counting.proofs.sorting.PairLaws.{pairs_smallest, pairs_smallest-is, pairs_smallest-ext}
use Rattle.load.specs.Load.{most_rows, largest_cost}
use Rattle.load.specs.View.{View, is_free, embedded}
use Rattle.load.specs.Acceptable.{Acceptable}
use Rattle.rules.specs.Bound.{wait_left, largest_w, is_partner, partners, pair_costs, smallest_costs}
use Rattle.rules.specs.Blame.{none_left, largest_at}
use Rattle.bound.specs.inner.Marks.{is_other, left_in, largest_to}
use Rattle.bound.proofs.LargestLaws.{largest_to-ext, largest_to-none}

pub smallest_costs-is : (L : View) (j i : ℕ)
    → smallest_costs L j i ≡ pairs_smallest (λ k. L.cost k j) (λ k. L.cost k (suc j)) (is_partner L j i) L.rows
unfolding smallest_costs pair_costs partners
smallest_costs-is L j i = pairs_smallest-is (λ k. L.cost k j) (λ k. L.cost k (suc j)) (is_partner L j i) L.rows

-- the marks of place j
pub record AtPlace (L : View) (j : ℕ) (pairs frees : List Bool) : Type 0 where
  pub pairs_is : (k : ℕ) → k < L.rows → is_marked pairs k ≡ (is_free L k j && is_free L k (j + 1))
  pub frees-is : frees ≡ filled (λ i. is_free L i (j + 1)) L.rows most_rows false

-- what stands in a filled array
pub read : {A : Type 0} (f : ℕ → A) (n last : ℕ) (z : A) (l : List A) → l ≡ filled f n last z → (k : ℕ) → k < n
    → get_or l k z ≡ f k
read f n last z l e k h = ap (λ l. get_or l k z) e ∙ get_or-filled f n last k z z h

module _ (L : View) (j : ℕ) (pairs frees : List Bool) (h : AtPlace L j pairs frees) where
  paired : (k : ℕ) → k < L.rows → is_marked pairs k ≡ (is_free L k j && is_free L k (suc j))
  paired k l =
      h.pairs_is k l ∙ ap (λ next. is_free L k j && is_free L k next) (add-one j)

  -- a row that is marked has a step there, whose cost is within its range
  pub paired-cost : Acceptable L → (k : ℕ) → k < L.rows → is_marked pairs k ≡ true → L.cost k j ≤ largest_cost
  paired-cost ok k l e =
      let free = and_left (is_free L k j) (is_free L k (suc j)) (sym (paired k l) ∙ e) in
      let there = ltb-true j (L.steps k) (and_left (ltb j (L.steps k)) (not (embedded L k j)) free) in
      ok.cost-most k j l there

  -- what the others give to row i, by the marks
  abbrev given : ℕ → ℕ → ℕ
  given n i = pairs_smallest (λ k. L.cost k j) (λ k. L.cost k (j + 1)) (is_other pairs i) n

  given-read : (i : ℕ) → given L.rows i ≡ smallest_costs L j i
  given-read i =
      pairs_smallest-ext (λ k. L.cost k j) (λ k. L.cost k j) (λ k. L.cost k (j + 1)) (λ k. L.cost k (suc j))
      (is_other pairs i) (is_partner L j i) L.rows (λ k l. refl) (λ k l. ap (L.cost k) (add-one j))
      (λ k l.
      ap (λ b. not (eqb k i) && b) (paired k l)
      ∙ sym (and_assoc (not (eqb k i)) (is_free L k j) (is_free L k (suc j))))
      ∙ sym (smallest_costs-is L j i)

  -- what is left at the place, by the marks
  abbrev left : ℕ → ℕ → ℕ
  left n = left_in (given n) (λ i. L.wait i j) frees

  left-read : (n : ℕ) → n ≡ L.rows → (i : ℕ) → i < L.rows → left n i ≡ wait_left smallest_costs L j i
  left-read n e i l =
      rw e
      (ap₂ (λ b s. cond b (L.wait i j - s) 0)
      (read _ _ most_rows false frees h.frees-is i l ∙ ap (is_free L i) (add-one j)) (given-read i))

  pub largest_at-read : (n : ℕ) → n ≡ L.rows → largest_to (left n) n ≡ largest_at smallest_costs L j
  unfolding largest_w
  largest_at-read n e =
      ap (largest_to (left n)) e ∙ largest_to-ext (left n) (wait_left smallest_costs L j) L.rows (left-read n e)

-- where no row's wait is free, there is no W, and no row
pub largest_at-none : (L : View) (j : ℕ) (frees : List Bool)
    → frees ≡ filled (λ i. is_free L i (j + 1)) L.rows most_rows false → any_to (is_marked frees) L.rows ≡ false
    → none_left ≡ largest_at smallest_costs L j
unfolding largest_w
largest_at-none L j frees e none =
    largest_to-none (wait_left smallest_costs L j) L.rows
    (λ i l.
    ap (λ b. cond b (L.wait i j - smallest_costs L j i) 0)
    (ap (is_free L i) (sym (add-one j))
    ∙ sym (read _ _ most_rows false frees e i l)
    ∙ any_to-false (is_marked frees) L.rows none i l))
