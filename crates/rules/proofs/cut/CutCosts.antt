-- What the others give in the cut load: at a place below m the same as in the load, be it the r smallest of the pairs'
-- costs or the smaller cost of each row. The premise is that the rows' windows end within their steps.
use Prim.Native.Nat.{ℕ, suc, ◌<◌, min}
use mathlib.Core.Bool.{cond, ◌&&◌, not}
use mathlib.Core.List.{[], ◌∷◌}
use mathlib.Core.Path.{◌≡◌, ap, ap₂}
use native.Mathlib.Omega.{arith}
use lib.Dec.{eqb, leb}
use lib.ListN.{length, take}
use Rattle.counting.specs.Lists.{join_in, sum_in}
use Rattle.counting.specs.Sorting.{sorted}
use Rattle.counting.proofs.sums.SumLaws.{sum_to-ext}
use Rattle.counting.proofs.lists.ListLaws.{join_to-ext}
use Rattle.load.specs.View.{View, is_free}
use Rattle.rules.specs.Cut.{cut}
use Rattle.rules.specs.Bound.{is_partner, partners, pair_costs, smallest_costs}
use Rattle.rules.proofs.bound.TightBound.{minima}
use Rattle.rules.proofs.cut.CutLaws.{Within, is_free-of-cut}

module _ (L : View) (m : ℕ) (within : (i : ℕ) → i < L.rows → Within L i) where
  is_partner-of-cut : (j i k : ℕ) → suc j < m → k < L.rows → is_partner (cut L m) j i k ≡ is_partner L j i k
  is_partner-of-cut j i k h l =
      ap₂ (λ a b. not (eqb k i) && a && b) (is_free-of-cut L m k j (within k l) (omega arith))
      (is_free-of-cut L m k (suc j) (within k l) h)

  partners-of-cut : (j i : ℕ) → suc j < m → partners (cut L m) j i ≡ partners L j i
  unfolding partners cut
  partners-of-cut j i h =
      join_to-ext (λ k. cond (is_partner (cut L m) j i k) (k ∷ []) []) (λ k. cond (is_partner L j i k) (k ∷ []) [])
      L.rows (λ k l. ap (λ t. cond t (k ∷ []) []) (is_partner-of-cut j i k h l))

  pub smallest_costs-of-cut : (j i : ℕ) → suc j < m → smallest_costs (cut L m) j i ≡ smallest_costs L j i
  unfolding smallest_costs pair_costs cut
  smallest_costs-of-cut j i h =
      ap
      (λ ks. sum_in (take (length ks) (sorted leb (join_in (λ k. L.cost k j ∷ L.cost k (suc j) ∷ []) ks))))
      (partners-of-cut j i h)

  pub minima-of-cut : (j i : ℕ) → suc j < m → minima (cut L m) j i ≡ minima L j i
  unfolding minima cut
  minima-of-cut j i h =
      sum_to-ext
      (λ k. cond (not (eqb k i) && is_free (cut L m) k (suc j)) (min (L.cost k j) (L.cost k (suc j))) 0)
      (λ k. cond (not (eqb k i) && is_free L k (suc j)) (min (L.cost k j) (L.cost k (suc j))) 0)
      L.rows
      (λ k l.
      ap (λ t. cond (not (eqb k i) && t) (min (L.cost k j) (L.cost k (suc j))) 0)
      (is_free-of-cut L m k (suc j) (within k l) h))
