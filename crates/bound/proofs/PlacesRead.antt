-- The largest W of each place, out of a list: a load's list holds the load's own, so what is added up and whom it
-- blames are the load's. One place more is the worst only where its W is larger.
use Prim.Native.Nat.{ℕ, ◌+◌, ◌-◌, ◌≤◌, ◌<◌}
use mathlib.Core.List.{List}
use mathlib.Core.Path.{◌≡◌, ap, sym, ◌∙◌}
use native.Mathlib.Omega.{arith}
use Rattle.counting.specs.Sums.{sum_to, max_to}
use Rattle.counting.proofs.sums.SumLaws.{sum_to-ext, max_to-next}
use Rattle.counting.proofs.lists.ListLaws.{get_or-list_to}
use Rattle.load.specs.Load.{most_steps}
use Rattle.load.specs.View.{View}
use Rattle.load.specs.Acceptable.{Acceptable}
use Rattle.rules.specs.declared.LargestW.{LargestW}
use Rattle.rules.specs.declared.Blame.{Blame}
use Rattle.rules.specs.Bound.{largest_w, most_places, smallest_costs}
use Rattle.rules.specs.Blame.{none_left, largest_at, blame_among, place_waits, row_blame}
use Rattle.rules.proofs.bound.BlameLaws.{blame_among-larger, blame_among-smaller, blame_among-ext}
use Rattle.rules.proofs.cut.CutBlame.{blame-of-cut}
use Rattle.bound.specs.inner.CutTerms.{place_in, waits_below}
use Rattle.bound.proofs.AcceptedLaws.{accepted-within}

-- a turn of the loop that goes from one place to the next: a place that is worse than those before, and one that is not
module _ (places : List LargestW) (k most : ℕ) (held : most ≡ max_to (λ j. (place_in places j).left) k) where
  abbrev left : ℕ → ℕ
  left j = (place_in places j).left

  pub worse-turn : most < left k
      → (left k ≡ max_to left (k + 1))
      × (record { place = k + 1; row = (place_in places k).row } ≡ blame_among (place_in places) (k + 1))
  worse-turn l = (
    omega (arith, max_to-next left k, held),
    blame_among-larger (place_in places) k (omega (arith, held)),
  )

  pub other-turn : (worst : Blame) → worst ≡ blame_among (place_in places) k → left k ≤ most
      → (most ≡ max_to left (k + 1)) × (worst ≡ blame_among (place_in places) (k + 1))
  other-turn worst blamed l = (
    omega (arith, max_to-next left k, held),
    blamed ∙ blame_among-smaller (place_in places) k (omega (arith, held)),
  )

module _ (L : View) where
  place_in-is : (j : ℕ) → j < most_places → place_in (place_waits L) j ≡ largest_at smallest_costs L j
  unfolding place_waits
  place_in-is j l = get_or-list_to (largest_at smallest_costs L) most_places j none_left l

  -- the load's W's, added
  pub waits_below-is : (k : ℕ) → k < most_steps → waits_below (place_waits L) k ≡ sum_to (largest_w smallest_costs L) k
  waits_below-is k h =
      sum_to-ext (λ j. (place_in (place_waits L) j).left) (largest_w smallest_costs L) k
      (λ j l. ap (λ (w : LargestW). w.left) (place_in-is j (omega arith)))

  -- a row's blame is that of the places between its steps
  pub row_blame-is : Acceptable L → (i : ℕ) → i < L.rows
      → blame_among (place_in (place_waits L)) (L.steps i - 1) ≡ row_blame L i
  unfolding row_blame
  row_blame-is ok i l =
      blame_among-ext (place_in (place_waits L)) (largest_at smallest_costs L) (L.steps i - 1)
      (λ j b. place_in-is j (omega (arith, ok.steps-most i l)))
      ∙ sym (blame-of-cut L (L.steps i) (accepted-within L ok) (ok.steps-most i l))
