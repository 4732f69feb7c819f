-- Row bounds and margins stay in their ranges: the cut load is within the ranges of the load, so a row bound is at most
-- 806,400; it is at least a cost; and a margin is between -806,399 and 999,999.
use Prim.Native.Nat.{ℕ, zero, suc, ◌-◌, ◌≤◌, ◌<◌}
use mathlib.Core.Bool.{Bool, true, false, cond}
use mathlib.Core.Path.{◌≡◌, refl}
use native.Mathlib.Omega.{arith}
use borrow.Author.Tests.{lt-ltb}
use lib.Dec.{ltb, le→leb}
use lib.IntN.{ℤ, pos, negsuc, ◌-ℤ◌}
use lib.Signed.{◌≤ℤ◌, le_z_yes}
use Rattle.counting.specs.Sums.{sum_to}
use Rattle.counting.proofs.sums.SumLaws.{term-le-sum_to}
use Rattle.load.specs.Load.{last_moment}
use Rattle.load.specs.View.{View}
use Rattle.rules.specs.Cut.{cut, kept}
use Rattle.rules.specs.Bound.{all_costs, bound_by, bound}
use Rattle.rules.specs.Margins.{row_bound, margin}
use Rattle.rules.proofs.cut.CutLaws.{first_kept-le, kept-le}
use Rattle.rules.proofs.bound.BoundLaws.{Ranged, largest_bound, bound-le}

-- the cut load is within the same ranges
pub ranged-of-cut : (L : View) (m : ℕ) → Ranged L → Ranged (cut L m)
unfolding cut
ranged-of-cut L m ranged =
    record {
      rows-most = ranged.rows-most;
      steps-most = λ i l. omega (arith, kept-le L m i, ranged.steps-most i l);
      phase-most = ranged.phase-most;
      cost-most = λ i j l h. ranged.cost-most i j l (omega (arith, kept-le L m i));
      wait-most = λ i j l h.
          rw (lt-ltb (suc j) (kept L m i) h) (ranged.wait-most i j l (omega (arith, kept-le L m i)));
    }

pub row_bound-le : (L : View) (i : ℕ) → Ranged L → row_bound L i ≤ largest_bound
unfolding row_bound
row_bound-le L i ranged = bound-le (cut L (L.steps i)) (ranged-of-cut L (L.steps i) ranged)

-- a row's bound is at least the cost of its first step
pub first-cost-le : (L : View) (i : ℕ) → i < L.rows → 1 ≤ L.steps i → L.cost i 0 ≤ row_bound L i
unfolding row_bound bound bound_by all_costs cut
first-cost-le L i l h =
    let m = L.steps i in
    omega (
      arith,
      term-le-sum_to (λ k. sum_to (L.cost k) (kept L m k)) L.rows i l,
      term-le-sum_to (L.cost i) (kept L m i) 0 (omega (arith, first_kept-le L m i)),
    )

-- a margin is between -806,399 and 999,999
pub record MarginRange (margin : ℤ) : Type 0 where
  pub least : negsuc 806398 ≤ℤ margin
  pub most : margin ≤ℤ pos 999999

difference-range : (d b : ℕ) → 1 ≤ d → d ≤ last_moment → 1 ≤ b → b ≤ largest_bound → MarginRange (pos d -ℤ pos b)
difference-range d zero h k l n = absurd (omega arith)
difference-range d (suc b) h k l n = go (ltb d (suc b)) refl
  where
    go : (t : Bool) → ltb d (suc b) ≡ t → MarginRange (cond t (negsuc (suc b - suc d)) (pos (d - suc b)))
    go true e = record { least = le_z_yes (le→leb (suc b - suc d) 806398 (omega arith)); most = le_z_yes tt }
    go false e = record { least = le_z_yes tt; most = le_z_yes (le→leb (d - suc b) 999999 (omega arith)) }

pub margin-range : (L : View) (i : ℕ) → Ranged L → i < L.rows → 1 ≤ L.steps i → 1 ≤ L.cost i 0
    → 1 ≤ L.deadline i → L.deadline i ≤ last_moment → MarginRange (margin L i)
unfolding margin
margin-range L i ranged l steps cost least most =
    difference-range (L.deadline i) (row_bound L i) least most (omega (arith, first-cost-le L i l steps))
    (row_bound-le L i ranged)
