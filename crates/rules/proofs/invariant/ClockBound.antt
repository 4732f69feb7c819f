-- The invariant keeps the clock below the bound: costs spent, phase ticks, embedded waits and wait ticks are each at
-- most their term. With work left, the next step of any row still ends by the bound, and so by 1,000,000.
use Prim.Native.Nat.{ℕ, zero, suc, ◌+◌, ◌-◌, ◌≤◌, ◌<◌, min}
use mathlib.Core.Bool.{Bool, true, false, cond}
use mathlib.Core.Path.{◌≡◌, refl}
use native.Mathlib.Omega.{arith}
use Rattle.counting.specs.Sums.{sum_to}
use Rattle.counting.proofs.sums.SumLaws.{sum_to-mono}
use Rattle.counting.proofs.sums.ChangeLaws.{sum_to-change-ge, sum_to-more, sum_to-more-term}
use Rattle.load.specs.Load.{last_moment}
use Rattle.load.specs.View.{View, embedded_wait}
use Rattle.rules.specs.Bound.{all_costs, embedded_wait_at, all_embedded_waits, largest_w, bound_by}
use Rattle.rules.specs.State.{State}
use Rattle.rules.specs.Ready.{would_end}
use Rattle.rules.proofs.bound.BoundLaws.{Ranged, bound_by-le}
use Rattle.rules.proofs.invariant.Runnable.{Runnable}
use Rattle.rules.proofs.invariant.Setting.{Gives, Charge}
use Rattle.rules.proofs.invariant.Invariant.{spent, waited_row, waited_of, waited, wait_places, Invariant}

pub runnable-ranged : (L : View) → Runnable L → Ranged L
runnable-ranged L g =
    record {
      rows-most = g.rows-most;
      steps-most = g.steps-most;
      phase-most = g.phase-most;
      cost-most = g.cost-most;
      wait-most = λ i j l h. g.wait-most i j l (omega arith);
    }

pub bound_by-fits : (gives : Gives) (L : View) → Runnable L → bound_by gives L ≤ last_moment
bound_by-fits gives L g = omega (arith, bound_by-le L (runnable-ranged L g) gives)

-- all a row has waited is among its embedded waits
waited_row-le : (L : View) (i f since : ℕ) → Runnable L → i < L.rows → f ≤ L.steps i
    → waited_row L i f since ≤ sum_to (embedded_wait_at L i) (L.steps i - 1)
waited_row-le L i zero since g l h = omega arith
waited_row-le L i (suc j) since g l h = go (embedded_wait L i j) refl
  where
    go : (b : Bool) → embedded_wait L i j ≡ b
        → sum_to (embedded_wait_at L i) j + cond b (min (L.wait i j) since) 0
        ≤ sum_to (embedded_wait_at L i) (L.steps i - 1)
    go false e = omega (arith, sum_to-more (embedded_wait_at L i) j (L.steps i - 1) (omega arith))
    go true e =
        let w : embedded_wait_at L i j ≡ L.wait i j = rw e in
        let inside = g.embedded-in i (suc j) l e in
        omega (arith, w, sum_to-more-term (embedded_wait_at L i) j (L.steps i - 1) (omega arith))

module _ (L : View) (s : State) (g : Runnable L) {gives : Gives} {charged : Charge} {E P : ℕ} {F : ℕ → ℕ}
    (v : Invariant gives charged L s E P F) where
  waited-le : waited L s ≤ all_embedded_waits L
  unfolding waited all_embedded_waits
  waited-le =
      sum_to-mono (waited_of L s) (λ i. sum_to (embedded_wait_at L i) (L.steps i - 1)) L.rows
      (λ i l. waited_row-le L i (s.finished i) (s.clock - s.end i) g l (v.shape.finished-le i l))

  -- the clock, and what is left of all costs
  clock-le : spent L s ≤ all_costs L → s.clock + (all_costs L - spent L s) ≤ bound_by gives L
  unfolding bound_by
  clock-le h =
      omega (
        arith,
        v.clock-sum,
        v.phase-ticks,
        v.open-ticks,
        waited-le,
        sum_to-mono F (largest_w gives L) wait_places v.wait-ticks,
      )

  spent-le : spent L s ≤ all_costs L
  unfolding spent all_costs
  spent-le =
      sum_to-mono (λ i. sum_to (L.cost i) (s.finished i)) (λ i. sum_to (L.cost i) (L.steps i)) L.rows
      (λ i l. sum_to-more (L.cost i) (s.finished i) (L.steps i) (v.shape.finished-le i l))

  -- the clock never passes the bound
  pub clock-in-bound : s.clock ≤ bound_by gives L
  clock-in-bound = omega (arith, clock-le spent-le)

  -- and there is room for the next step of any row
  next-in-bound : (k : ℕ) → k < L.rows → s.finished k < L.steps k
      → spent L s + L.cost k (s.finished k) ≤ all_costs L
  unfolding spent all_costs
  next-in-bound k l h =
      sum_to-change-ge (λ i. sum_to (L.cost i) (s.finished i)) (λ i. sum_to (L.cost i) (L.steps i)) L.rows k
      (L.cost k (s.finished k)) l
      (λ i li ne. sum_to-more (L.cost i) (s.finished i) (L.steps i) (v.shape.finished-le i li))
      (sum_to-more-term (L.cost k) (s.finished k) (L.steps k) h)

  pub next_le : (k : ℕ) → k < L.rows → s.finished k < L.steps k → would_end L s k ≤ bound_by gives L
  next_le k l h = omega (arith, clock-le spent-le, next-in-bound k l h)

  pub room_for : (k : ℕ) → k < L.rows → s.finished k < L.steps k → would_end L s k ≤ last_moment
  room_for k l h = omega (arith, next_le k l h, bound_by-fits gives L g)
