-- One load that the rules accept has the largest bound, 806,400, so that no smaller number would do.
use Prim.Native.Nat.{ℕ, zero, suc, ◌≤◌, ◌<◌}
use mathlib.Core.Bool.{Bool, true, false, cond}
use mathlib.Core.List.{[], ◌∷◌}
use mathlib.Core.Path.{◌≡◌, refl}
use native.Mathlib.Omega.{arith}
use lib.Dec.{ltb}
use borrow.Author.Tests.{le-ltb}
use Rattle.counting.specs.Sums.{sum_to, max_to}
use Rattle.counting.specs.Lists.{join_to, join_in, any_in, sum_in}
use Rattle.counting.specs.Sorting.{inserted, sorted}
use Rattle.load.specs.Load.{most_rows, most_steps, largest_cost, largest_wait, latest_phase, last_moment, largest_limit}
use Rattle.load.specs.View.{View, chain, embedded}
use Rattle.load.specs.Acceptable.{Acceptable, window_of, chain_in}
use Rattle.rules.specs.Bound.{
  all_costs,
  largest_phase,
  all_embedded_waits,
  largest_w,
  bound_by,
  partners,
  pair_costs,
  smallest_costs,
  bound,
}
use Rattle.rules.proofs.bound.BoundLaws.{largest_bound}

-- the load of the largest bound: every step of every row after its first is embedded
unfoldable pub fullest : View
fullest =
    record {
      rows = most_rows;
      phase = λ i. latest_phase;
      deadline = λ i. last_moment;
      steps = λ i. most_steps;
      cost = λ i j. largest_cost;
      wait = λ i j. cond (ltb (suc j) most_steps) largest_wait 0;
      windows = λ i. record { first = 1; last = most_steps; limit = largest_limit } ∷ [];
      class = λ i. 0;
    }

pub bound-reached : bound fullest ≡ largest_bound
unfolding
    fullest
    bound
    bound_by
    all_costs
    largest_phase
    all_embedded_waits
    largest_w
    smallest_costs
    pair_costs
    partners
    embedded
    sum_to
    max_to
    any_in
    join_to
    join_in
    sum_in
    sorted
    inserted
bound-reached = refl

-- its windows: one, at place 0
window-there : (P : ℕ → Type 0) → P 0 → (p : ℕ) → p < 1 → P p
window-there P h zero l = h
window-there P h (suc p) l = absurd (omega arith)

wait-fits : (b : Bool) → cond b largest_wait 0 ≤ largest_wait
wait-fits true = omega arith
wait-fits false = omega arith

-- and the rules accept it
pub fullest-acceptable : Acceptable fullest
unfolding fullest chain sum_to
fullest-acceptable =
    record {
      rows-most = omega arith;
      phase-most = λ i l. omega arith;
      deadline-least = λ i l. omega arith;
      deadline-most = λ i l. omega arith;
      steps-least = λ i l. omega arith;
      steps-most = λ i l. omega arith;
      windows-most = λ i l. omega arith;
      class-most = λ i l. omega arith;
      cost-least = λ i j l h. omega arith;
      cost-most = λ i j l h. omega arith;
      wait-most = λ i j l h. wait-fits (ltb (suc j) most_steps);
      wait-last = λ i j l h e. rw (le-ltb (suc j) most_steps (omega arith));
      first-least = λ i p l. window-there (λ q. 1 ≤ (window_of fullest i q).first) (omega arith) p;
      first-last = λ i p l.
          window-there (λ q. (window_of fullest i q).first < (window_of fullest i q).last) (omega arith) p;
      last-most = λ i p l. window-there (λ q. (window_of fullest i q).last ≤ most_steps) (omega arith) p;
      limit-least = λ i p l. window-there (λ q. 1 ≤ (window_of fullest i q).limit) (omega arith) p;
      limit-most = λ i p l. window-there (λ q. (window_of fullest i q).limit ≤ largest_limit) (omega arith) p;
      ascending = λ i q l h p lower. absurd (omega arith);
      limit-chain = λ i p l. window-there
          (λ q. chain_in fullest i (window_of fullest i q) ≤ (window_of fullest i q).limit) (omega arith) p;
    }
