-- What a row keeps is where a search over its places stops: at the first step from the certain ones on that is not
-- embedded, or at the row's end. What the rows of a load keep in this way is what the cut keeps.
use Prim.Native.Nat.{ℕ, ◌+◌, ◌-◌, ◌≤◌, ◌<◌, min}
use mathlib.Core.Bool.{true, false, not}
use mathlib.Core.Path.{◌≡◌, ap, ◌∙◌}
use native.Mathlib.Omega.{arith}
use Rattle.std.specs.Prelude.{Option, None, Some, MatchOption}
use Rattle.std.specs.Option.{unwrap_or}
use Rattle.counting.specs.Sums.{sum_to}
use Rattle.counting.specs.Searches.{first_to}
use Rattle.counting.proofs.sums.SumLaws.{sum_to-add}
use Rattle.counting.proofs.searches.FirstToLaws.{first_to-unique, first_to-first}
use Rattle.load.specs.declared.Row.{Row}
use Rattle.load.specs.declared.Load.{Load}
use Rattle.load.specs.Load.{row_at, step_at, no_row}
use Rattle.load.specs.View.{view_of, embedded, row_windows, embedded_among}
use Rattle.rules.specs.Cut.{kept}
use Rattle.rules.proofs.cut.CutBound.{kept_costs, kept_waits}
use Rattle.bound.specs.inner.CutTerms.{kept_from, kept_of, wait_in, ticks_of}

-- a search over places stops at j
pub record Stops (row : Row) (first j : ℕ) : Type 0 where
  pub from : first ≤ j
  pub most : j ≤ row.steps
  pub before : (k : ℕ) → first ≤ k → k < j → embedded_among k (row_windows row) ≡ true
  pub stop : j < row.steps → embedded_among j (row_windows row) ≡ false

pub kept_from-is : (row : Row) (first j : ℕ) → Stops row first j → j ≡ kept_from row first
unfolding kept_from
kept_from-is row first j h =
    let e : first + (j - first) ≡ j = omega (arith, h.from) in
    let n : ℕ = row.steps - first in
    omega (
      arith,
      h.from,
      first_to-unique (λ d. not (embedded_among (first + d) (row_windows row))) n (j - first)
          (first_to (λ d. not (embedded_among (first + d) (row_windows row))) n)
          (record {
            most = omega (arith, h.most);
            before = λ k l. ap not (h.before (first + k) (omega arith) (omega arith));
            has = λ l. ap not (ap (λ k. embedded_among k (row_windows row)) e ∙ h.stop (omega arith));
          })
          (first_to-first (λ d. not (embedded_among (first + d) (row_windows row))) n),
    )

pub kept_of-le : (row : Row) (m : ℕ) → kept_of row m ≤ row.steps
unfolding kept_from
kept_of-le row m =
    let first : ℕ = min m row.steps in
    omega (
      arith,
      (first_to-first (λ d. not (embedded_among (first + d) (row_windows row))) (row.steps - first)).most,
    )

pub le-kept_of : (row : Row) (m : ℕ) → min m row.steps ≤ kept_of row m
unfolding kept_from
le-kept_of row m = omega arith

pub kept_ticks-is : (load : Load) (m : ℕ)
    → sum_to (λ i. ticks_of (row_at load i) m) load.rows ≡ kept_costs (view_of load) m + kept_waits (view_of load) m
unfolding kept kept_from view_of embedded
kept_ticks-is load m =
    sum_to-add (λ i. sum_to (λ j. (step_at (row_at load i) j).cost) (kept_of (row_at load i) m))
    (λ i. sum_to (wait_in (row_at load i)) (kept_of (row_at load i) m - 1)) load.rows

-- the row of zeros keeps nothing
pub no_row-ticks : (m : ℕ) → ticks_of no_row m ≡ 0
unfolding kept_from sum_to first_to
no_row-ticks m =
    let e : kept_of no_row m ≡ 0 = omega (arith, kept_of-le no_row m) in
    ap (λ n. sum_to (λ j. (step_at no_row j).cost) n + sum_to (wait_in no_row) (n - 1)) e

-- what a search of the steps from the certain ones on gives is what the row keeps
pub kept_from-found : (row : Row) (first : ℕ) (found : Option ℕ) → first ≤ row.steps
    → MatchOption found ((k : ℕ) → first ≤ k → k < row.steps → embedded_among k (row_windows row) ≡ true)
    (λ j.
    (first ≤ j)
    × (j < row.steps)
    × (embedded_among j (row_windows row) ≡ false)
    × ((k : ℕ) → first ≤ k → k < j → embedded_among k (row_windows row) ≡ true))
    → unwrap_or found row.steps ≡ kept_from row first
kept_from-found row first None l all =
    kept_from-is row first row.steps
    (record { from = l; most = omega arith; before = λ k from b. all k from b; stop = λ b. absurd (omega arith) })
kept_from-found row first (Some j) l (from, below, stop, before) =
    kept_from-is row first j
    (record { from = from; most = omega arith; before = before; stop = λ b. stop })
