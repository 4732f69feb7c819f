-- A row whose numbers are cut to their fields, and whose unused places are zero: the check of its fields and of its
-- parts finds what it finds of the row itself. Chains are over steps that passed, none of which was cut, so that only
-- a window's limit has to be asked first. A row in which nothing is found is kept whole.
use Prim.Native.Nat.{ℕ, zero, suc, ◌+◌, ◌-◌, ◌≤◌, ◌<◌}
use mathlib.Core.Bool.{Bool, true, false, cond}
use mathlib.Core.List.{List, [], ◌∷◌, map}
use mathlib.Core.Path.{◌≡◌, refl, ap, ap₂, sym, ◌∙◌}
use native.Mathlib.Decide.{dec_lt}
use native.Mathlib.Omega.{arith}
use borrow.Author.Tests.{ltb-false}
use lib.Dec.{eqb, leb, ltb}
use lib.ListN.{get_or, length-map, get_or-map}
use lib.Seq.{ext_get_or}
use Rattle.counting.proofs.tests.TestLaws.{all_to-ext}
use Rattle.refusals.specs.declared.Refusal.TheVariants.{OutOfRange, WindowSteps, LimitBelowChain}
use Rattle.refusals.specs.Checked.{Checked}
use Rattle.std.specs.Prelude.{Ok, Err}
use Rattle.refusals.specs.FirstMet.{first_met, first_fault_to}
use Rattle.refusals.proofs.FirstMetLaws.{first_fault_to-ext}
use Rattle.refusals.proofs.FirstFaultLaws.{first_met-good}
use Rattle.load.specs.declared.Window.{Window}
use Rattle.load.specs.declared.Row.{Row}
use Rattle.load.specs.Load.{
  most_steps,
  most_windows,
  largest_number,
  factory_identifier,
  latest_phase,
  last_moment,
  largest_cost,
  largest_limit,
  shown,
  no_step,
  no_window,
  step_at,
  window_at,
}
use Rattle.load.specs.View.{chain_between}
use Rattle.load.specs.Faults.{outside, most_wait, step_numbers, last_before, chain_of, row_tests, step_tests}
use Rattle.load.specs.Faults.{window_tests}
use Rattle.load.specs.Check.{
  is_zero_step,
  is_zero_window,
  zero_steps_from,
  zero_windows_from,
  check_step,
  check_window,
}
use Rattle.load.proofs.RangeLaws.{outside-most}
use Rattle.sheet.specs.inner.Narrow.{most16, most32, narrow_step, narrow_window, narrow_row}
use Rattle.sheet.proofs.narrow.CutLaws.{
  outside-cut,
  equal-cut,
  above-cut,
  narrow_step-fits,
  narrow_window-fits,
}

-- behind the last step and the last window of a row there is nothing
pub record Unused (row : Row) : Type 0 where
  pub no_step_behind : (j : ℕ) → row.steps ≤ j → step_at row j ≡ no_step
  pub no-window : (k : ℕ) → row.windows ≤ k → window_at row k ≡ no_window

-- a list whose every member stays under a function
pub map-stays : {A : Type 0} (f : A → A) (d : A) (l : List A) → ((j : ℕ) → f (get_or l j d) ≡ get_or l j d) → f d ≡ d
    → map f l ≡ l
map-stays f d l h e =
    ext_get_or d (map f l) l (length-map l f)
    (λ j b. ap (get_or (map f l) j) (sym e) ∙ get_or-map f l j d ∙ h j)

-- what is found of a window in a row of so many steps, behind a window that ends there, with a chain of that length
abbrev window_found : Window → ℕ → ℕ → ℕ → Checked
window_found w steps before chain =
    first_met
    ((eqb w.first 0, OutOfRange)
    ∷ (eqb w.last 0, OutOfRange)
    ∷ (outside 1 largest_limit w.limit, OutOfRange)
    ∷ (leb w.last w.first, WindowSteps)
    ∷ (ltb steps w.last, WindowSteps)
    ∷ (leb w.first before, WindowSteps)
    ∷ (ltb w.limit chain, LimitBelowChain)
    ∷ [])

-- a choice between a thing and itself
pub cond_same : {A : Type 0} (b : Bool) (x y : A) → y ≡ x → cond b x y ≡ x
cond_same true x y e = refl
cond_same false x y e = e

-- the tests before that of the limit have its number
window_found-limit : (w : Window) (steps before chain : ℕ) → outside 1 largest_limit w.limit ≡ true
    → window_found w steps before chain ≡ Err OutOfRange
window_found-limit w steps before chain e =
    rw e (cond_same (eqb w.first 0) _ _ (cond_same (eqb w.last 0) _ _ refl))

module _ (row : Row) where
  -- what is read at a place
  step_cut : (j : ℕ) → step_at (narrow_row row) j ≡ narrow_step (step_at row j)
  unfolding narrow_row
  step_cut j = get_or-map narrow_step row.step j no_step

  window-cut : (k : ℕ) → window_at (narrow_row row) k ≡ narrow_window (window_at row k)
  unfolding narrow_row
  window-cut k = get_or-map narrow_window row.window k no_window

  pub row_tests-cut : row_tests (narrow_row row) ≡ row_tests row
  unfolding row_tests narrow_row
  row_tests-cut =
      rw (
        outside-cut most32 row.identifier.0 largest_number (omega arith),
        outside-cut most32 row.box_number.0 largest_number (omega arith),
        above-cut most32 row.phase latest_phase (omega arith),
        outside-cut most32 row.deadline last_moment (omega arith),
        equal-cut most32 row.identifier.0 factory_identifier (omega arith) (omega arith),
      )

  -- what a wait may be fits its field
  most_wait-lt : (is_last : Bool) → most_wait is_last < most16
  most_wait-lt true = omega arith
  most_wait-lt false = omega arith

  step_tests-cut : (j : ℕ) → step_tests (narrow_row row) j ≡ step_tests row j
  unfolding step_tests narrow_row
  step_tests-cut j =
      ap (λ s. step_numbers s (eqb (shown j) row.steps)) (step_cut j)
      ∙ ap₂ (λ c w. (c, OutOfRange) ∷ (w, OutOfRange) ∷ [])
      (outside-cut most16 (step_at row j).cost largest_cost (omega arith))
      (above-cut most16 (step_at row j).wait (most_wait (eqb (shown j) row.steps))
      (most_wait-lt (eqb (shown j) row.steps)))

  pub steps-cut : first_fault_to (check_step (narrow_row row)) row.steps ≡ first_fault_to (check_step row) row.steps
  steps-cut =
      first_fault_to-ext (check_step (narrow_row row)) (check_step row) row.steps
      (λ j l. ap first_met (step_tests-cut j))

  module _ (rest : Unused row) where
    pub no-steps-cut : zero_steps_from (narrow_row row) row.steps ≡ zero_steps_from row row.steps
    no-steps-cut =
        all_to-ext _ _ (most_steps - row.steps)
        (λ k l. ap is_zero_step
        (step_cut (row.steps + k)
        ∙ ap narrow_step (rest.no_step_behind (row.steps + k) (omega arith))
        ∙ sym (rest.no_step_behind (row.steps + k) (omega arith))))

    pub no-windows-cut : zero_windows_from (narrow_row row) row.windows ≡ zero_windows_from row row.windows
    no-windows-cut =
        all_to-ext _ _ (most_windows - row.windows)
        (λ k l. ap is_zero_window
        (window-cut (row.windows + k)
        ∙ ap narrow_window (rest.no-window (row.windows + k) (omega arith))
        ∙ sym (rest.no-window (row.windows + k) (omega arith))))

    -- steps that passed were not cut
    module _ (passed : (j : ℕ) → j < row.steps → check_step row j ≡ Ok tt) where
      step_fits : (j : ℕ) → j < row.steps → narrow_step (step_at row j) ≡ step_at row j
      unfolding step_tests
      step_fits j l =
          let s = step_at row j in
          let cost = outside-most 1 largest_cost s.cost (first_met-good (step_tests row j) (passed j l) 0) in
          let most = most_wait (eqb (shown j) row.steps) in
          let wait = ltb-false most s.wait (first_met-good (step_tests row j) (passed j l) 1) in
          narrow_step-fits s (omega arith) (omega (arith, most_wait-lt (eqb (shown j) row.steps)))

      step_stays : (j : ℕ) → narrow_step (step_at row j) ≡ step_at row j
      step_stays j =
          elim (dec_lt j row.steps) [
            | yes l ↦ step_fits j l
            | no l ↦
                ap narrow_step (rest.no_step_behind j (omega arith)) ∙ sym (rest.no_step_behind j (omega arith))
          ]

      pub step_same : map narrow_step row.step ≡ row.step
      step_same = map-stays narrow_step no_step row.step step_stays refl

      chain-cut : (a b : ℕ) → chain_between (narrow_row row) a b ≡ chain_between row a b
      unfolding narrow_row
      chain-cut a b = rw step_same

      last_before-cut : (k : ℕ) → last_before (narrow_row row) k ≡ last_before row k
      last_before-cut zero = refl
      last_before-cut (suc k) = ap (λ w. w.last) (window-cut k)

      check_window-cut : (k : ℕ) → check_window (narrow_row row) k ≡ check_window row k
      unfolding window_tests narrow_row
      check_window-cut k = go (outside 1 largest_limit (window_at row k).limit) refl
        where
          go : (b : Bool) → outside 1 largest_limit (window_at row k).limit ≡ b
              → check_window (narrow_row row) k ≡ check_window row k
          go true e =
              window_found-limit (window_at (narrow_row row) k) _ _ _
              (ap (λ w. outside 1 largest_limit w.limit) (window-cut k)
              ∙ outside-cut most16 (window_at row k).limit largest_limit (omega arith)
              ∙ e)
              ∙ sym (window_found-limit (window_at row k) _ _ _ e)
          go false e =
              let limit = outside-most 1 largest_limit (window_at row k).limit e in
              ap (λ w. window_found w row.steps (last_before (narrow_row row) k) (chain_of (narrow_row row) w))
              (window-cut k ∙ narrow_window-fits (window_at row k) (omega arith))
              ∙ ap₂ (window_found (window_at row k) row.steps) (last_before-cut k) (chain-cut _ _)

      pub windows-cut : first_fault_to (check_window (narrow_row row)) row.windows
          ≡ first_fault_to (check_window row) row.windows
      windows-cut =
          first_fault_to-ext (check_window (narrow_row row)) (check_window row) row.windows (λ k l. check_window-cut k)
