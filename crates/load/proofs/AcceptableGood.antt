-- The facts of document 01 are enough: a load that is acceptable, registered and placed is refused by nothing. With
-- AcceptableLaws, the check is Good exactly of such loads.
use Prim.Native.Nat.{ℕ, zero, suc, ◌≤◌, ◌<◌}
use mathlib.Core.Bool.{Bool, true, false}
use mathlib.Core.Path.{◌≡◌, refl}
use native.Mathlib.Omega.{arith}
use borrow.Author.Tests.{eqb-true, eq-eqb, le-ltb, lt-leb, ne_eqb}
use lib.Dec.{eqb}
use lib.ListN.{length, length-take}
use Rattle.counting.proofs.tests.TestLaws.{false-any_to, true-all_from}
use Rattle.std.specs.Prelude.{Ok}
use Rattle.refusals.proofs.FirstMetLaws.{good-first_fault_to}
use Rattle.load.specs.declared.Window.{Window}
use Rattle.load.specs.declared.Load.{Load}
use Rattle.load.specs.Load.{
  most_rows,
  most_windows,
  largest_wait,
  shown,
  row_at,
  step_at,
  window_at,
}
use Rattle.load.specs.View.{view_of}
use Rattle.load.specs.Faults.{row_tests, taken_tests, step_tests, window_tests, most_wait, last_before}
use Rattle.load.specs.Check.{
  is_zero_step,
  is_zero_window,
  is_zero_row,
  check_fields,
  check_taken,
  check_step,
  check_window,
  check_parts,
  row_fault,
  check_load,
}
use Rattle.load.specs.Acceptable.{Acceptable, Registered, Placed}
use Rattle.load.proofs.RangeLaws.{within-outside}
use Rattle.load.proofs.AcceptableLaws.{window-is}

le-most_wait : (j steps n : ℕ) → n ≤ largest_wait → (shown j ≡ steps → n ≡ 0) → n ≤ most_wait (eqb (shown j) steps)
le-most_wait j steps n most last = go (eqb (shown j) steps) refl
  where
    go : (b : Bool) → eqb (shown j) steps ≡ b → n ≤ most_wait b
    go true e = omega (arith, last (eqb-true (shown j) steps e))
    go false e = omega arith

module _ (load : Load) (ok : Acceptable (view_of load)) (reg : Registered load) (placed : Placed load) where
  module _ (i : ℕ) (l : i < load.rows) where
    fields-good : check_fields (row_at load i) ≡ Ok tt
    unfolding row_tests view_of
    fields-good =
        rw (
          within-outside 1 _ _ (reg.identifier-least i l) (reg.identifier-most i l),
          within-outside 1 _ _ (reg.box-least i l) (reg.box-most i l),
          le-ltb _ _ (ok.phase-most i l),
          within-outside 1 _ _ (ok.deadline-least i l) (ok.deadline-most i l),
          within-outside 1 _ _ (ok.steps-least i l) (ok.steps-most i l),
          le-ltb most_windows (row_at load i).windows windows-le,
          le-ltb _ _ (ok.class-most i l),
          eq-eqb _ _ (placed.head-only i l),
          ne_eqb _ _ (reg.not-factory i l),
        )
      where
        windows-le : (row_at load i).windows ≤ most_windows
        windows-le =
            omega (
              arith,
              ok.windows-most i l,
              placed.windows-there i l,
              length-take (row_at load i).windows (row_at load i).window,
            )

    taken-good : check_taken load i (row_at load i) ≡ Ok tt
    unfolding taken_tests
    taken-good =
        rw (
          false-any_to _ i (λ k h. ne_eqb _ _ (reg.identifiers-differ k i h l)),
          false-any_to _ i (λ k h. ne_eqb _ _ (reg.boxes-differ k i h l)),
        )

    step-good : (j : ℕ) → j < (row_at load i).steps → check_step (row_at load i) j ≡ Ok tt
    unfolding step_tests view_of
    step-good j h =
        rw (
          within-outside 1 _ _ (ok.cost-least i j l h) (ok.cost-most i j l h),
          le-ltb _ _ (le-most_wait j (row_at load i).steps _ (ok.wait-most i j l h) (ok.wait-last i j l h)),
        )

    -- a used window of the row is a window of the view
    seen : (p : ℕ) → p < (row_at load i).windows → p < length ((view_of load).windows i)
    unfolding view_of
    seen p h = omega (arith, placed.windows-there i l, length-take (row_at load i).windows (row_at load i).window)

    last-before : (p : ℕ) → p < (row_at load i).windows → last_before (row_at load i) p
        < (window_at (row_at load i) p).first
    unfolding view_of
    last-before zero h = rw (window-is load i zero (seen zero h)) at (ok.first-least i zero l (seen zero h))
    last-before (suc p) h =
        rw (window-is load i (suc p) (seen (suc p) h), window-is load i p (seen p (omega arith)))
        at (ok.ascending i (suc p) l (seen (suc p) h) p (omega arith))

    window-good : (p : ℕ) → p < (row_at load i).windows → check_window (row_at load i) p ≡ Ok tt
    unfolding window_tests view_of
    window-good p h =
        let w : Window = window_at (row_at load i) p in
        let s : p < length ((view_of load).windows i) = seen p h in
        let is = window-is load i p s in
        let begins : 1 ≤ w.first = rw is at (ok.first-least i p l s) in
        let grows : w.first < w.last = rw is at (ok.first-last i p l s) in
        rw (
          ne_eqb w.first 0 (omega arith),
          ne_eqb w.last 0 (omega arith),
          within-outside 1 _ _ (rw is at (ok.limit-least i p l s)) (rw is at (ok.limit-most i p l s)),
          lt-leb w.last w.first grows,
          le-ltb _ _ (rw is at (ok.last-most i p l s)),
          lt-leb _ _ (last-before p h),
          le-ltb _ _ (rw is at (ok.limit-chain i p l s)),
        )

    row-good : row_fault load i (row_at load i) ≡ Ok tt
    unfolding row_fault check_parts
    row-good =
        rw (
          fields-good,
          taken-good,
          good-first_fault_to (check_step (row_at load i)) (row_at load i).steps step-good,
          true-all_from (λ j. is_zero_step (step_at (row_at load i) j)) _ _ (λ j. placed.steps-unused i j l),
          good-first_fault_to (check_window (row_at load i)) (row_at load i).windows window-good,
          true-all_from (λ p. is_zero_window (window_at (row_at load i) p)) _ _ (λ p. placed.windows-unused i p l),
        )

  pub acceptable-check : check_load load ≡ Ok tt
  unfolding check_load view_of
  acceptable-check =
      rw (
        le-ltb most_rows load.rows ok.rows-most,
        good-first_fault_to (λ i. row_fault load i (row_at load i)) load.rows row-good,
        true-all_from (λ i. is_zero_row (row_at load i)) load.rows most_rows placed.rows-unused,
      )
