-- An accepted load has the facts of document 01. The check is Good only where each of its findings is, and a finding
-- only where none of its tests is met; each fact is then one test, read by its place.
use Prim.Native.Nat.{ℕ, zero, suc, ◌≤◌, ◌<◌}
use mathlib.Core.Bool.{Bool, true, false}
use mathlib.Core.List.{List, [], ◌∷◌}
use mathlib.Core.Path.{◌≡◌, ap}
use native.Mathlib.Decide.{ℕ_discrete, dec_lt}
use native.Mathlib.Nat.{le_trans}
use native.Mathlib.Omega.{arith}
use borrow.Author.Tests.{ltb-false, leb-false, eqb-true, eqb-false, eq-eqb, not-false}
use lib.Dec.{eqb, ltb}
use lib.ListN.{length, length-take, get_or-eq_default}
use lib.Seq.{get_or-take}
use Rattle.counting.specs.Sums.{all_from}
use Rattle.counting.proofs.tests.TestLaws.{any_to-false, all_from-true}
use Rattle.refusals.specs.declared.Refusal.TheVariants.{OutOfRange}
use Rattle.refusals.specs.Checked.{Checked}
use Rattle.std.specs.Prelude.{Ok}
use Rattle.refusals.specs.FirstMet.{first_met, first_fault_to}
use Rattle.refusals.proofs.FirstMetLaws.{first_met-good-first, first_fault_to-good}
use Rattle.refusals.proofs.FirstFaultLaws.{test_at, finding_at, first_met-good, first_fault-good}
use Rattle.load.specs.declared.Row.{Row}
use Rattle.load.specs.declared.Load.{Load}
use Rattle.load.specs.Load.{
  most_rows,
  most_windows,
  largest_wait,
  shown,
  no_window,
  row_at,
  step_at,
  window_at,
}
use Rattle.load.specs.View.{view_of}
use Rattle.load.specs.Faults.{row_tests, taken_tests, step_tests, window_tests, most_wait}
use Rattle.load.specs.Check.{
  all_zero,
  is_zero_step,
  is_zero_window,
  is_zero_row,
  zero_steps_from,
  zero_windows_from,
  check_fields,
  check_taken,
  check_step,
  check_window,
  check_parts,
  row_fault,
  check_load,
}
use Rattle.load.specs.Acceptable.{Acceptable, Registered, Placed, window_of}
use Rattle.load.proofs.RangeLaws.{outside-least, outside-most}

-- what `check_load` finds, in its order
abbrev load_findings : Load → List Checked
load_findings load =
    first_met ((ltb most_rows load.rows, OutOfRange) ∷ [])
    ∷ first_fault_to (λ i. row_fault load i (row_at load i)) load.rows
    ∷ all_zero (all_from (λ i. is_zero_row (row_at load i)) load.rows most_rows)
    ∷ []

-- what `row_fault` finds, in its order
abbrev row_findings : Load → ℕ → Row → List Checked
row_findings load i row = check_fields row ∷ check_taken load i row ∷ check_parts row ∷ []

-- what `check_parts` finds, in its order
abbrev part_findings : Row → List Checked
part_findings row =
    first_fault_to (check_step row) row.steps
    ∷ all_zero (zero_steps_from row row.steps)
    ∷ first_fault_to (check_window row) row.windows
    ∷ all_zero (zero_windows_from row row.windows)
    ∷ []

pub all_zero-good : (zeros : Bool) → all_zero zeros ≡ Ok tt → zeros ≡ true
all_zero-good zeros e = not-false zeros (first_met-good-first _ [] e)

-- what a wait may be is at most 3,600, and 0 at the last step
most_wait-le : (is_last : Bool) → most_wait is_last ≤ largest_wait
most_wait-le true = omega arith
most_wait-le false = omega arith

most_wait-last : (j steps n : ℕ) → shown j ≡ steps → n ≤ most_wait (eqb (shown j) steps) → n ≡ 0
most_wait-last j steps n last h = let q = eq-eqb (shown j) steps last in omega (arith, rw q at h)

module _ (load : Load) (i p : ℕ) where
  -- a window of the view is a used window of the row
  within : p < length ((view_of load).windows i) → p < (row_at load i).windows
  unfolding view_of
  within h = omega (arith, length-take (row_at load i).windows (row_at load i).window)

  pub window-is : p < length ((view_of load).windows i) → window_of (view_of load) i p ≡ window_at (row_at load i) p
  unfolding view_of
  window-is h = get_or-take (row_at load i).windows (row_at load i).window p no_window (within h)

module _ (load : Load) (e : check_load load ≡ Ok tt) where
  finding : (k : ℕ) → finding_at (load_findings load) k ≡ Ok tt
  unfolding check_load
  finding k = first_fault-good (load_findings load) e k

  module _ (i : ℕ) (l : i < load.rows) where
    row-finding : (k : ℕ) → finding_at (row_findings load i (row_at load i)) k ≡ Ok tt
    unfolding row_fault
    row-finding k =
        first_fault-good (row_findings load i (row_at load i))
        (first_fault_to-good (λ i. row_fault load i (row_at load i)) load.rows (finding 1) i l)
        k

    part-finding : (k : ℕ) → finding_at (part_findings (row_at load i)) k ≡ Ok tt
    unfolding check_parts
    part-finding k = first_fault-good (part_findings (row_at load i)) (row-finding 2) k

    field : (k : ℕ) → test_at (row_tests (row_at load i)) k ≡ false
    field k = first_met-good (row_tests (row_at load i)) (row-finding 0) k

    taken : (k : ℕ) → test_at (taken_tests load i (row_at load i)) k ≡ false
    taken k = first_met-good (taken_tests load i (row_at load i)) (row-finding 1) k

    step-test : (j : ℕ) → j < (row_at load i).steps → (k : ℕ) → test_at (step_tests (row_at load i) j) k ≡ false
    step-test j h k =
        first_met-good (step_tests (row_at load i) j)
        (first_fault_to-good (check_step (row_at load i)) (row_at load i).steps (part-finding 0) j h)
        k

    window-test : (p : ℕ) → p < (row_at load i).windows → (k : ℕ) → test_at (window_tests (row_at load i) p) k ≡ false
    window-test p h k =
        first_met-good (window_tests (row_at load i) p)
        (first_fault_to-good (check_window (row_at load i)) (row_at load i).windows (part-finding 2) p h)
        k

    -- the tests of a window that the view has
    seen_test : (p : ℕ) → p < length ((view_of load).windows i) → (k : ℕ)
        → test_at (window_tests (row_at load i) p) k ≡ false
    seen_test p h k = window-test p (within load i p h) k

    window-begins : (p : ℕ) → p < (row_at load i).windows → 1 ≤ (window_at (row_at load i) p).first
    unfolding window_tests
    window-begins p h = omega (arith, eqb-false (window_at (row_at load i) p).first 0 (window-test p h 0))

    -- each window begins after the last step of the one before it
    window-after : (p : ℕ) → suc p < (row_at load i).windows
        → (window_at (row_at load i) p).last < (window_at (row_at load i) (suc p)).first
    unfolding window_tests
    window-after p h = leb-false _ _ (window-test (suc p) h 5)

    window-grows : (p : ℕ) → p < (row_at load i).windows
        → (window_at (row_at load i) p).first < (window_at (row_at load i) p).last
    unfolding window_tests
    window-grows p h = leb-false _ _ (window-test p h 3)

    windows-ascend : (q : ℕ) → q < (row_at load i).windows → (p : ℕ) → p < q
        → (window_at (row_at load i) p).last < (window_at (row_at load i) q).first
    windows-ascend zero h p l = absurd (omega arith)
    windows-ascend (suc q) h p l =
        elim (ℕ_discrete p q) [
          | yes e ↦ rw e (window-after q h)
          | no e ↦
              let before = windows-ascend q (omega arith) p (omega arith) in
              omega (arith, window-grows q (omega arith), window-after q h)
        ]

    -- a place with no window would begin at step 0
    windows-stand : (row_at load i).windows ≤ length (row_at load i).window
    windows-stand =
        elim (dec_lt (length (row_at load i).window) (row_at load i).windows) [
          | no h ↦ omega arith
          | yes h ↦
              let end : ℕ = length (row_at load i).window in
              let none = get_or-eq_default (row_at load i).window no_window {n = end} (omega arith) in
              absurd (omega (arith, window-begins end h, ap (λ w. w.first) none))
        ]

  pub check-registered : Registered load
  unfolding row_tests taken_tests
  check-registered =
      record {
        identifier-least = λ i l. outside-least 1 _ _ (field i l 0);
        identifier-most = λ i l. outside-most 1 _ _ (field i l 0);
        box-least = λ i l. outside-least 1 _ _ (field i l 1);
        box-most = λ i l. outside-most 1 _ _ (field i l 1);
        not-factory = λ i l. eqb-false _ _ (field i l 8);
        identifiers-differ = λ i k h l. eqb-false _ _ (any_to-false _ k (taken k l 0) i h);
        boxes-differ = λ i k h l. eqb-false _ _ (any_to-false _ k (taken k l 1) i h);
      }

  pub check-placed : Placed load
  unfolding row_tests
  check-placed =
      record {
        windows-there = windows-stand;
        head-only = λ i l. eqb-true _ _ (not-false _ (field i l 7));
        rows-unused = all_from-true (λ i. is_zero_row (row_at load i)) _ _ (all_zero-good _ (finding 2));
        steps-unused = λ i j l.
            all_from-true (λ j. is_zero_step (step_at (row_at load i) j)) _ _ (all_zero-good _ (part-finding i l 1)) j;
        windows-unused = λ i p l.
            all_from-true (λ p. is_zero_window (window_at (row_at load i) p)) _ _
            (all_zero-good _ (part-finding i l 3)) p;
      }

  pub check-acceptable : Acceptable (view_of load)
  unfolding view_of row_tests step_tests window_tests
  check-acceptable =
      record {
        rows-most = ltb-false _ _ (first_met-good-first _ [] (finding 0));
        phase-most = λ i l. ltb-false _ _ (field i l 2);
        deadline-least = λ i l. outside-least 1 _ _ (field i l 3);
        deadline-most = λ i l. outside-most 1 _ _ (field i l 3);
        steps-least = λ i l. outside-least 1 _ _ (field i l 4);
        steps-most = λ i l. outside-most 1 _ _ (field i l 4);
        windows-most = λ i l.
            omega (
              arith,
              ltb-false most_windows (row_at load i).windows (field i l 5),
              length-take (row_at load i).windows (row_at load i).window,
            );
        class-most = λ i l. ltb-false _ _ (field i l 6);
        cost-least = λ i j l h. outside-least 1 _ _ (step-test i l j h 0);
        cost-most = λ i j l h. outside-most 1 _ _ (step-test i l j h 0);
        wait-most = λ i j l h.
            le_trans (ltb-false _ _ (step-test i l j h 1)) (most_wait-le (eqb (shown j) (row_at load i).steps));
        wait-last = λ i j l h last. most_wait-last j (row_at load i).steps _ last (ltb-false _ _ (step-test i l j h 1));
        first-least = λ i p l h. rw (window-is load i p h) (window-begins i l p (within load i p h));
        first-last = λ i p l h. rw (window-is load i p h) (window-grows i l p (within load i p h));
        last-most = λ i p l h. rw (window-is load i p h) (ltb-false _ _ (seen_test i l p h 4));
        limit-least = λ i p l h. rw (window-is load i p h) (outside-least 1 _ _ (seen_test i l p h 2));
        limit-most = λ i p l h. rw (window-is load i p h) (outside-most 1 _ _ (seen_test i l p h 2));
        ascending = λ i q l h p b.
            rw (window-is load i q h, window-is load i p (omega arith)) (windows-ascend i l q (within load i q h) p b);
        limit-chain = λ i p l h. rw (window-is load i p h) (ltb-false _ _ (seen_test i l p h 6));
      }
