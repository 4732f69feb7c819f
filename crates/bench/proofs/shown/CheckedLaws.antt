-- What the code may count on once a load was checked and a bench has its shape: rows and windows stand in their places,
-- and steps, ends and openings are within range.
use Prim.Native.Nat.{ℕ, ◌≤◌, ◌<◌}
use mathlib.Core.Bool.{Bool, true, false, cond, ◌&&◌}
use mathlib.Core.Path.{◌≡◌}
use native.Mathlib.Omega.{arith}
use borrow.Author.Tests.{leb-true}
use lib.Dec.{eqb, leb}
use Rattle.counting.specs.Sums.{all_to, all_from}
use Rattle.counting.proofs.tests.TestLaws.{and_left, and_right, all_to-true}
use Rattle.std.specs.Prelude.{Ok}
use Rattle.load.specs.declared.Load.{Load}
use Rattle.load.specs.Load.{most_rows, most_steps, last_moment, row_at}
use Rattle.load.specs.Check.{check_load}
use Rattle.load.specs.View.{View, view_of}
use Rattle.load.proofs.AcceptableLaws.{check-acceptable}
use Rattle.rules.specs.State.{State, is_open, end_fits, opening_fits, row_shaped, row_unused, shaped}

module _ (load : Load) (ok : check_load load ≡ Ok tt) where
  pub checked-rows : load.rows ≤ most_rows
  unfolding view_of
  checked-rows = (check-acceptable load ok).rows-most

  pub checked-steps : (i : ℕ) → i < load.rows → (row_at load i).steps ≤ most_steps
  unfolding view_of
  checked-steps i l = (check-acceptable load ok).steps-most i l

-- what the shape says of a row
pub record InShape (L : View) (s : State) (i : ℕ) : Type 0 where
  pub finished-le : s.finished i ≤ L.steps i
  pub end-le : s.end i ≤ s.clock
  pub opening-le : s.opening i ≤ s.clock

module _ (L : View) (s : State) (h : shaped L s ≡ true) where
  clock-and-rows : (leb s.clock last_moment && all_to (row_shaped L s) L.rows) ≡ true
  unfolding shaped
  clock-and-rows =
      and_left (leb s.clock last_moment && all_to (row_shaped L s) L.rows)
      (all_from (row_unused s) L.rows most_rows) h

  pub shaped-clock : s.clock ≤ last_moment
  shaped-clock =
      leb-true s.clock last_moment
      (and_left (leb s.clock last_moment) (all_to (row_shaped L s) L.rows) clock-and-rows)

  pub shaped_row : (i : ℕ) → i < L.rows → InShape L s i
  shaped_row i l =
      record {
        finished-le = leb-true (s.finished i) (L.steps i) (and_left first (end_fits s i) firsts);
        end-le = end;
        opening-le = within (is_open L s i) (leb-true _ _ (and_right (first && end_fits s i) (opening_fits L s i) row));
      }
    where
      first : Bool
      first = leb (s.finished i) (L.steps i)

      row : row_shaped L s i ≡ true
      row =
          all_to-true (row_shaped L s) L.rows
          (and_right (leb s.clock last_moment) (all_to (row_shaped L s) L.rows) clock-and-rows) i l

      firsts : (first && end_fits s i) ≡ true
      firsts = and_left (first && end_fits s i) (opening_fits L s i) row

      ended : (b : Bool) → s.end i ≤ cond b 0 s.clock → s.end i ≤ s.clock
      ended true q = omega arith
      ended false q = q

      end : s.end i ≤ s.clock
      end = ended (eqb (s.finished i) 0) (leb-true _ _ (and_right first (end_fits s i) firsts))

      within : (b : Bool) → s.opening i ≤ cond b (s.end i) 0 → s.opening i ≤ s.clock
      within true q = omega (arith, end)
      within false q = omega arith
