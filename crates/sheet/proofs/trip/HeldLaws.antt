-- A row that the check passes, with arrays of the right lengths, is held in memory: every number is in its range, and
-- each range is narrower than the field that holds it.
use Prim.Native.Nat.{ℕ, ◌<◌}
use mathlib.Core.Path.{◌≡◌}
use native.Mathlib.Decide.{dec_lt}
use native.Mathlib.Omega.{arith}
use lib.ListN.{length, length-take}
use Rattle.std.specs.Prelude.{Ok}
use Rattle.load.specs.declared.Load.{Load}
use Rattle.load.specs.Load.{most_steps, most_windows, row_at, step_at, window_at}
use Rattle.load.specs.View.{view_of}
use Rattle.load.specs.Check.{check_load}
use Rattle.load.specs.Acceptable.{Acceptable, Registered}
use Rattle.load.proofs.AcceptableLaws.{window-is, check-registered, check-placed, check-acceptable}
use Rattle.load.proofs.CheckLaws.{RowGood, check_load-good, fields-windows-le}
use Rattle.load_file.specs.RoundTrip.{HeldStep, HeldWindow, HeldRow}
use Rattle.load_file.proofs.faults.ZeroLaws.{
  steps-unused,
  windows-unused,
  no_step-held,
  no_window-held,
}

module _ (load : Load) (e : check_load load ≡ Ok tt) (i : ℕ) (l : i < load.rows) where
  ok : Acceptable (view_of load)
  ok = check-acceptable load e

  registered : Registered load
  registered = check-registered load e

  good : RowGood load i (row_at load i)
  good = (check_load-good load e).each-row-good i l

  held-step : (j : ℕ) → j < most_steps → HeldStep (step_at (row_at load i) j)
  unfolding view_of
  held-step j m =
      elim (dec_lt j (row_at load i).steps) [
        | yes h ↦
            record {
              cost-fits = omega (arith, ok.cost-most i j l h);
              wait-fits = omega (arith, ok.wait-most i j l h);
            }
        | no g ↦
            rw (steps-unused (row_at load i) (row_at load i).steps good.steps-zero j (omega arith) m) no_step-held
      ]

  -- a used window ends with one of the row's steps
  used-window : (k : ℕ) → k < (row_at load i).windows → HeldWindow (window_at (row_at load i) k)
  unfolding view_of
  used-window k h =
      let there = (check-placed load e).windows-there i l in
      let seen : k < length ((view_of load).windows i) =
      omega (arith, there, length-take (row_at load i).windows (row_at load i).window) in
      let is = window-is load i k seen in
      let last = rw is at (ok.last-most i k l seen) in
      let first = rw is at (ok.first-last i k l seen) in
      let steps = ok.steps-most i l in
      record {
        first_fits = omega arith;
        last_fits = omega arith;
        limit-fits = omega (arith, rw is at (ok.limit-most i k l seen));
      }

  held-window : (k : ℕ) → k < most_windows → HeldWindow (window_at (row_at load i) k)
  held-window k m =
      elim (dec_lt k (row_at load i).windows) [
        | yes h ↦ used-window k h
        | no g ↦
            rw (windows-unused (row_at load i) (row_at load i).windows good.windows-zero k (omega arith) m)
            no_window-held
      ]

  pub good-row-held : length (row_at load i).step ≡ most_steps → length (row_at load i).window ≡ most_windows
      → HeldRow (row_at load i)
  unfolding view_of
  good-row-held steps windows =
      record {
        identifier-fits = omega (arith, registered.identifier-most i l);
        box-fits = omega (arith, registered.box-most i l);
        phase-fits = omega (arith, ok.phase-most i l);
        deadline-fits = omega (arith, ok.deadline-most i l);
        steps-fit = omega (arith, ok.steps-most i l);
        windows-fit = omega (arith, fields-windows-le (row_at load i) good.fields-good);
        class-fits = omega (arith, ok.class-most i l);
        head-fits = omega (arith, (check-placed load e).head-only i l);
        step-places = steps;
        window-places = windows;
        each_step = held-step;
        each-window = held-window;
      }
