-- The windows that a row's lines spell, where 18 to 20 do not refuse them: each has two steps or more, ends inside the
-- row and begins behind the one before, so that 6 is not found of it.
use Prim.Native.Nat.{ℕ, zero, suc, ◌-◌, ◌≤◌, ◌<◌}
use mathlib.Core.Bool.{Bool}
use mathlib.Core.List.{List, [], ◌∷◌}
use mathlib.Core.Path.{◌≡◌, ap}
use native.Mathlib.Omega.{arith}
use borrow.Author.Tests.{le-ltb, lt-leb}
use lib.Dec.{eqb, ltb}
use lib.ListN.{length, get_or, replicate, get_or-append}
use Rattle.refusals.specs.declared.Refusal.{Refusal}
use Rattle.refusals.specs.declared.Refusal.TheVariants.{OutOfRange, LimitBelowChain}
use Rattle.refusals.specs.FirstMet.{first_met}
use Rattle.load.specs.declared.Window.{Window}
use Rattle.load.specs.declared.Row.{Row}
use Rattle.load.specs.Load.{most_windows, largest_limit, no_window, window_at}
use Rattle.load.specs.Faults.{outside, last_before, chain_of, window_tests}
use Rattle.load.specs.Check.{check_window}
use Rattle.sheet_line.specs.declared.Line.{Line}
use Rattle.sheet.specs.SheetRows.{windows_of, row_of}
use Rattle.sheet.specs.inner.Narrow.{RowLines}
use Rattle.sheet.proofs.marks.WindowLaws.{WindowsWell, windows_of-well}

-- a window that stands behind the one before it, has two steps or more and ends inside its row
pub record StandsWell (row : Row) (k : ℕ) : Type 0 where
  pub grows : (window_at row k).first < (window_at row k).last
  pub ends : (window_at row k).last ≤ row.steps
  pub behind : last_before row k < (window_at row k).first

-- what is asked of such a window
abbrev pub well_tests : Row → ℕ → List (Bool × Refusal)
well_tests row k =
    let w = window_at row k in
    (eqb w.first 0, OutOfRange)
    ∷ (eqb w.last 0, OutOfRange)
    ∷ (outside 1 largest_limit w.limit, OutOfRange)
    ∷ (ltb w.limit (chain_of row w), LimitBelowChain)
    ∷ []

-- it is not refused with 6
pub well-found : (row : Row) (k : ℕ) → StandsWell row k → check_window row k ≡ first_met (well_tests row k)
unfolding window_tests
well-found row k well =
    let w = window_at row k in
    rw (
      lt-leb w.last w.first well.grows,
      le-ltb row.steps w.last well.ends,
      lt-leb w.first (last_before row k) well.behind,
    )

-- the windows of a row whose lines 18 to 20 do not refuse
module _ (line : ℕ → Line) (steps : ℕ) (lines : RowLines line steps) where
  abbrev windows : List Window
  windows = windows_of (λ j. (line j).mark) steps

  well : WindowsWell windows steps
  well = windows_of-well (λ j. (line j).mark) steps lines.marked

  window-read : (k : ℕ) → k < length windows → window_at (row_of line steps) k ≡ get_or windows k no_window
  unfolding row_of
  window-read k l = get_or-append windows (replicate (most_windows - length windows) no_window) no_window k l

  before-lt : (k : ℕ) → k < length windows → last_before (row_of line steps) k < (window_at (row_of line steps) k).first
  before-lt zero l = rw (window-read 0 l) (well.first-least 0 l)
  before-lt (suc k) l =
      omega (
        arith,
        ap (λ w. w.last) (window-read k (omega arith)),
        ap (λ w. w.first) (window-read (suc k) l),
        well.ascending k l,
      )

  pub stands-well : (k : ℕ) → k < (row_of line steps).windows → StandsWell (row_of line steps) k
  unfolding row_of
  stands-well k l =
      record {
        grows = rw (window-read k l) (well.first-last k l);
        ends = rw (window-read k l) (well.last-most k l);
        behind = before-lt k l;
      }
