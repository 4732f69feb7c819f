-- What is looked up of a row: a window is open exactly where the first open one ends after the steps finished, and
-- what the calls find of a row, put together, is what is looked up of it.
use Prim.Native.Nat.{ℕ, ◌+◌}
use mathlib.Core.Path.{◌≡◌}
use native.Mathlib.Numerals.{add-one}
use native.Mathlib.Omega.{arith}
use borrow.Author.Tests.{le-ltb}
use lib.Dec.{leb, ltb}
use Rattle.counting.proofs.tests.TestLaws.{and_right}
use Rattle.counting.proofs.searches.FirstInLaws.{any_in-first_in}
use Rattle.load.specs.declared.Row.{Row}
use Rattle.load.specs.declared.Step.{Step}
use Rattle.load.specs.declared.Window.{Window}
use Rattle.load.specs.Load.{no_window, step_at}
use Rattle.load.specs.View.{View, chain_between, open_with, opens_at, open_at}
use Rattle.rules.specs.State.{State, is_open, open_window}
use Rattle.rules.specs.Ready.{release}
use Rattle.rules.specs.Plan.{due, window_left}
use Rattle.plan.specs.declared.Look.{Look}
use Rattle.plan.specs.Looks.{view_alike, state_alike, further, look_of, look_by}

pub is_open-last : (L : View) (s : State) (i : ℕ) → is_open L s i ≡ ltb (s.finished i) (open_window L s i).last
unfolding opens_at open_at
is_open-last L s i =
    any_in-first_in (open_with f) no_window (λ w. ltb f w.last)
    (λ w. and_right (leb w.first f) (ltb f w.last))
    (le-ltb f 0 (omega arith))
    (L.windows i)
  where
    f : ℕ
    f = s.finished i

-- what the code finds of a row, step by step, is what is looked up
module _ (row : Row) (f end opening : ℕ) (step : Step) (window later : Window) (moment left rest : ℕ)
    (step_is : step ≡ step_at row f)
    (window-is : window ≡ open_at (view_alike row) 0 f)
    (later-is : later ≡ open_at (view_alike row) 0 (f + 1))
    (moment-is : moment ≡ release (view_alike row) 0 f end)
    (left_is : left ≡ chain_between row f window.last)
    (rest-is : rest ≡ chain_between row (f + 1) later.last) where
  abbrev found : Look
  found =
      record {
        finished = f;
        steps = row.steps;
        opening = opening;
        cost = step.cost;
        release = moment;
        opened = ltb f window.last;
        left = left;
        due = opening + window.limit;
        wait = step.wait;
        stays = ltb (f + 1) later.last;
        rest = rest;
        limit = later.limit;
      }

  pub found-is : found ≡ look_by row f end opening
  unfolding look_of due window_left
  found-is =
      let s : State = state_alike 0 f end opening in
      rw (
        rest-is,
        left_is,
        moment-is,
        step_is,
        window-is,
        later-is,
        add-one,
        is_open-last (view_alike row) s 0,
        is_open-last (view_alike row) (further s) 0,
      )
