-- The invariant of a run from fresh, over three ghost counts of idle ticks: with some window open, with none open and a
-- first step due, and with none open and step p + 1 due (`wait_ticks p`). What matters is `charge`: a free wait's
-- ticks, and what the run is charged with since it began, fit between its beginning and now.
use Prim.Native.Nat.{ℕ, zero, suc, ◌+◌, ◌-◌, ◌≤◌, ◌<◌, min}
use mathlib.Core.Bool.{true, false, cond, not}
use mathlib.Core.Path.{◌≡◌}
use native.Mathlib.Omega.{arith}
use lib.Dec.{ltb}
use borrow.Author.Tests.{ltb-true, not-true}
use Rattle.counting.specs.Sums.{sum_to}
use Rattle.counting.proofs.tests.TestLaws.{and_left, and_right}
use Rattle.counting.proofs.sums.ChangeLaws.{sum_to-suc, cond-mono}
use Rattle.load.specs.Load.{most_steps}
use Rattle.load.specs.View.{View, embedded, is_free, embedded_wait}
use Rattle.rules.specs.Bound.{largest_phase, embedded_wait_at, largest_w}
use Rattle.rules.specs.State.{State}
use Rattle.rules.specs.Plan.{plan_passes}
use Rattle.rules.proofs.moves.ShapeLaws.{RowsShaped}
use Rattle.rules.proofs.invariant.Setting.{Gives, Charge, AllBelow, Staged}

-- the costs of the steps that are finished
unfoldable pub spent : View → State → ℕ
spent L s = sum_to (λ i. sum_to (L.cost i) (s.finished i)) L.rows

-- the embedded waits of row i that are over once so many steps are finished, and what has passed of the one that runs,
-- the last step having ended so long ago
abbrev pub waited_row : View → ℕ → ℕ → ℕ → ℕ
waited_row L i zero since = 0
waited_row L i (suc j) since = sum_to (embedded_wait_at L i) j + cond (embedded_wait L i j) (min (L.wait i j) since) 0

abbrev pub waited_of : View → State → ℕ → ℕ
waited_of L s i = waited_row L i (s.finished i) (s.clock - s.end i)

unfoldable pub waited : View → State → ℕ
waited L s = sum_to (waited_of L s) L.rows

-- how many places a free wait can have
abbrev pub wait_places : ℕ
wait_places = most_steps - 1

pub record Invariant (gives : Gives) (charged : Charge) (L : View) (s : State) (open_ticks phase_ticks : ℕ)
    (wait_ticks : ℕ → ℕ) : Type 0 where
  pub shape : RowsShaped L s
  -- the clock counts costs and idle ticks at most: a step may take less than its cost
  pub clock-sum : s.clock ≤ spent L s + open_ticks + phase_ticks + sum_to wait_ticks wait_places
  -- the plan that begins now passes
  pub plan : plan_passes L s s.clock ≡ true
  -- ticks with a window open lie in embedded waits
  pub open-ticks : open_ticks ≤ waited L s
  -- ticks before a first step lie before a phase
  pub phase-clock : phase_ticks ≤ s.clock
  pub phase-ticks : phase_ticks ≤ largest_phase L
  -- a free step has been started only when every row had finished all lower ones
  pub stage : Staged L s
  -- ticks before a step p + 1 are at most the largest W, and begin when every row has finished p
  pub wait-ticks : (p : ℕ) → p < wait_places → wait_ticks p ≤ largest_w gives L p
  pub reached : (p : ℕ) → p < wait_places → 1 ≤ wait_ticks p → AllBelow L s (suc p)
  pub charge : (p i : ℕ) → p < wait_places → i < L.rows → s.finished i ≡ suc p → is_free L i (suc p) ≡ true
      → wait_ticks p + charged L s p i + s.end i ≤ s.clock

pub is_free-lt : (L : View) (i j : ℕ) → is_free L i j ≡ true → j < L.steps i
is_free-lt L i j h = ltb-true j (L.steps i) (and_left (ltb j (L.steps i)) (not (embedded L i j)) h)

pub is_free-embedded : (L : View) (i j : ℕ) → is_free L i j ≡ true → embedded L i j ≡ false
is_free-embedded L i j h = not-true (embedded L i j) (and_right (ltb j (L.steps i)) (not (embedded L i j)) h)

-- a row has waited no less once it has finished one step more, or once more time has passed
pub waited_row-next : (L : View) (i f since : ℕ) → waited_row L i f since ≤ waited_row L i (suc f) 0
waited_row-next L i zero since = omega arith
waited_row-next L i (suc j) since =
    omega (
      arith,
      sum_to-suc (embedded_wait_at L i) j,
      cond-mono (embedded_wait L i j) (min (L.wait i j) since) (L.wait i j) (λ _. omega arith),
    )

pub waited_row-mono : (L : View) (i f since more : ℕ) → since ≤ more → waited_row L i f since ≤ waited_row L i f more
waited_row-mono L i zero since more h = omega arith
waited_row-mono L i (suc j) since more h =
    omega (
      arith,
      cond-mono (embedded_wait L i j) (min (L.wait i j) since) (min (L.wait i j) more) (λ _. omega arith),
    )
