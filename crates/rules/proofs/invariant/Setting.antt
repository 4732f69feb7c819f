-- What the proof of demand 3 is given of a run: how long each step takes, what the others give while a free wait lasts,
-- and what a run is charged with for it, with all that must be known of the three. They are parameters, so that a run
-- with other lengths and another bound has the same proof. The full run's setting is `full_setting`.
use Prim.Native.Nat.{ℕ, suc, ◌+◌, ◌≤◌, ◌<◌, min}
use mathlib.Core.Bool.{false}
use mathlib.Core.Logic.{◌≢◌}
use mathlib.Core.Path.{◌≡◌}
use Rattle.load.specs.View.{View, embedded}
use Rattle.rules.specs.State.{State}
use Rattle.rules.specs.Move.{started, ticked}
use Rattle.rules.proofs.invariant.Runnable.{Runnable}

-- a length for step j of row i
abbrev pub Long : Type 0
Long = ℕ → ℕ → ℕ

-- what the others give at place j to row i
abbrev pub Gives : Type 0
Gives = View → ℕ → ℕ → ℕ

-- what they have worked in a state since row i ended its step p
abbrev pub Charge : Type 0
Charge = View → State → ℕ → ℕ → ℕ

-- the lengths are at least a tick, and at most the costs
pub record Lengths (L : View) (long : Long) : Type 0 where
  pub least : (i j : ℕ) → i < L.rows → j < L.steps i → 1 ≤ long i j
  pub most : (i j : ℕ) → i < L.rows → j < L.steps i → long i j ≤ L.cost i j

-- every row has finished all its steps below place j
abbrev pub AllBelow : View → State → ℕ → Type 0
AllBelow L s j = (i : ℕ) → i < L.rows → min j (L.steps i) ≤ s.finished i

-- a free step has been started only when every row had finished all lower ones
abbrev pub Staged : View → State → Type 0
Staged L s = (k q : ℕ) → k < L.rows → q < s.finished k → embedded L k q ≡ false → AllBelow L s q

-- the lowest next step is p + 1, and of the rows that wait there i is the one that ended first
pub record Oldest (L : View) (s : State) (p i : ℕ) : Type 0 where
  pub there : i < L.rows
  pub more : s.finished i < L.steps i
  pub at-step : s.finished i ≡ suc p
  pub lowest : AllBelow L s (suc p)
  pub old : (k : ℕ) → k < L.rows → s.finished k < L.steps k → s.finished k ≡ suc p → s.end i ≤ s.end k

-- what a run is charged with, and what the bound may take off for it
pub record Charging (L : View) (long : Long) (gives : Gives) (charged : Charge) : Type 0 where
  -- nothing by a tick, and by the start of another row no more than passes
  pub at_tick : (s : State) (p i : ℕ) → charged L (ticked s) p i ≡ charged L s p i
  pub at-start : (s : State) (k p i : ℕ) → k < L.rows → s.finished k < L.steps k → i ≢ k
      → charged L (started L s k (long k (s.finished k))) p i ≤ charged L s p i + long k (s.finished k)
  -- nothing when a row's own wait begins
  pub at_first : (s : State) (k : ℕ) → k < L.rows → suc (s.finished k) < L.steps k → Staged L s
      → ((i : ℕ) → i < L.rows → s.end i ≤ s.clock)
      → charged L (started L s k (long k (s.finished k))) (s.finished k) k ≡ 0
  -- and enough once every other row has worked
  pub enough : (s : State) (p i : ℕ) → Oldest L s p i → gives L p i ≤ charged L s p i

pub record Setting (L : View) (long : Long) (gives : Gives) (charged : Charge) : Type 0 where
  pub runnable : Runnable L
  pub lengths : Lengths L long
  pub charging : Charging L long gives charged
