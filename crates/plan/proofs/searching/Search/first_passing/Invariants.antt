-- `first_passing` goes from one moment at which the step may pass to the next: before each it does not.
use Prim.Native.Nat.{ℕ, ◌+◌, ◌-◌, ◌≤◌, ◌<◌}
use mathlib.Core.Bool.{false}
use mathlib.Core.Path.{◌≡◌}
use Rattle.load.specs.Load.{last_moment}
use Rattle.plan.specs.Boards.{look_in}
use Rattle.plan.specs.Choices.{passes_in}
use Rattle.plan.proofs.searching.Search.first_passing.Given as goal

abbrev pub invariant-loop-moment : goal.invariant-loop-moment
invariant-loop-moment l =
    (l.from ≤ l.moment)
    × ((t : ℕ) → l.from ≤ t → t < l.moment → t + (look_in l.self.board.now l.i).cost
    ≤ last_moment
    → passes_in l.self.board.now t l.self.rows l.i ≡ false)

abbrev pub decreases-loop-moment : goal.decreases-loop-moment
decreases-loop-moment l = l.before - l.moment
