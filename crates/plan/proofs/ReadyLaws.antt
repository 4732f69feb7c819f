-- A row that is not ready is no candidate, so that a search passes over it.
use Prim.Native.Nat.{ℕ, ◌≤◌, ◌<◌}
use mathlib.Core.Bool.{Bool, true, false, ◌&&◌}
use mathlib.Core.Path.{◌≡◌, ◌∙◌}
use borrow.Author.Tests.{le-leb}
use lib.Dec.{leb}
use Rattle.counting.proofs.tests.TestLaws.{true-false}
use Rattle.load.specs.Load.{most_steps}
use Rattle.plan.specs.declared.Board.{Board}
use Rattle.plan.specs.Boards.{look_in}
use Rattle.plan.specs.Choices.{candidate_in, passes_in}
use Rattle.plan.specs.inner.Searching.{LowestStep, tried_in}
use Rattle.plan.proofs.SearchLaws.{candidate-ready}
use Rattle.plan.proofs.SweepLaws.{candidate-tried}

-- a row is no candidate where it is not ready
pub not-ready : (board : Board) (rows lowest : ℕ) → LowestStep board.finished board.steps rows lowest
    → (number : ℕ) → lowest ≤ number → number < most_steps → (i clock : ℕ) (ready : Bool)
    → ready ≡ (tried_in board number lowest i && leb (look_in board i).release clock) → ready ≡ false
    → (look_in board i).finished ≡ number → candidate_in board clock rows i ≡ true
    → passes_in board clock rows i ≡ false
not-ready board rows lowest known number from most i clock ready is e same candidate =
    absurd
    (true-false ready
    (is
    ∙ rw (
      candidate-tried board rows lowest known number from most i clock same candidate,
      le-leb (look_in board i).release clock (candidate-ready (look_in board i) clock _ candidate),
    ))
    e)
