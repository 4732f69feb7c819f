-- A move is refused with 10 exactly when the state has not the load's shape, and with 11 exactly when it has, the clock
-- is at 1,000,000, and a step is not finished.
use Prim.Native.Nat.{ℕ}
use mathlib.Core.Bool.{Bool, true, false}
use mathlib.Core.Logic.{◌↔◌}
use mathlib.Core.Path.{◌≡◌, refl, ap}
use native.Mathlib.Omega.{arith}
use lib.Dec.{leb}
use borrow.Author.Tests.{leb-false, lt-leb}
use Rattle.counting.specs.Searches.{Found, at, none}
use Rattle.counting.proofs.tests.TestLaws.{false-all_to, all_to-false, true-false}
use Rattle.refusals.specs.declared.Refusal.TheVariants.{StateShape, ClockFull}
use Rattle.load.specs.View.{View}
use Rattle.rules.specs.declared.Outcome.{Outcome}
use Rattle.rules.specs.declared.Outcome.TheVariants.{Refused}
use Rattle.rules.specs.State.{State, shaped}
use Rattle.rules.specs.Shape.{Shape, StepLeft, ClockSpent}
use Rattle.rules.specs.Outcomes.{told_by}
use Rattle.rules.specs.Move.{Moved, start_or_idle_by, all_finished, chosen, move}
use Rattle.rules.proofs.moves.MoveLaws.{
  move-unshaped,
  move-full,
  Way,
  unshaped,
  finished,
  full,
  goes,
  move-way,
}
use Rattle.rules.proofs.moves.ShapeExact.{shaped-shape, shape-shaped}

-- the number that an answer has
abbrev number_in : Outcome → ℕ
number_in outcome = (told_by outcome).number

module _ (L : View) (s : State) where
  -- a step is left exactly when not all are finished
  pub left-unfinished : StepLeft L s → all_finished L s ≡ false
  unfolding all_finished
  left-unfinished l =
      false-all_to (λ i. leb (L.steps i) (s.finished i)) L.rows l.row l.there
      (lt-leb (L.steps l.row) (s.finished l.row) l.left)

  unfinished-left : all_finished L s ≡ false → StepLeft L s
  unfolding all_finished
  unfinished-left e =
      let f = all_to-false (λ i. leb (L.steps i) (s.finished i)) L.rows e in
      record {
        row = f.place;
        there = f.below;
        left = leb-false (L.steps f.place) (s.finished f.place) f.fails;
      }

  choice-number : (choice : Found) → number_in (start_or_idle_by L.cost L s choice).outcome ≡ 0
  choice-number (at i) = refl
  choice-number none = refl

  -- the number of a move is that of the way it goes
  number_by : {m : Moved} → move L s ≡ m → number_in (move L s).outcome ≡ number_in m.outcome
  number_by e = ap (λ (w : Moved). number_in w.outcome) e

  -- a move is not refused with 10 where the state has the shape
  shaped-not-ten : shaped L s ≡ true → ¬ (number_in (move L s).outcome ≡ 10)
  shaped-not-ten e n = go (move-way L.cost L s)
    where
      go : Way L.cost L s → ⊥
      go (unshaped f q) = true-false (shaped L s) e f
      go (finished f q) = omega (arith, number_by q)
      go (full f d l q) = omega (arith, number_by q)
      go (goes f q) = omega (arith, number_by q, choice-number (chosen L s))

  pub shape-refused : ((move L s).outcome ≡ Refused StateShape) ↔ (¬ Shape L s)
  shape-refused = (λ e h. shaped-not-ten (shape-shaped L s h) (ap number_in e), λ bad. go bad (shaped L s) refl)
    where
      go : ¬ Shape L s → (b : Bool) → shaped L s ≡ b → (move L s).outcome ≡ Refused StateShape
      go bad true e = absurd (bad (shaped-shape L s e))
      go bad false e = ap (λ (w : Moved). w.outcome) (move-unshaped L.cost L s e)

  spent : number_in (move L s).outcome ≡ 11 → ClockSpent L s
  spent n = go (move-way L.cost L s)
    where
      go : Way L.cost L s → ClockSpent L s
      go (unshaped e q) = absurd (omega (arith, number_by q))
      go (finished e q) = absurd (omega (arith, number_by q))
      go (goes e q) = absurd (omega (arith, number_by q, choice-number (chosen L s)))
      go (full e d l q) =
          record {
            shape = shaped-shape L s e;
            clock-full = omega (arith, (shaped-shape L s e).clock-most);
            work-left = unfinished-left d;
          }

  pub clock-refused : ((move L s).outcome ≡ Refused ClockFull) ↔ ClockSpent L s
  clock-refused = (
    λ e. spent (ap number_in e),
    λ c. ap (λ (w : Moved). w.outcome)
        (move-full L.cost L s (shape-shaped L s c.shape) (left-unfinished c.work-left)
        (omega (arith, c.clock-full))),
  )
