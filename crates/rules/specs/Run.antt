-- "Exactly the starts of demand 2's moves from fresh to Done, in order, each step at full cost":
-- the run, over the lengths of steps as Move is. To be read after Move. Rests on D36 and D66.
use Rattle.std.specs.Prelude.{ℕ, zero, suc, List, [], ◌∷◌}
use Rattle.load.specs.Load.{last_moment}
use Rattle.load.specs.View.{View}
use Rattle.rules.specs.declared.Slot.{Slot}
use Rattle.rules.specs.declared.Outcome.{Outcome}
use Rattle.rules.specs.declared.Outcome.TheVariants.{Start, Idle, Done, Refused}
use Rattle.rules.specs.State.{State, fresh}
use Rattle.rules.specs.Move.{move_by}

-- the state after so many moves, the steps having these lengths
unfoldable pub state_after_by : (ℕ → ℕ → ℕ) → View → ℕ → State → State
state_after_by long L zero s = s
state_after_by long L (suc n) s = state_after_by long L n (move_by long L s).then

-- each step at full cost
abbrev pub state_after : View → ℕ → State → State
state_after L n s = state_after_by L.cost L n s

-- the starts from an outcome on, the next moves going on from a state: Done and a refusal end them
abbrev pub starts_from : Outcome → State → (State → List Slot) → List Slot
starts_from (Start slot) s next = slot ∷ next s
starts_from Idle s next = next s
starts_from Done s next = []
starts_from (Refused refusal) s next = []

-- the starts of at most so many moves, the steps having these lengths
unfoldable pub starts_by : (ℕ → ℕ → ℕ) → View → ℕ → State → List Slot
starts_by long L zero s = []
starts_by long L (suc n) s =
    starts_from (move_by long L s).outcome (move_by long L s).then (starts_by long L n)

-- each step at full cost
abbrev pub starts : View → ℕ → State → List Slot
starts L n s = starts_by L.cost L n s

-- enough moves for any run: Start and Idle move the clock on, and it goes no further than 1,000,000
abbrev pub enough_moves : ℕ
enough_moves = suc last_moment

-- the starts from fresh to Done, the steps having these lengths
unfoldable pub schedule_by : (ℕ → ℕ → ℕ) → View → List Slot
schedule_by long L = starts_by long L enough_moves fresh

-- the schedule of a load: the starts from fresh to Done, each step at full cost
abbrev pub schedule : View → List Slot
schedule L = schedule_by L.cost L
