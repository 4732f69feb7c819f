-- "Numbers given back", 3 to 7 and "21 factory identifier, after 3 and before 4" (2026-04): the
-- tests of each record kind, in the order in which they are asked. The file and the load in memory
-- share them. To be read after Load and View. Rests on D2 to D5 and D91.
use Rattle.std.specs.Prelude.{ℕ, zero, suc, ◌-◌, Bool, cond, ◌||◌, not, List, [], ◌∷◌, eqb, leb}
use Rattle.std.specs.Prelude.{ltb}
use Rattle.counting.specs.Sums.{any_to}
use Rattle.refusals.specs.declared.Refusal.{Refusal}
use Rattle.refusals.specs.declared.Refusal.TheVariants.{
  OutOfRange,
  FactoryIdentifier,
  IdentifierTaken,
  BoxTaken,
  WindowSteps,
  LimitBelowChain,
}
use Rattle.load.specs.declared.Identifier.{Identifier}
use Rattle.load.specs.declared.BoxNumber.{BoxNumber}
use Rattle.load.specs.declared.Step.{Step}
use Rattle.load.specs.declared.Window.{Window}
use Rattle.load.specs.declared.Row.{Row}
use Rattle.load.specs.declared.Load.{Load}
use Rattle.load.specs.Load.{most_steps, most_windows, most_class, only_head, shown}
use Rattle.load.specs.Load.{largest_number, factory_identifier, latest_phase, last_moment}
use Rattle.load.specs.Load.{largest_cost, largest_wait, largest_limit}
use Rattle.load.specs.Load.{row_at, step_at, window_at}
use Rattle.load.specs.View.{chain_between}

-- a number is outside its range
abbrev pub outside : ℕ → ℕ → ℕ → Bool
outside least most n = ltb n least || ltb most n

-- a row's own fields
unfoldable pub row_tests : Row → List (Bool × Refusal)
row_tests row =
    (outside 1 largest_number row.identifier.0, OutOfRange)
    ∷ (outside 1 largest_number row.box_number.0, OutOfRange)
    ∷ (ltb latest_phase row.phase, OutOfRange)
    ∷ (outside 1 last_moment row.deadline, OutOfRange)
    ∷ (outside 1 most_steps row.steps, OutOfRange)
    ∷ (ltb most_windows row.windows, OutOfRange)
    ∷ (ltb most_class row.class, OutOfRange)
    ∷ (not (eqb row.head only_head), OutOfRange)
    ∷ (eqb row.identifier.0 factory_identifier, FactoryIdentifier)
    ∷ []

-- the identifier stands in a row before place i
abbrev pub identifier_taken : Load → ℕ → Identifier → Bool
identifier_taken load i identifier = any_to (λ k. eqb (row_at load k).identifier.0 identifier.0) i

-- the box stands in a row before place i
abbrev pub box_taken : Load → ℕ → BoxNumber → Bool
box_taken load i box = any_to (λ k. eqb (row_at load k).box_number.0 box.0) i

-- what a row at place i shares with an earlier row
unfoldable pub taken_tests : Load → ℕ → Row → List (Bool × Refusal)
taken_tests load i row =
    (identifier_taken load i row.identifier, IdentifierTaken)
    ∷ (box_taken load i row.box_number, BoxTaken)
    ∷ []

-- the largest wait after a step: the last step's wait is 0
abbrev pub most_wait : Bool → ℕ
most_wait is_last = cond is_last 0 largest_wait

-- a step, which is the last of its row or not
abbrev pub step_numbers : Step → Bool → List (Bool × Refusal)
step_numbers s is_last =
    (outside 1 largest_cost s.cost, OutOfRange)
    ∷ (ltb (most_wait is_last) s.wait, OutOfRange)
    ∷ []

-- the step at place j
unfoldable pub step_tests : Row → ℕ → List (Bool × Refusal)
step_tests row j = step_numbers (step_at row j) (eqb (shown j) row.steps)

-- the last step of the window before place k, and 0 where there is none
abbrev pub last_before : Row → ℕ → ℕ
last_before row zero = 0
last_before row (suc k) = (window_at row k).last

-- all a window's costs and the waits between them
abbrev pub chain_of : Row → Window → ℕ
chain_of row w = chain_between row (w.first - 1) w.last

-- a window of a row, the window before it ending at a step, or at 0 where there is none
abbrev pub window_numbers : Row → Window → ℕ → List (Bool × Refusal)
window_numbers row w before =
    (eqb w.first 0, OutOfRange)
    ∷ (eqb w.last 0, OutOfRange)
    ∷ (outside 1 largest_limit w.limit, OutOfRange)
    ∷ (leb w.last w.first, WindowSteps)
    ∷ (ltb row.steps w.last, WindowSteps)
    ∷ (leb w.first before, WindowSteps)
    ∷ (ltb w.limit (chain_of row w), LimitBelowChain)
    ∷ []

-- the window at place k
unfoldable pub window_tests : Row → ℕ → List (Bool × Refusal)
window_tests row k = window_numbers row (window_at row k) (last_before row k)
