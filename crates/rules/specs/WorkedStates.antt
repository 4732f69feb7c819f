-- "One move of the bench": the notation of the worked cases for slots and states, and what is seen
-- of a move and of a check. To be read after Move, Outcomes and Check; loads are written as in
-- load's Notation.
use Rattle.std.specs.Prelude.{ℕ, List, map, get_or}
use Rattle.counting.specs.Lists.{list_to}
use Rattle.refusals.specs.Refusals.{number_given}
use Rattle.load.specs.declared.Load.{Load}
use Rattle.load.specs.View.{view_of}
use Rattle.rules.specs.declared.Slot.{Slot}
use Rattle.rules.specs.declared.Outcome.{Outcome}
use Rattle.rules.specs.State.{State}
use Rattle.rules.specs.Outcomes.{told_by}
use Rattle.rules.specs.Move.{Moved, move}
use Rattle.rules.specs.Check.{check_schedule}

-- a slot line, as the program prints it: start, row, step
abbrev pub slot : ℕ → ℕ → ℕ → Slot
slot start row step = record { row = row; step = step; start = start }

-- what a state says of a row: steps finished, the moment the last of them ended, the opening
pub record Progress : Type 0 where
  pub finished : ℕ
  pub end : ℕ
  pub opening : ℕ

-- a row with so many steps finished, the last of them ended at a moment, and an opening
abbrev pub has : ℕ → ℕ → ℕ → Progress
has finished end opening = record { finished = finished; end = end; opening = opening }

-- a state: its clock, and its rows from the first on; the others are zero
abbrev pub state : ℕ → List Progress → State
state clock rows =
    record {
      clock = clock;
      finished = λ i. (get_or rows i (has 0 0 0)).finished;
      end = λ i. (get_or rows i (has 0 0 0)).end;
      opening = λ i. (get_or rows i (has 0 0 0)).opening;
    }

-- what a state says of the row at a place
abbrev pub progress_in : State → ℕ → Progress
progress_in s i = has (s.finished i) (s.end i) (s.opening i)

-- what is seen of a move: its answer, the lamp word and its count, the clock and the load's rows
pub record Seen : Type 0 where
  pub outcome : Outcome
  pub lamps : ℕ
  pub count : ℕ
  pub clock : ℕ
  pub rows : List Progress

-- what is seen of a move of a load of so many rows
abbrev pub seen_of : ℕ → Moved → Seen
seen_of rows m =
    record {
      outcome = m.outcome;
      lamps = m.lamps;
      count = m.count;
      clock = m.then.clock;
      rows = list_to (progress_in m.then) rows;
    }

-- what is seen of the move from a state
abbrev pub seen : Load → State → Seen
seen load s = seen_of load.rows (move (view_of load) s)

-- what the move from a state answers
abbrev pub answer : Load → State → Outcome
answer load s = (move (view_of load) s).outcome

-- what the moves from some states answer
abbrev pub answers : Load → List State → List Outcome
answers load states = map (answer load) states

-- the number that the move from each of some states gives, 0 where it refuses nothing
abbrev pub numbers : Load → List State → List ℕ
numbers load states = map (λ s. (told_by (answer load s)).number) states

-- the number that the check gives each of some lists of slots, 0 where it says yes
abbrev pub findings : Load → List (List Slot) → List ℕ
findings load lists = map (λ slots. number_given (check_schedule load slots)) lists
