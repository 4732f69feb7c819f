-- "One move of the bench": Start, Idle, Done, and refusals 10 and 11. `move` is document 01's, each
-- step at full cost. The length of a step, by row and place, is an argument of the definitions that
-- it rests on, since a step may end before its cost is over (2026-09); what is tested is the cost.
-- To be read after Ready, Plan and Lamps. Rests on D12, D14 to D16 and D66.
use Rattle.std.specs.Prelude.{ℕ, suc, ◌+◌, Bool, true, false, cond, leb}
use Rattle.counting.specs.Sums.{all_to}
use Rattle.counting.specs.Lists.{changed}
use Rattle.counting.specs.Searches.{Found, at, none, found}
use Rattle.refusals.specs.declared.Refusal.{Refusal}
use Rattle.refusals.specs.declared.Refusal.TheVariants.{StateShape, ClockFull}
use Rattle.load.specs.Load.{last_moment, shown}
use Rattle.load.specs.View.{View, opens_at}
use Rattle.rules.specs.declared.Slot.{Slot}
use Rattle.rules.specs.declared.Outcome.{Outcome}
use Rattle.rules.specs.declared.Outcome.TheVariants.{Start, Idle, Done, Refused}
use Rattle.rules.specs.State.{State, is_open, shaped}
use Rattle.rules.specs.Ready.{candidates}
use Rattle.rules.specs.Plan.{plan_passes}
use Rattle.rules.specs.Lamps.{lamp_word, lamp_count}

-- what a move hands back
pub record Moved : Type 0 where
  pub then : State
  pub outcome : Outcome
  pub lamps : ℕ
  pub count : ℕ

-- row i's opening once its next step, started at a moment, is over: kept while its window stays
-- open, that start where the step opens one, else 0
abbrev pub opening_after : View → State → ℕ → ℕ → ℕ
opening_after L s i start =
    cond (opens_at L i (suc (s.finished i))) (cond (is_open L s i) (s.opening i) start) 0

-- the state once row i's next step, started now, has taken so long: the clock moves to its end
unfoldable pub started : View → State → ℕ → ℕ → State
started L s i long =
    record {
      clock = s.clock + long;
      finished = changed s.finished i (suc (s.finished i));
      end = changed s.end i (s.clock + long);
      opening = changed s.opening i (opening_after L s i s.clock);
    }

-- the state once row i's next step has been started and has taken its cost
abbrev pub started_full : View → State → ℕ → State
started_full L s i = started L s i (L.cost i (s.finished i))

-- Idle moves the clock one tick
unfoldable pub ticked : State → State
ticked s =
    record { clock = s.clock + 1; finished = s.finished; end = s.end; opening = s.opening }

-- a candidate passes the stacking plan, as things stand at its end
unfoldable pub passes : View → State → ℕ → Bool
passes L s i = plan_passes L (started_full L s i) (started_full L s i).clock

-- the first candidate that passes
unfoldable pub chosen : View → State → Found
chosen L s = found (passes L s) (candidates L s)

-- all steps are finished
unfoldable pub all_finished : View → State → Bool
all_finished L s = all_to (λ i. leb (L.steps i) (s.finished i)) L.rows

-- row i's next step, started now, as a slot: rows and steps counted from 1
abbrev pub next_slot : State → ℕ → Slot
next_slot s i = record { row = shown i; step = shown (s.finished i); start = s.clock }

-- a state handed back with its lamps
abbrev pub handed_back : View → State → Outcome → Moved
handed_back L s outcome =
    record { then = s; outcome = outcome; lamps = lamp_word L s; count = lamp_count L s }

-- a refused move hands back the state it was given, with lamp word and count 0
abbrev pub refused_move : State → Refusal → Moved
refused_move s refusal = record { then = s; outcome = Refused refusal; lamps = 0; count = 0 }

-- Start where a candidate was chosen, its next step taking its length, else Idle
abbrev pub start_or_idle_by : (ℕ → ℕ → ℕ) → View → State → Found → Moved
start_or_idle_by long L s (at i) =
    handed_back L (started L s i (long i (s.finished i))) (Start (next_slot s i))
start_or_idle_by long L s none = handed_back L (ticked s) Idle

-- one move of a bench whose state has the load's shape, and whose candidate to start was looked for
unfoldable pub shaped_move_with : (ℕ → ℕ → ℕ) → View → State → Found → Moved
shaped_move_with long L s first =
    elim (all_finished L s) [
      | true ↦ handed_back L s Done
      | false ↦ elim (leb last_moment s.clock) [
        | true ↦ refused_move s ClockFull
        | false ↦ start_or_idle_by long L s first
      ]
    ]

-- one move of a bench whose candidate to start was looked for
unfoldable pub move_with : (ℕ → ℕ → ℕ) → View → State → Found → Moved
move_with long L s first =
    elim (shaped L s) [ true ↦ shaped_move_with long L s first | false ↦ refused_move s StateShape ]

-- one move of a bench whose steps have these lengths: the first candidate that passes starts
unfoldable pub move_by : (ℕ → ℕ → ℕ) → View → State → Moved
move_by long L s = move_with long L s (chosen L s)

-- one move of the bench, each step at full cost
abbrev pub move : View → State → Moved
move L s = move_by L.cost L s
