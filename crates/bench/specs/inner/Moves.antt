-- What a move hands back in memory, over a board: the bench that it leaves, with the lamps of the
-- windows that are open after it.
use Rattle.std.specs.Prelude.{ℕ, ◌+◌, ◌≤◌, ◌<◌, Bool, List, ◌≡◌, leb, set}
use Rattle.counting.specs.Sums.{all_to, count_to}
use Rattle.counting.specs.Lists.{member_at, is_marked}
use Rattle.words.specs.LampWord.{word_of}
use Rattle.load.specs.Load.{shown}
use Rattle.rules.specs.declared.Outcome.{Outcome}
use Rattle.rules.specs.declared.Outcome.TheVariants.{Start, Idle}
use Rattle.rules.specs.declared.Slot.{Slot}
use Rattle.bench.specs.declared.Bench.{Bench}
use Rattle.bench.specs.declared.Moved.{Moved}
use Rattle.bench.specs.Held.{bench_at}
use Rattle.plan.specs.declared.Board.{Board}
use Rattle.plan.specs.Boards.{look_in}
use Rattle.plan.specs.Choices.{opening_in, open_after}
use Rattle.plan.specs.Calls.{ChosenRow}

-- a bench once row i has started a step that takes so long, with its opening
abbrev pub bench_started : Bench → ℕ → ℕ → ℕ → Bench
bench_started bench i long opening =
    record {
      clock = bench.clock + long;
      finished = set bench.finished i (member_at bench.finished i + 1);
      end = set bench.end i (bench.clock + long);
      opening = set bench.opening i opening;
    }

-- all steps are finished, of rows that have finished so many of so many
abbrev pub finished_by : List ℕ → List ℕ → ℕ → Bool
finished_by finished steps rows = all_to (λ i. leb (member_at steps i) (member_at finished i)) rows

-- all steps are finished
abbrev pub finished_in : Board → ℕ → Bool
finished_in board rows = finished_by board.finished board.steps rows

-- a bench handed back with its lamps
abbrev pub handed_with : Bench → Outcome → List Bool → ℕ → Moved
handed_with bench outcome lit rows =
    record {
      bench = bench;
      outcome = outcome;
      lamps = word_of (is_marked lit) rows;
      count = count_to (is_marked lit) rows;
    }

-- the next step of row i, which has finished so many, as a slot that starts at a moment
abbrev pub slot_of : ℕ → ℕ → ℕ → Slot
slot_of i finished moment = record { row = shown i; step = shown finished; start = moment }

-- the move that starts row i's next step
unfoldable pub started_in : Bench → Board → ℕ → ℕ → Moved
started_in bench board rows i =
    handed_with
    (bench_started bench i (look_in board i).cost (opening_in board bench.clock i))
    (Start (slot_of i (look_in board i).finished bench.clock))
    (open_after board i)
    rows

-- row r was chosen, and its next step is started; where it is no row, the clock moves one tick
pub record Stepped (bench : Bench) (board : Board) (classes : List ℕ) (rows : ℕ) (moved : Moved)
    : Type 0 where
  pub row : ℕ
  pub chosen : ChosenRow board classes bench.clock rows row
  pub starts : row < rows → moved ≡ started_in bench board rows row
  pub idles : rows ≤ row
      → moved ≡ handed_with (bench_at bench (bench.clock + 1)) Idle board.opened rows
