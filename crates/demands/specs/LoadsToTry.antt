-- "Loads to try": what is asked of a load marked P, and what is said of it. To be read after
-- Notation.
use Rattle.std.specs.Prelude.{ℕ, ◌+◌, Bool, List, ◌++◌, ℤ, length, take, drop, Result, Err}
use Prim.Native.String.{String}
use Rattle.counting.specs.Lists.{list_to}
use Rattle.refusals.specs.declared.Refusal.{Refusal}
use Rattle.refusals.specs.Checked.{Checked}
use Rattle.load.specs.declared.Load.{Load}
use Rattle.load.specs.View.{view_of}
use Rattle.rules.specs.declared.Slot.{Slot}
use Rattle.rules.specs.declared.Outcome.{Outcome}
use Rattle.rules.specs.Bound.{bound}
use Rattle.rules.specs.Margins.{row_bound, margin, verdict}
use Rattle.rules.specs.State.{fresh}
use Rattle.rules.specs.Slots.{last_end}
use Rattle.rules.specs.Move.{Moved, move}
use Rattle.rules.specs.Run.{state_after, schedule}
use Rattle.rules.specs.Check.{check_schedule}

-- all that is asked of an acceptable load
pub record Answers : Type 0 where
  pub bound_of : ℕ
  pub row-bounds : List ℕ
  pub margins-of : List ℤ
  pub verdict-of : Bool
  -- the starts, in order, and the end of the last
  pub slots : List Slot
  pub end : ℕ
  -- what the check finds of that schedule
  pub finding : Checked

-- the answers by document 01's definitions
unfoldable pub answers_for : Load → Answers
answers_for load =
    record {
      bound_of = bound (view_of load);
      row-bounds = list_to (row_bound (view_of load)) load.rows;
      margins-of = list_to (margin (view_of load)) load.rows;
      verdict-of = verdict (view_of load);
      slots = schedule (view_of load);
      end = last_end (view_of load) (schedule (view_of load));
      finding = check_schedule load (schedule (view_of load));
    }

-- what a move answers that follows so many moves from fresh, and what it hands back
pub record Glimpse : Type 0 where
  pub moves : ℕ
  pub outcome : Outcome
  pub clock : ℕ
  pub lamps : ℕ
  pub count : ℕ

-- the glimpse of a move
abbrev pub glimpse_of : ℕ → Moved → Glimpse
glimpse_of n moved =
    record {
      moves = n;
      outcome = moved.outcome;
      clock = moved.then.clock;
      lamps = moved.lamps;
      count = moved.count;
    }

-- the glimpse of the move that follows so many moves from fresh
unfoldable pub glimpse_after : Load → ℕ → Glimpse
glimpse_after load n = glimpse_of n (move (view_of load) (state_after (view_of load) n fresh))

-- an acceptable load: its file, the load itself, its answers, glimpses of its run, the margins'
-- bytes of the rows that are there, its schedule file, what is printed, and the row lines of the
-- program that says whom to blame
pub record Sound : Type 0 where
  pub file : List String
  pub load : Load
  pub answers : Answers
  pub glimpses : List Glimpse
  pub margin-bytes : List String
  pub schedule-file : List String
  pub lines : List String
  pub blamed-rows : List String

-- what is printed by the program that says whom to blame: all but the row lines as by the other
abbrev pub blamed_lines : Sound → List String
blamed_lines e =
    take 1 e.lines ++ e.blamed-rows ++ drop (1 + length e.blamed-rows) e.lines

-- a load that is refused: its file, the load in memory, the refusal, its number and what is printed
pub record Faulty : Type 0 where
  pub file : List String
  pub load : Load
  pub refusal : Refusal
  pub number : ℕ
  pub lines : List String

-- what reading a refused file gives
abbrev pub refused : Refusal → Result Load Refusal
refused refusal = Err refusal
