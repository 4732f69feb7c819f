-- "Calls that take a load in memory check 3 to 7 [..]. Then 10, 11 and 9. A refused move hands back
-- the state it was given, with lamp word and count 0": worked cases of a move in memory. The
-- answers come from document 01 by hand and from the second program. To be read after Held.
use Rattle.std.specs.Prelude.{ℕ, List, [], ◌∷◌, ◌≡◌}
use Rattle.refusals.specs.declared.Refusal.{Refusal}
use Rattle.refusals.specs.declared.Refusal.TheVariants.{
  OutOfRange,
  IdentifierTaken,
  LimitBelowChain,
  StateShape,
  ClockFull,
}
use Rattle.load.specs.declared.Load.{Load}
use Rattle.load.specs.Load.{most_rows}
use Rattle.load.specs.Notation.{◌w◌, window, padded, classed, row, load_of}
use Rattle.rules.specs.declared.Outcome.TheVariants.{Start, Refused}
use Rattle.rules.specs.WorkedStates.{slot}
use Rattle.bench.specs.declared.Bench.{Bench}
use Rattle.bench.specs.declared.Moved.{Moved}
use Rattle.bench.specs.Held.{next_move}

-- a bench in memory: its clock, and of its rows from the first on the steps finished, the ends and
-- the openings; the others are zero
abbrev pub bench : ℕ → List ℕ → List ℕ → List ℕ → Bench
bench clock finished ends openings =
    record {
      clock = clock;
      finished = padded most_rows 0 finished;
      end = padded most_rows 0 ends;
      opening = padded most_rows 0 openings;
    }

-- one row of two steps in a window, with a cost and a limit
abbrev pub lent : ℕ → ℕ → Load
lent cost limit = load_of (row 1 (cost w 4 ∷ 2 w 0 ∷ []) (window 1 2 limit ∷ []) ∷ [])

-- a bench whose clock is past 1,000,000, whose end is past its clock, and whose row 2 is not there
abbrev pub shapeless : Bench
shapeless = bench 1000001 (1 ∷ 7 ∷ []) (1000002 ∷ 7 ∷ []) (3 ∷ 7 ∷ [])

-- a bench whose clock is at 1,000,000, with a window open
abbrev pub full : Bench
full = bench 1000000 (1 ∷ []) (2 ∷ []) (0 ∷ [])

-- the bench that was given, the refusal, and lamp word and count 0
abbrev pub hands_back : Bench → Refusal → Moved
hands_back given refusal =
    record { bench = given; outcome = Refused refusal; lamps = 0; count = 0 }

-- a move in memory
pub record WorkedBench : Type 0 where
  -- 3, 4 and 7 come before 10: a cost of 0, one identifier in two rows, a limit below its chain
  pub range-first : next_move (lent 0 8) shapeless ≡ hands_back shapeless OutOfRange
  pub taken-first :
      next_move (load_of (row 1 (1 w 0 ∷ []) [] ∷ row 1 (1 w 0 ∷ []) [] ∷ [])) shapeless
      ≡ hands_back shapeless IdentifierTaken
  pub chain_first : next_move (lent 2 7) shapeless ≡ hands_back shapeless LimitBelowChain
  -- and before 11
  pub load-before-full : next_move (lent 2 7) full ≡ hands_back full LimitBelowChain
  -- 10 and 11 of a load that is in order
  pub no-shape : next_move (lent 2 8) shapeless ≡ hands_back shapeless StateShape
  pub clock-full : next_move (lent 2 8) full ≡ hands_back full ClockFull
  -- a start is handed back in the row's places, and the others stay zero
  pub starts :
      next_move (lent 2 8) (bench 4 [] [] [])
      ≡ record {
        bench = bench 6 (1 ∷ []) (6 ∷ []) (4 ∷ []);
        outcome = Start (slot 4 1 1);
        lamps = 1;
        count = 1;
      }
  -- of two first steps that of the higher class starts
  pub urgent :
      next_move
      (load_of (row 1 (2 w 0 ∷ []) [] ∷ classed 1 1 (row 2 (1 w 0 ∷ []) []) ∷ []))
      (bench 4 [] [] [])
      ≡ record {
        bench = bench 5 (0 ∷ 1 ∷ []) (0 ∷ 5 ∷ []) [];
        outcome = Start (slot 4 2 1);
        lamps = 0;
        count = 0;
      }
