-- "Loads to try", one row, phase 5, cost 3: start 5, bound 8; margin 0 at deadline 8, -1 at 7.
use Rattle.std.specs.Prelude.{ℕ, true, false, List, [], ◌∷◌, pos, negsuc, Ok, Err}
use Prim.Native.String.{String}
use Rattle.refusals.specs.declared.Refusal.TheVariants.{RowLate}
use Rattle.load.specs.declared.Load.{Load}
use Rattle.load.specs.Notation.{◌w◌, row_with, load_of}
use Rattle.rules.specs.declared.Outcome.TheVariants.{Start, Idle}
use Rattle.rules.specs.WorkedStates.{slot}
use Rattle.demands.specs.LoadsToTry.{Sound}

-- one row, phase 5, cost 3, and a deadline
abbrev pub phased : ℕ → Load
phased deadline = load_of (row_with 101 201 5 deadline (3 w 0 ∷ []) [] ∷ [])

-- its file, with the row's record
abbrev pub phased_file : String → List String
phased_file row₁ = "4C44 01 01" ∷ row₁ ∷ "5354 0300 0000" ∷ "454E 0100" ∷ []

-- one row, phase 5, cost 3: start 5, bound 8; margin 0 at deadline 8
unfoldable pub load_phase8 : Sound
load_phase8 =
    record {
      file = phased_file "5257 65000000 C9000000 05000000 08000000 01 00";
      load = phased 8;
      answers = record {
        bound_of = 8;
        row-bounds = 8 ∷ [];
        margins-of = pos 0 ∷ [];
        verdict-of = true;
        slots = slot 5 1 1 ∷ [];
        end = 8;
        finding = Ok tt;
      };
      glimpses = record { moves = 0; outcome = Idle; clock = 1; lamps = 0; count = 0 } ∷ [];
      margin-bytes = "00000000" ∷ [];
      schedule-file = "5343 0100" ∷ "534C 01 01 05000000" ∷ [];
      lines = "load 1 1 8 8 yes" ∷ "row 1 101 201 0" ∷ "slot 5 1 1" ∷ [];
      blamed-rows = "row 1 101 201 0 0 0" ∷ [];
    }

-- margin -1 at deadline 7: the run is the same, and the check finds the row late
unfoldable pub load_phase7 : Sound
load_phase7 =
    record {
      file = phased_file "5257 65000000 C9000000 05000000 07000000 01 00";
      load = phased 7;
      answers = record {
        bound_of = 8;
        row-bounds = 8 ∷ [];
        margins-of = negsuc 0 ∷ [];
        verdict-of = false;
        slots = slot 5 1 1 ∷ [];
        end = 8;
        finding = Err RowLate;
      };
      glimpses =
          record { moves = 5; outcome = Start (slot 5 1 1); clock = 8; lamps = 0; count = 0 } ∷ [];
      margin-bytes = "FFFFFFFF" ∷ [];
      schedule-file = "5343 0100" ∷ "534C 01 01 05000000" ∷ [];
      lines = "load 1 1 8 8 no" ∷ "row 1 101 201 -1" ∷ "slot 5 1 1" ∷ [];
      blamed-rows = "row 1 101 201 -1 0 0" ∷ [];
    }
