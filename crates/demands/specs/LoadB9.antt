-- "Loads to try", B with limit 9 for row 1's window. To be read after LoadB.
use Rattle.std.specs.Prelude.{true, [], ◌∷◌, pos, Ok}
use Rattle.rules.specs.declared.Outcome.TheVariants.{Start, Done}
use Rattle.rules.specs.WorkedStates.{slot}
use Rattle.demands.specs.LoadsToTry.{Sound}
use Rattle.demands.specs.LoadB.{file_b, in_memory_b}

-- row 3 at 5, row 1 at 7, row 3 at 9; end 10. Two windows are open from 7 to 9
unfoldable pub load_b9 : Sound
load_b9 =
    record {
      file = file_b "574E 01 02 0900";
      load = in_memory_b 9;
      answers = record {
        bound_of = 15;
        row-bounds = 15 ∷ 15 ∷ 15 ∷ [];
        margins-of = pos 999985 ∷ pos 999985 ∷ pos 999985 ∷ [];
        verdict-of = true;
        slots = slot 0 1 1 ∷ slot 2 2 1 ∷ slot 5 3 1 ∷ slot 7 1 2 ∷ slot 9 3 2 ∷ [];
        end = 10;
        finding = Ok tt;
      };
      glimpses =
          record { moves = 2; outcome = Start (slot 5 3 1); clock = 7; lamps = 5; count = 2 }
          ∷ record { moves = 5; outcome = Done; clock = 10; lamps = 0; count = 0 }
          ∷ [];
      margin-bytes = "31420F00" ∷ "31420F00" ∷ "31420F00" ∷ [];
      schedule-file = "5343 0500"
          ∷ "534C 01 01 00000000"
          ∷ "534C 02 01 02000000"
          ∷ "534C 03 01 05000000"
          ∷ "534C 01 02 07000000"
          ∷ "534C 03 02 09000000"
          ∷ [];
      lines = "load 3 5 10 15 yes"
          ∷ "row 1 101 201 999985"
          ∷ "row 2 102 202 999985"
          ∷ "row 3 103 203 999985"
          ∷ "slot 0 1 1"
          ∷ "slot 2 2 1"
          ∷ "slot 5 3 1"
          ∷ "slot 7 1 2"
          ∷ "slot 9 3 2"
          ∷ [];
      blamed-rows = "row 1 101 201 999985 0 0"
          ∷ "row 2 102 202 999985 0 0"
          ∷ "row 3 103 203 999985 0 0"
          ∷ [];
    }
