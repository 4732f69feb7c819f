-- "Loads to try", A: 2 w10 3 / 1 w4 2 / 2 w3 1, deadlines 20, 19, 18: as printed in "The program".
use Rattle.std.specs.Prelude.{false, [], ◌∷◌, pos, negsuc, Ok}
use Rattle.load.specs.Notation.{◌w◌, row_by, load_of}
use Rattle.rules.specs.declared.Outcome.TheVariants.{Start, Idle, Done}
use Rattle.rules.specs.WorkedStates.{slot}
use Rattle.demands.specs.LoadsToTry.{Sound}

-- load A; margins 1, 0 and -1
unfoldable pub load_a : Sound
load_a =
    record {
      file = "4C44 01 03"
          ∷ "5257 65000000 C9000000 00000000 14000000 02 00"
          ∷ "5354 0200 0A00"
          ∷ "5354 0300 0000"
          ∷ "5257 66000000 CA000000 00000000 13000000 02 00"
          ∷ "5354 0100 0400"
          ∷ "5354 0200 0000"
          ∷ "5257 67000000 CB000000 00000000 12000000 02 00"
          ∷ "5354 0200 0300"
          ∷ "5354 0100 0000"
          ∷ "454E 0600"
          ∷ [];
      load =
          load_of
          (row_by 1 0 20 (2 w 10 ∷ 3 w 0 ∷ []) []
          ∷ row_by 2 0 19 (1 w 4 ∷ 2 w 0 ∷ []) []
          ∷ row_by 3 0 18 (2 w 3 ∷ 1 w 0 ∷ []) []
          ∷ []);
      answers = record {
        bound_of = 19;
        row-bounds = 19 ∷ 19 ∷ 19 ∷ [];
        margins-of = pos 1 ∷ pos 0 ∷ negsuc 0 ∷ [];
        verdict-of = false;
        slots =
            slot 0 1 1 ∷ slot 2 2 1 ∷ slot 3 3 1 ∷ slot 7 2 2 ∷ slot 9 3 2 ∷ slot 12 1 2 ∷ [];
        end = 15;
        finding = Ok tt;
      };
      glimpses =
          record { moves = 0; outcome = Start (slot 0 1 1); clock = 2; lamps = 0; count = 0 }
          ∷ record { moves = 3; outcome = Idle; clock = 6; lamps = 0; count = 0 }
          ∷ record { moves = 10; outcome = Done; clock = 15; lamps = 0; count = 0 }
          ∷ [];
      margin-bytes = "01000000" ∷ "00000000" ∷ "FFFFFFFF" ∷ [];
      schedule-file = "5343 0600"
          ∷ "534C 01 01 00000000"
          ∷ "534C 02 01 02000000"
          ∷ "534C 03 01 03000000"
          ∷ "534C 02 02 07000000"
          ∷ "534C 03 02 09000000"
          ∷ "534C 01 02 0C000000"
          ∷ [];
      lines = "load 3 6 15 19 no"
          ∷ "row 1 101 201 1"
          ∷ "row 2 102 202 0"
          ∷ "row 3 103 203 -1"
          ∷ "slot 0 1 1"
          ∷ "slot 2 2 1"
          ∷ "slot 3 3 1"
          ∷ "slot 7 2 2"
          ∷ "slot 9 3 2"
          ∷ "slot 12 1 2"
          ∷ [];
      blamed-rows = "row 1 101 201 1 1 1" ∷ "row 2 102 202 0 1 1" ∷ "row 3 103 203 -1 1 1" ∷ [];
    }
