-- Request 2026-05: load A with classes 0 0 3, as a file of version 2. Of the steps of one number
-- row 3's goes first; bound and margins are A's. The second program has the same answers. Rests on
-- D92 and D93.
use Rattle.std.specs.Prelude.{false, [], ◌∷◌, pos, negsuc, Ok}
use Rattle.load.specs.Notation.{◌w◌, row_by, classed, load_of}
use Rattle.rules.specs.declared.Outcome.TheVariants.{Start, Idle, Done}
use Rattle.rules.specs.WorkedStates.{slot}
use Rattle.demands.specs.LoadsToTry.{Sound}

-- load A, and row 3 urgent
unfoldable pub load_urgent : Sound
load_urgent =
    record {
      file = "4C44 02 03"
          ∷ "5257 65000000 C9000000 00000000 14000000 02 00 00 01"
          ∷ "5354 0200 0A00"
          ∷ "5354 0300 0000"
          ∷ "5257 66000000 CA000000 00000000 13000000 02 00 00 01"
          ∷ "5354 0100 0400"
          ∷ "5354 0200 0000"
          ∷ "5257 67000000 CB000000 00000000 12000000 02 00 03 01"
          ∷ "5354 0200 0300"
          ∷ "5354 0100 0000"
          ∷ "454E 0600"
          ∷ [];
      load =
          load_of
          (row_by 1 0 20 (2 w 10 ∷ 3 w 0 ∷ []) []
          ∷ row_by 2 0 19 (1 w 4 ∷ 2 w 0 ∷ []) []
          ∷ classed 3 1 (row_by 3 0 18 (2 w 3 ∷ 1 w 0 ∷ []) [])
          ∷ []);
      answers = record {
        bound_of = 19;
        row-bounds = 19 ∷ 19 ∷ 19 ∷ [];
        margins-of = pos 1 ∷ pos 0 ∷ negsuc 0 ∷ [];
        verdict-of = false;
        slots =
            slot 0 3 1 ∷ slot 2 1 1 ∷ slot 4 2 1 ∷ slot 5 3 2 ∷ slot 9 2 2 ∷ slot 14 1 2 ∷ [];
        end = 17;
        finding = Ok tt;
      };
      glimpses =
          record { moves = 0; outcome = Start (slot 0 3 1); clock = 2; lamps = 0; count = 0 }
          ∷ record { moves = 4; outcome = Idle; clock = 7; lamps = 0; count = 0 }
          ∷ record { moves = 12; outcome = Done; clock = 17; lamps = 0; count = 0 }
          ∷ [];
      margin-bytes = "01000000" ∷ "00000000" ∷ "FFFFFFFF" ∷ [];
      schedule-file = "5343 0600"
          ∷ "534C 03 01 00000000"
          ∷ "534C 01 01 02000000"
          ∷ "534C 02 01 04000000"
          ∷ "534C 03 02 05000000"
          ∷ "534C 02 02 09000000"
          ∷ "534C 01 02 0E000000"
          ∷ [];
      lines = "load 3 6 17 19 no"
          ∷ "row 1 101 201 1"
          ∷ "row 2 102 202 0"
          ∷ "row 3 103 203 -1"
          ∷ "slot 0 3 1"
          ∷ "slot 2 1 1"
          ∷ "slot 4 2 1"
          ∷ "slot 5 3 2"
          ∷ "slot 9 2 2"
          ∷ "slot 14 1 2"
          ∷ [];
      blamed-rows = "row 1 101 201 1 1 1" ∷ "row 2 102 202 0 1 1" ∷ "row 3 103 203 -1 1 1" ∷ [];
    }
