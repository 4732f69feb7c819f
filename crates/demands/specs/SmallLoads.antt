-- "Loads to try", the small ones: two rows of unequal length, two rows of waits 0, and no rows at
-- all.
use Rattle.std.specs.Prelude.{true, [], ◌∷◌, pos, Ok}
use Rattle.load.specs.Notation.{◌w◌, row, load_of}
use Rattle.rules.specs.declared.Outcome.TheVariants.{Done}
use Rattle.rules.specs.WorkedStates.{slot}
use Rattle.demands.specs.LoadsToTry.{Sound}

-- 1 / 2 w6 2: row bounds 3 and 11; starts 0, 1, 9; end 11
unfoldable pub load_unequal : Sound
load_unequal =
    record {
      file = "4C44 01 02"
          ∷ "5257 65000000 C9000000 00000000 40420F00 01 00"
          ∷ "5354 0100 0000"
          ∷ "5257 66000000 CA000000 00000000 40420F00 02 00"
          ∷ "5354 0200 0600"
          ∷ "5354 0200 0000"
          ∷ "454E 0300"
          ∷ [];
      load = load_of (row 1 (1 w 0 ∷ []) [] ∷ row 2 (2 w 6 ∷ 2 w 0 ∷ []) [] ∷ []);
      answers = record {
        bound_of = 11;
        row-bounds = 3 ∷ 11 ∷ [];
        margins-of = pos 999997 ∷ pos 999989 ∷ [];
        verdict-of = true;
        slots = slot 0 1 1 ∷ slot 1 2 1 ∷ slot 9 2 2 ∷ [];
        end = 11;
        finding = Ok tt;
      };
      glimpses = record { moves = 9; outcome = Done; clock = 11; lamps = 0; count = 0 } ∷ [];
      margin-bytes = "3D420F00" ∷ "35420F00" ∷ [];
      schedule-file = "5343 0300"
          ∷ "534C 01 01 00000000"
          ∷ "534C 02 01 01000000"
          ∷ "534C 02 02 09000000"
          ∷ [];
      lines = "load 2 3 11 11 yes"
          ∷ "row 1 101 201 999997"
          ∷ "row 2 102 202 999989"
          ∷ "slot 0 1 1"
          ∷ "slot 1 2 1"
          ∷ "slot 9 2 2"
          ∷ [];
      blamed-rows = "row 1 101 201 999997 0 0" ∷ "row 2 102 202 999989 1 2" ∷ [];
    }

-- 1 w0 1 / 1 w0 1: starts 0, 1, 2, 3; bound 4
unfoldable pub load_waits0 : Sound
load_waits0 =
    record {
      file = "4C44 01 02"
          ∷ "5257 65000000 C9000000 00000000 40420F00 02 00"
          ∷ "5354 0100 0000"
          ∷ "5354 0100 0000"
          ∷ "5257 66000000 CA000000 00000000 40420F00 02 00"
          ∷ "5354 0100 0000"
          ∷ "5354 0100 0000"
          ∷ "454E 0400"
          ∷ [];
      load = load_of (row 1 (1 w 0 ∷ 1 w 0 ∷ []) [] ∷ row 2 (1 w 0 ∷ 1 w 0 ∷ []) [] ∷ []);
      answers = record {
        bound_of = 4;
        row-bounds = 4 ∷ 4 ∷ [];
        margins-of = pos 999996 ∷ pos 999996 ∷ [];
        verdict-of = true;
        slots = slot 0 1 1 ∷ slot 1 2 1 ∷ slot 2 1 2 ∷ slot 3 2 2 ∷ [];
        end = 4;
        finding = Ok tt;
      };
      glimpses = record { moves = 4; outcome = Done; clock = 4; lamps = 0; count = 0 } ∷ [];
      margin-bytes = "3C420F00" ∷ "3C420F00" ∷ [];
      schedule-file = "5343 0400"
          ∷ "534C 01 01 00000000"
          ∷ "534C 02 01 01000000"
          ∷ "534C 01 02 02000000"
          ∷ "534C 02 02 03000000"
          ∷ [];
      lines = "load 2 4 4 4 yes"
          ∷ "row 1 101 201 999996"
          ∷ "row 2 102 202 999996"
          ∷ "slot 0 1 1"
          ∷ "slot 1 2 1"
          ∷ "slot 2 1 2"
          ∷ "slot 3 2 2"
          ∷ [];
      blamed-rows = "row 1 101 201 999996 0 0" ∷ "row 2 102 202 999996 0 0" ∷ [];
    }

-- no rows: bound 0, Done at once, verdict yes
unfoldable pub load_empty : Sound
load_empty =
    record {
      file = "4C44 01 00" ∷ "454E 0000" ∷ [];
      load = load_of [];
      answers = record {
        bound_of = 0;
        row-bounds = [];
        margins-of = [];
        verdict-of = true;
        slots = [];
        end = 0;
        finding = Ok tt;
      };
      glimpses = record { moves = 0; outcome = Done; clock = 0; lamps = 0; count = 0 } ∷ [];
      margin-bytes = [];
      schedule-file = "5343 0000" ∷ [];
      lines = "load 0 0 0 0 yes" ∷ [];
      blamed-rows = [];
    }
