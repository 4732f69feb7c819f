-- "Loads to try", B: 2 w4 2 (window 1 to 2, limit 8) / 3 / 2 w1 1 (window 1 to 2, limit 6), and B
-- with another limit for row 1's window. Rests on D27.
use Rattle.std.specs.Prelude.{ℕ, true, List, [], ◌∷◌, pos, Ok}
use Prim.Native.String.{String}
use Rattle.load.specs.declared.Load.{Load}
use Rattle.load.specs.Notation.{◌w◌, window, row, load_of}
use Rattle.rules.specs.declared.Outcome.TheVariants.{Start, Done}
use Rattle.rules.specs.WorkedStates.{slot}
use Rattle.demands.specs.LoadsToTry.{Sound}

-- B with a limit for row 1's window, which its record spells
abbrev pub file_b : String → List String
file_b window₁ =
    "4C44 01 03"
    ∷ "5257 65000000 C9000000 00000000 40420F00 02 01"
    ∷ "5354 0200 0400"
    ∷ "5354 0200 0000"
    ∷ window₁
    ∷ "5257 66000000 CA000000 00000000 40420F00 01 00"
    ∷ "5354 0300 0000"
    ∷ "5257 67000000 CB000000 00000000 40420F00 02 01"
    ∷ "5354 0200 0100"
    ∷ "5354 0100 0000"
    ∷ "574E 01 02 0600"
    ∷ "454E 0500"
    ∷ []

-- B with a limit for row 1's window
abbrev pub in_memory_b : ℕ → Load
in_memory_b limit =
    load_of
    (row 1 (2 w 4 ∷ 2 w 0 ∷ []) (window 1 2 limit ∷ [])
    ∷ row 2 (3 w 0 ∷ []) []
    ∷ row 3 (2 w 1 ∷ 1 w 0 ∷ []) (window 1 2 6 ∷ [])
    ∷ [])

-- bound 15; starts 0, 2, then row 1 at 6, row 3 at 8 and 11; end 12
unfoldable pub load_b : Sound
load_b =
    record {
      file = file_b "574E 01 02 0800";
      load = in_memory_b 8;
      answers = record {
        bound_of = 15;
        row-bounds = 15 ∷ 15 ∷ 15 ∷ [];
        margins-of = pos 999985 ∷ pos 999985 ∷ pos 999985 ∷ [];
        verdict-of = true;
        slots = slot 0 1 1 ∷ slot 2 2 1 ∷ slot 6 1 2 ∷ slot 8 3 1 ∷ slot 11 3 2 ∷ [];
        end = 12;
        finding = Ok tt;
      };
      glimpses =
          record { moves = 0; outcome = Start (slot 0 1 1); clock = 2; lamps = 1; count = 1 }
          ∷ record { moves = 7; outcome = Done; clock = 12; lamps = 0; count = 0 }
          ∷ [];
      margin-bytes = "31420F00" ∷ "31420F00" ∷ "31420F00" ∷ [];
      schedule-file = "5343 0500"
          ∷ "534C 01 01 00000000"
          ∷ "534C 02 01 02000000"
          ∷ "534C 01 02 06000000"
          ∷ "534C 03 01 08000000"
          ∷ "534C 03 02 0B000000"
          ∷ [];
      lines = "load 3 5 12 15 yes"
          ∷ "row 1 101 201 999985"
          ∷ "row 2 102 202 999985"
          ∷ "row 3 103 203 999985"
          ∷ "slot 0 1 1"
          ∷ "slot 2 2 1"
          ∷ "slot 6 1 2"
          ∷ "slot 8 3 1"
          ∷ "slot 11 3 2"
          ∷ [];
      blamed-rows = "row 1 101 201 999985 0 0"
          ∷ "row 2 102 202 999985 0 0"
          ∷ "row 3 103 203 999985 0 0"
          ∷ [];
    }
