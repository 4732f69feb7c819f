-- "Loads to try", those refused: B with limit 7, and two rows with one identifier, with two boxes
-- and with one. And the factory identifier, "even when alone" (2026-04).
use Rattle.std.specs.Prelude.{ℕ, List, [], ◌∷◌}
use Prim.Native.String.{String}
use Rattle.refusals.specs.declared.Refusal.TheVariants.{
  IdentifierTaken,
  LimitBelowChain,
  FactoryIdentifier,
}
use Rattle.load.specs.declared.Load.{Load}
use Rattle.load.specs.Load.{last_moment}
use Rattle.load.specs.Notation.{◌w◌, row_with, load_of}
use Rattle.demands.specs.LoadsToTry.{Faulty}
use Rattle.demands.specs.LoadB.{file_b, in_memory_b}

-- B with limit 7: refusal 7
unfoldable pub load_b7 : Faulty
load_b7 =
    record {
      file = file_b "574E 01 02 0700";
      load = in_memory_b 7;
      refusal = LimitBelowChain;
      number = 7;
      lines = "refused 7" ∷ [];
    }

-- two rows with one identifier, the second in a box
abbrev pub twins : ℕ → Load
twins box₂ =
    load_of
    (row_with 101 201 0 last_moment (1 w 0 ∷ []) []
    ∷ row_with 101 box₂ 0 last_moment (1 w 0 ∷ []) []
    ∷ [])

-- their file, with the second row's record
abbrev pub twins_file : String → List String
twins_file row₂ =
    "4C44 01 02"
    ∷ "5257 65000000 C9000000 00000000 40420F00 01 00"
    ∷ "5354 0100 0000"
    ∷ row₂
    ∷ "5354 0100 0000"
    ∷ "454E 0200"
    ∷ []

-- two rows with one identifier: refusal 4
unfoldable pub load_twins : Faulty
load_twins =
    record {
      file = twins_file "5257 65000000 CA000000 00000000 40420F00 01 00";
      load = twins 202;
      refusal = IdentifierTaken;
      number = 4;
      lines = "refused 4" ∷ [];
    }

-- and 4 also when the boxes agree too
unfoldable pub load_twins_in_one_box : Faulty
load_twins_in_one_box =
    record {
      file = twins_file "5257 65000000 C9000000 00000000 40420F00 01 00";
      load = twins 201;
      refusal = IdentifierTaken;
      number = 4;
      lines = "refused 4" ∷ [];
    }

-- one row with the factory identifier: refusal 21
unfoldable pub load_factory : Faulty
load_factory =
    record {
      file =
          "4C44 01 01"
          ∷ "5257 FFFFFFFF C9000000 00000000 40420F00 01 00"
          ∷ "5354 0100 0000"
          ∷ "454E 0100"
          ∷ [];
      load = load_of (row_with 4294967295 201 0 last_moment (1 w 0 ∷ []) [] ∷ []);
      refusal = FactoryIdentifier;
      number = 21;
      lines = "refused 21" ∷ [];
    }
