-- "Loads to try", as route sheets: those that are proved, each with its lines. To be read after
-- AllLoads and sheet's WorkedSheets.
use Rattle.std.specs.Prelude.{ℕ, List, [], ◌∷◌, ◌≡◌}
use Prim.Native.String.{String}
use Rattle.refusals.specs.Refusals.{number_given}
use Rattle.load.specs.declared.Load.{Load}
use Rattle.load_file.specs.RoundTrip.{accepted}
use Rattle.sheet.specs.Reading.{sheet_fault, read_sheet}
use Rattle.sheet.specs.Writing.{sheet_bytes}
use Rattle.sheet.specs.WorkedSheets.{sheet_of}
use Rattle.demands.specs.LoadA.{load_a}
use Rattle.demands.specs.LoadB.{load_b}
use Rattle.demands.specs.LoadB9.{load_b9}
use Rattle.demands.specs.LoadPhase.{load_phase8, load_phase7}
use Rattle.demands.specs.SmallLoads.{load_unequal, load_waits0, load_empty}

-- A's sheet, 115 bytes
unfoldable pub sheet_a : List ℕ
sheet_a =
    sheet_of
    ("101,201,0,20,2,10,"
    ∷ "101,201,0,20,3,0,"
    ∷ "102,202,0,19,1,4,"
    ∷ "102,202,0,19,2,0,"
    ∷ "103,203,0,18,2,3,"
    ∷ "103,203,0,18,1,0,"
    ∷ [])

-- B's lines with those of row 1's window
abbrev pub lines_b : String → List String
lines_b opening =
    opening
    ∷ "101,201,0,1000000,2,0,-"
    ∷ "102,202,0,1000000,3,0,"
    ∷ "103,203,0,1000000,2,1,6"
    ∷ "103,203,0,1000000,1,0,-"
    ∷ []

-- a load and its sheet
pub record Exported (load : Load) (sheet : List ℕ) : Type 0 where
  -- the load is exported as these bytes
  pub exports : sheet_bytes load ≡ sheet
  -- which are read as that load
  pub reads : read_sheet sheet ≡ accepted load

-- the loads to try, as sheets
pub record SheetsToTry : Type 0 where
  pub a : Exported load_a.load sheet_a
  pub b : Exported load_b.load (sheet_of (lines_b "101,201,0,1000000,2,4,8"))
  pub b9 : Exported load_b9.load (sheet_of (lines_b "101,201,0,1000000,2,4,9"))
  pub phase8 : Exported load_phase8.load (sheet_of ("101,201,5,8,3,0," ∷ []))
  pub phase7 : Exported load_phase7.load (sheet_of ("101,201,5,7,3,0," ∷ []))
  pub unequal :
      Exported
      load_unequal.load
      (sheet_of
      ("101,201,0,1000000,1,0,"
      ∷ "102,202,0,1000000,2,6,"
      ∷ "102,202,0,1000000,2,0,"
      ∷ []))
  pub waits0 :
      Exported
      load_waits0.load
      (sheet_of
      ("101,201,0,1000000,1,0,"
      ∷ "101,201,0,1000000,1,0,"
      ∷ "102,202,0,1000000,1,0,"
      ∷ "102,202,0,1000000,1,0,"
      ∷ []))
  pub no_rows : Exported load_empty.load []
  -- B with limit 7 is refused with 7
  pub b7 : number_given (sheet_fault (sheet_of (lines_b "101,201,0,1000000,2,4,7"))) ≡ 7
  -- the factory identifier is refused with 21
  pub factory : number_given (sheet_fault (sheet_of ("4294967295,201,0,1000000,1,0," ∷ []))) ≡ 21
  -- adjacent lines with one identifier are one row: two loggers that share one are told by box,
  -- phase or deadline, and where all three agree the lines are steps of one logger
  pub twins :
      number_given
      (sheet_fault (sheet_of ("101,201,0,1000000,1,0," ∷ "101,202,0,1000000,1,0," ∷ [])))
      ≡ 19
  -- and 4 is given where another row stands between them
  pub twins-apart :
      number_given
      (sheet_fault
      (sheet_of
      ("101,201,0,1000000,1,0,"
      ∷ "102,202,0,1000000,1,0,"
      ∷ "101,203,0,1000000,1,0,"
      ∷ [])))
      ≡ 4
