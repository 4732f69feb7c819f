-- "Two on different days meet in the archive. Refuse it even when alone, in files, sheets and loads
-- in memory" (2026-04): what is accepted has no row under the factory identifier, so no two racks
-- meet under it. To be read after PublicCalls. Rests on D91.
use Rattle.std.specs.Prelude.{ℕ, List, Ok}
use Rattle.words.specs.LittleEndian.{Bytes}
use Rattle.load.specs.declared.Load.{Load}
use Rattle.load.specs.Acceptable.{WithoutFactory}
use Rattle.load.specs.Calls.{CheckLoad}
use Rattle.load_file.specs.Calls.{ReadLoad}
use Rattle.sheet.specs.Calls.{ReadSheet}

-- nothing accepted has it
pub record NoFactory : Type 0 where
  -- a load in memory
  pub in_memory : (load : Load) → CheckLoad load (Ok tt) → WithoutFactory load
  -- a file
  pub in-files : (bs : List ℕ) (load : Load) → Bytes bs → ReadLoad bs (Ok load)
      → WithoutFactory load
  -- a sheet
  pub in-sheets : (bs : List ℕ) (load : Load) → Bytes bs → ReadSheet bs (Ok load)
      → WithoutFactory load
