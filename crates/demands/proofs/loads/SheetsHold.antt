-- The loads to try hold as sheets: every claim is decided by computing.
use mathlib.Core.Path.{refl}
use Rattle.sheet.proofs.WorkedHold.{computing as computing_sheets}
use Rattle.demands.specs.LoadA.{load_a}
use Rattle.demands.specs.LoadB.{load_b}
use Rattle.demands.specs.LoadB9.{load_b9}
use Rattle.demands.specs.LoadPhase.{load_phase8, load_phase7}
use Rattle.demands.specs.SmallLoads.{load_unequal, load_waits0, load_empty}
use Rattle.demands.specs.SheetsToTry.{sheet_a, SheetsToTry}
use Rattle.demands.proofs.loads.Computing.{computing}

pub sheets-hold : SheetsToTry
unfolding computing computing_sheets load_a load_b load_b9 load_phase8 load_phase7 load_unequal load_waits0
    load_empty sheet_a
sheets-hold =
    record {
      a = record { exports = refl; reads = refl };
      b = record { exports = refl; reads = refl };
      b9 = record { exports = refl; reads = refl };
      phase8 = record { exports = refl; reads = refl };
      phase7 = record { exports = refl; reads = refl };
      unequal = record { exports = refl; reads = refl };
      waits0 = record { exports = refl; reads = refl };
      no_rows = record { exports = refl; reads = refl };
      b7 = refl;
      factory = refl;
      twins = refl;
      twins-apart = refl;
    }
