-- Demand 3 is not empty: its premises hold of loads of document 01, and each has a run. A has waits
-- and B has windows. To be read after Demand3 and AllLoads.
use Rattle.std.specs.Prelude.{Ok}
use Rattle.load.specs.declared.Load.{Load}
use Rattle.load_file.specs.Calls.{ReadLoad}
use Rattle.demands.specs.LoadA.{load_a}
use Rattle.demands.specs.LoadB.{load_b}
use Rattle.demands.specs.Demand3.{Run, RunKept}
use Rattle.demands.specs.Notation.{bytes_of}

-- demand 3 of loads A and B
pub record WorkedRuns : Type 0 where
  -- load A
  pub run-a : Run load_a.load
  pub kept-a : RunKept load_a.load run-a
  -- what its file reads to, which it does
  pub read-file-a : ReadLoad (bytes_of load_a.file) (Ok load_a.load)
  pub kept-file-a : (load : Load) → ReadLoad (bytes_of load_a.file) (Ok load)
      → (run : Run load) → RunKept load run
  -- load B
  pub run-b : Run load_b.load
  pub kept_b : RunKept load_b.load run-b
