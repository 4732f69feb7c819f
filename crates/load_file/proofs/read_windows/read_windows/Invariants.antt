-- `read_windows` reads one window a turn: before turn k no fault is found in the first k, they are kept, and the last
-- step of the one before is known.
use Rattle.std.proofs.Common.{◌≡◌}
use Rattle.std.specs.Prelude.{Ok}
use Rattle.refusals.specs.FirstMet.{first_fault_to}
use Rattle.load_file.specs.Reading.{window_fault_in}
use Rattle.load_file.specs.inner.ReadingSteps.{windows_from, last_in}
use Rattle.load_file.proofs.read_windows.read_windows.Given as goal

abbrev pub invariant-loop-k : goal.invariant-loop-k
invariant-loop-k l =
    record {
      no_fault : first_fault_to (window_fault_in l.bytes l.fn.at) l.k ≡ Ok tt;
      read : l.kept ≡ windows_from l.bytes l.from l.k;
      known : l.before ≡ last_in l.bytes l.from l.k;
    }
