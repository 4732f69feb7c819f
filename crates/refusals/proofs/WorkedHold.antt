-- The worked cases hold: each is decided by computing, and that of a room too short by its law.
use mathlib.Core.Path.{refl}
use native.Mathlib.Omega.{arith}
use Rattle.refusals.specs.Table.{table}
use Rattle.refusals.specs.FirstMet.{first_fault_to}
use Rattle.refusals.specs.WorkedCases.{WorkedCases}
use Rattle.refusals.proofs.GivenLaws.{short-given}

pub worked-hold : WorkedCases
unfolding first_fault_to table
worked-hold =
    record {
      numbers = refl;
      nothing-refused = refl;
      first-decides = refl;
      finding-decides = refl;
      front-decides = refl;
      exact-room = record { finding-is = refl; output-is = refl };
      no-room-needed = record { finding-is = refl; output-is = refl };
      one-byte-less = short-given _ _ _ refl (omega arith);
      bytes_past = record { finding-is = refl; output-is = refl };
      refused-leaves = record { finding-is = refl; output-is = refl };
      nine-last = record { finding-is = refl; output-is = refl };
      length-told = record { length-is = refl; output-is = refl };
      short-length = record { length-is = refl; output-is = refl };
      refused-length = record { length-is = refl; output-is = refl };
    }
