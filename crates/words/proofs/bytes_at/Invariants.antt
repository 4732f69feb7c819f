-- `words::bytes_at` takes the bytes that are there one a turn where not all of them are.
use Prim.Native.Nat.{ℕ, ◌<◌}
use mathlib.Core.Path.{◌≡◌}
use lib.ListN.{length, get_or}
use Rattle.words.specs.LittleEndian.{byte_at}
use Rattle.words.proofs.bytes_at.Given as goal

abbrev pub invariant-loop-k : goal.invariant-loop-k
invariant-loop-k g l =
    (length l.byte-items ≡ g.row.SIZE) × ((i : ℕ) → i < l.k → get_or l.byte-items i 0 ≡ byte_at l.rest i)
