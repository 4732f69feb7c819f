-- `bound::margin_bytes` writes the four bytes of one row a turn, behind those of the rows before it.
use Prim.Native.Nat.{ℕ}
use mathlib.Core.List.{List}
use mathlib.Core.Path.{◌≡◌}
use lib.IntN.{ℤ}
use lib.ListN.{length, replicate}
use lib.Seq.{sets}
use Rattle.counting.specs.Lists.{join_to}
use Rattle.words.specs.LittleEndian.{little_endian}
use Rattle.words.specs.TwosComplement.{twos_complement}
use Rattle.rules.specs.Margins.{margin_in}
use Rattle.bound.proofs.bytes.margin_bytes.Given as goal

-- the four bytes of row i
abbrev pub four : List ℤ → ℕ → List ℕ
four margins i = little_endian 4 (twos_complement 32 (margin_in margins i))

-- the output before it is written
unfoldable pub blank : List ℕ
blank = replicate 96 0

abbrev pub invariant-loop-i : goal.invariant-loop-i
invariant-loop-i l =
    (length l.bytes ≡ 96) × (l.bytes ≡ sets blank 0 (join_to (four l.fn.margins) l.i))
