-- `count_below` adds two tests, each of which is a bit.
use Prim.Native.Nat.{◌+◌, ◌≤◌}
use mathlib.Core.Bool.{Bool}
use native.Mathlib.Omega.{arith}
use lib.Dec.{ltb}
use mir.Val.{bool_byte}
use Rattle.load.specs.Load.{step_at}
use Rattle.bound.proofs.FlagLaws.{bool_byte-bit, bit_le}
use Rattle.bound.proofs.smallest.count_below.Goals as goal
use Rattle.bound.proofs.smallest.count_below.Goals.{Start}

-- the two tests
abbrev here-test : Start → Bool
here-test c = ltb (step_at c.args.row.now c.args.j).cost c.args.t

abbrev next-test : Start → Bool
next-test c = ltb (step_at c.args.row.now (c.args.j + 1)).cost c.args.t

-- each adds at most 1
two-le : (a b : Bool) → bool_byte a + bool_byte b ≤ 2
two-le a b = omega (arith, bool_byte-bit a, bool_byte-bit b, bit_le a, bit_le b)

pub overflow_add-result : goal.overflow_add-result
overflow_add-result c =
    omega (
      arith,
      two-le (here-test (goal.at.overflow_add-result c).Start)
          (next-test (goal.at.overflow_add-result c).Start),
    )

pub returns : goal.returns
returns c =
    let a = here-test (goal.at.returns c).Start in
    let b = next-test (goal.at.returns c).Start in
    (omega (arith, bool_byte-bit a, bool_byte-bit b), omega (arith, two-le a b))
