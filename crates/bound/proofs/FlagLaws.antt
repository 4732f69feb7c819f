-- A flag cast to a number is its bit, which is at most 1.
use Prim.Native.Nat.{◌≤◌}
use mathlib.Core.Bool.{Bool, true, false}
use mathlib.Core.Path.{◌≡◌, refl}
use native.Mathlib.Omega.{arith}
use mir.Val.{bool_byte}
use Rattle.counting.specs.Sums.{bit}

pub bool_byte-bit : (b : Bool) → bool_byte b ≡ bit b
bool_byte-bit true = refl
bool_byte-bit false = refl

pub bit_le : (b : Bool) → bit b ≤ 1
bit_le true = omega arith
bit_le false = omega arith
