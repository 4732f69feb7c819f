-- Signed numbers of any width without their sign: they fit the width, and the decimal of one below 0 has a minus sign.
use Prim.Native.Nat.{ℕ, suc, ◌^◌, ◌<◌}
use mathlib.Core.Bool.{true}
use mathlib.Core.List.{◌∷◌}
use mathlib.Core.Path.{◌≡◌, refl}
use native.Mathlib.Omega.{arith}
use borrow.Author.Tests.{ltb-true}
use lib.IntN.{ℤ, pos, negsuc, nat_abs}
use lib.Pow.{pow-lt}
use lib.Signed.{mag, lt_z}
use Rattle.words.specs.Decimal.{decimal, signed_decimal}

pub nat_abs-lt : (bits : ℕ) (z : ℤ) → mag z < 2 ^ bits → nat_abs z < 2 ^ suc bits
nat_abs-lt bits (pos n) h = omega (arith, pow-lt {i = bits} {j = suc bits} (omega arith))
nat_abs-lt bits (negsuc n) h = omega (arith, pow-lt {i = bits} {j = suc bits} (omega arith))

pub signed_decimal-negative : (z : ℤ) → lt_z z (pos 0) ≡ true → signed_decimal z ≡ 45 ∷ decimal (nat_abs z)
signed_decimal-negative (pos n) e = absurd (omega (arith, ltb-true n 0 e))
signed_decimal-negative (negsuc n) e = refl
