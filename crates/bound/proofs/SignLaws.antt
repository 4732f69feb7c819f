-- Signed numbers: a deadline less a bound is one of 32 bits, and the test against 0 says whether one is negative.
use Prim.Native.Nat.{ℕ, zero, suc, ◌-◌, ◌≤◌, zero-le}
use mathlib.Core.Bool.{Bool, true, false, cond}
use mathlib.Core.List.{List, [], ◌∷◌}
use mathlib.Core.Path.{◌≡◌, refl}
use native.Mathlib.Omega.{arith}
use borrow.Author.Tests.{le-ltb}
use lib.Dec.{ltb}
use lib.IntN.{ℤ, pos, negsuc, ◌-ℤ◌}
use lib.ListN.{get_or}
use lib.Signed.{lt_z}
use mir.Syntax.{w32}
use mir.Val.{Val, SFits}
use denote.Array.{each}
use denote.Shadow.{shadow}
use denote.Signed.{SInt}
use Rattle.load.specs.Load.{last_moment}
use Rattle.rules.specs.Margins.{is_negative}

pub difference-fits : (d b : ℕ) → d ≤ last_moment → b ≤ last_moment → SFits w32 (pos d -ℤ pos b)
difference-fits d zero h k = record { sfits = omega arith }
difference-fits d (suc b) h k = go (ltb d (suc b)) refl
  where
    go : (t : Bool) → ltb d (suc b) ≡ t → SFits w32 (cond t (negsuc (suc b - suc d)) (pos (d - suc b)))
    go true e = record { sfits = omega arith }
    go false e = record { sfits = omega arith }

pub is_negative-test : (z : ℤ) → lt_z z (pos 0) ≡ is_negative z
is_negative-test (pos n) = le-ltb n 0 zero-le
is_negative-test (negsuc n) = refl

-- what owning an array of them tells of each, and 0 past the end fits too
pub each_fits : (zs : List ℤ) (us : List Val) (i : ℕ) → shadow (each ℤ (SInt w32).own_val zs us)
    → SFits w32 (get_or zs i (pos 0))
each_fits [] us i p = record { sfits = omega arith }
each_fits (z ∷ zs) [] i p = absurd p
each_fits (z ∷ zs) (u ∷ us) zero p = record { sfits = p.0.1 }
each_fits (z ∷ zs) (u ∷ us) (suc i) p = each_fits zs us i p.1
