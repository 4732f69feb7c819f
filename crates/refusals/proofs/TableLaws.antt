-- The table of refusals: each number lies in 1 to the last, and stands for one refusal only, as the refusal can be read
-- off the table at that number.
use Prim.Native.Nat.{ℕ, ◌≤◌, ◌<◌, ◌-◌}
use mathlib.Core.Path.{◌≡◌, refl, ap, sym, ◌∙◌}
use native.Mathlib.Decide.{dec_lt}
use native.Mathlib.Omega.{arith}
use lib.ListN.{get_or, get_or-eq_default}
use Rattle.refusals.specs.declared.Refusal.{Refusal}
use Rattle.refusals.specs.declared.Refusal.TheVariants as refusal
use Rattle.refusals.specs.Refusals.{number_of, last_number}
use Rattle.refusals.specs.Table.{table}

-- the refusal at a number, and at every other that of the first line
abbrev refusal_at : ℕ → Refusal
refusal_at n = get_or table (n - 1) refusal.FileShort

refusal_at-own : (r : Refusal) → refusal_at (number_of r) ≡ r
unfolding table
refusal_at-own refusal.FileShort = refl
refusal_at-own refusal.MarkDiffers = refl
refusal_at-own refusal.OutOfRange = refl
refusal_at-own refusal.IdentifierTaken = refl
refusal_at-own refusal.BoxTaken = refl
refusal_at-own refusal.WindowSteps = refl
refusal_at-own refusal.LimitBelowChain = refl
refusal_at-own refusal.EndDiffers = refl
refusal_at-own refusal.OutputShort = refl
refusal_at-own refusal.StateShape = refl
refusal_at-own refusal.ClockFull = refl
refusal_at-own refusal.SlotCount = refl
refusal_at-own refusal.NoSuchSlot = refl
refusal_at-own refusal.SlotOverlaps = refl
refusal_at-own refusal.SlotEarly = refl
refusal_at-own refusal.WindowLate = refl
refusal_at-own refusal.RowLate = refl
refusal_at-own refusal.LineMalformed = refl
refusal_at-own refusal.RowDiffers = refl
refusal_at-own refusal.WindowDash = refl
refusal_at-own refusal.FactoryIdentifier = refl
refusal_at-own refusal.NotCarried = refl

-- two refusals with one number are one
pub number_of-apart : (a b : Refusal) → number_of a ≡ number_of b → a ≡ b
number_of-apart a b e = sym (refusal_at-own a) ∙ ap refusal_at e ∙ refusal_at-own b

-- the table has as many lines as numbers, so that past the last number stands the first line
refusal_at-past : (n : ℕ) → last_number < n → refusal_at n ≡ refusal.FileShort
unfolding table
refusal_at-past n l = get_or-eq_default table refusal.FileShort {n = n - 1} (omega arith)

-- a refusal whose number is no line of the table would be the first line's, whose number is 1
pub number_of-least : (r : Refusal) → 1 ≤ number_of r
unfolding table
number_of-least r =
    elim (dec_lt 0 (number_of r)) [
      | yes l ↦ l
      | no l ↦
          let z : number_of r ≡ 0 = omega arith in
          let first : refusal.FileShort ≡ r = ap refusal_at (sym z) ∙ refusal_at-own r in
          rw (← first) (omega arith)
    ]

pub number_of-le : (r : Refusal) → number_of r ≤ last_number
number_of-le r =
    elim (dec_lt last_number (number_of r)) [
      | yes l ↦
          let first : refusal.FileShort ≡ r = sym (refusal_at-past (number_of r) l) ∙ refusal_at-own r in
          rw (← first) (omega arith)
      | no l ↦ omega arith
    ]
