-- A number cut to its field: where it fits it stays, and a test against a range or a number that the field holds finds
-- the same, for 0 is below each range that begins with 1, and the longest number is above each that begins with 0. So
-- the tests of a step, and those of a window's first, last and limit, are those of the step and the window that were
-- cut.
use Prim.Native.Nat.{ℕ, min, ◌≤◌, ◌<◌}
use mathlib.Core.Bool.{true, cond}
use mathlib.Core.Path.{◌≡◌, ap, ap₂, sym, ◌∙◌}
use native.Mathlib.Decide.{dec_lt}
use native.Mathlib.Nat.{min-eq_left}
use native.Mathlib.Omega.{arith}
use borrow.Author.Tests.{lt-ltb, le-ltb, le-leb, lt-leb, ne_eqb}
use lib.Dec.{eqb, ltb}
use Rattle.load.specs.declared.Step.{Step}
use Rattle.load.specs.declared.Window.{Window}
use Rattle.load.specs.Faults.{outside}
use Rattle.sheet.specs.inner.Narrow.{most16, or_zero, narrow_step, narrow_window}

module _ (most n : ℕ) where
  pub or_zero-fits : n ≤ most → or_zero most n ≡ n
  or_zero-fits h = ap (λ t. cond t n 0) (le-leb n most h)

  or_zero-wide : most < n → or_zero most n ≡ 0
  or_zero-wide h = ap (λ t. cond t n 0) (lt-leb n most h)

  -- a range from 1 on
  pub outside-cut : (last : ℕ) → last ≤ most → outside 1 last (or_zero most n) ≡ outside 1 last n
  outside-cut last fits =
      elim (dec_lt most n) [
        | no h ↦ ap (outside 1 last) (or_zero-fits (omega arith))
        | yes h ↦ ap (outside 1 last) (or_zero-wide h) ∙ sym (wide h)
      ]
    where
      wide : most < n → outside 1 last n ≡ true
      wide h = rw (le-ltb n 1 (omega arith), lt-ltb last n (omega arith))

  -- one number that the field holds, and that is not 0
  pub equal-cut : (one : ℕ) → 1 ≤ one → one ≤ most → eqb (or_zero most n) one ≡ eqb n one
  equal-cut one least fits =
      elim (dec_lt most n) [
        | no h ↦ ap (λ x. eqb x one) (or_zero-fits (omega arith))
        | yes h ↦
            ap (λ x. eqb x one) (or_zero-wide h)
            ∙ ne_eqb 0 one (λ e. omega arith)
            ∙ sym (ne_eqb n one (λ e. omega arith))
      ]

  -- a range from 0 on
  pub above-cut : (last : ℕ) → last < most → ltb last (min n most) ≡ ltb last n
  above-cut last fits =
      elim (dec_lt most n) [
        | no h ↦ ap (ltb last) (min-eq_left (omega arith))
        | yes h ↦ lt-ltb last (min n most) (omega arith) ∙ sym (lt-ltb last n (omega arith))
      ]

-- a step that fits
pub narrow_step-fits : (s : Step) → s.cost ≤ most16 → s.wait ≤ most16 → narrow_step s ≡ s
narrow_step-fits s c w =
    ap₂ (λ c w. record { cost = c; wait = w }) (or_zero-fits most16 s.cost c) (min-eq_left w)

-- a window that fits
pub narrow_window-fits : (w : Window) → w.limit ≤ most16 → narrow_window w ≡ w
narrow_window-fits w h =
    ap (λ limit. record { first = w.first; last = w.last; limit = limit }) (or_zero-fits most16 w.limit h)
