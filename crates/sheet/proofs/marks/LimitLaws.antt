-- The limits among a row's marks: each is a window's, and there are no more of them than windows.
use Prim.Native.Nat.{ℕ, zero, suc, ◌+◌, ◌≤◌, ◌<◌}
use mathlib.Core.Bool.{Bool, true, false, cond}
use mathlib.Core.List.{List, [], ◌∷◌}
use mathlib.Core.Path.{◌≡◌, refl, ap}
use native.Mathlib.Decide.{ℕ_discrete}
use native.Mathlib.Omega.{arith}
use borrow.Author.Tests.{ne_eqb}
use lib.Dec.{eqb}
use lib.ListN.{length, get_or}
use Rattle.counting.specs.Sums.{sum_to, bit, count_to}
use Rattle.counting.proofs.sums.SumLaws.{sum_to-none, sum_to-mono, sum_to-add}
use Rattle.load.specs.declared.Window.{Window}
use Rattle.load.specs.Load.{shown, no_window}
use Rattle.load.specs.View.{in_window}
use Rattle.sheet_line.specs.declared.Mark.{Mark}
use Rattle.sheet_line.specs.declared.Mark.TheVariants.{Dash, Limit}
use Rattle.sheet_line.specs.LineText.{mark_among}
use Rattle.sheet.specs.LineFaults.{is_limit}

-- a limit among the marks is one of the windows'
pub limit-lt : (most : ℕ) (ws : List Window) → ((k : ℕ) → k < length ws → (get_or ws k no_window).limit < most)
    → (j limit : ℕ) → mark_among j ws ≡ Limit limit → limit < most
unfolding mark_among
limit-lt most [] h j limit e = absurd (let z : ◌≡◌ {A = ℕ} 0 1 = cc in omega arith)
limit-lt most (w ∷ ws) h j limit e =
    go (in_window (shown j) w) (eqb (shown j) w.first) (limit-lt most ws (λ k l. h (suc k) (omega arith)) j limit) e
  where
    go : (b c : Bool) → (mark_among j ws ≡ Limit limit → limit < most)
        → cond b (cond c (Limit w.limit) Dash) (mark_among j ws) ≡ Limit limit → limit < most
    go true true rest q = let s : w.limit ≡ limit = cc in omega (arith, h 0 (omega arith))
    go true false rest q = absurd (let z : ◌≡◌ {A = ℕ} 0 1 = cc in omega arith)
    go false c rest q = rest q

-- one step at most is the first of a window
firsts-le : (first n : ℕ) → count_to (λ j. eqb (shown j) first) n ≤ 1
unfolding sum_to
firsts-le first zero = omega arith
firsts-le first (suc n) =
    elim (ℕ_discrete (shown n) first) [
      | yes e ↦
          let none =
          sum_to-none (λ j. bit (eqb (shown j) first)) n
          (λ j l. ap bit (ne_eqb (shown j) first (λ q. omega arith))) in
          omega (arith, none, bit_le (eqb (shown n) first))
      | no e ↦ rw (ne_eqb (shown n) first e) (omega (arith, firsts-le first n))
    ]
  where
    bit_le : (b : Bool) → bit b ≤ 1
    bit_le true = omega arith
    bit_le false = omega arith

-- no more limits than windows
pub limits-le : (ws : List Window) (n : ℕ) → count_to (λ j. is_limit (mark_among j ws)) n ≤ length ws
unfolding mark_among
limits-le [] n = omega (arith, sum_to-none (λ j. 0) n (λ j l. refl))
limits-le (w ∷ ws) n =
    omega (
      arith,
      sum_to-mono (λ j. bit (is_limit (mark_among j (w ∷ ws))))
          (λ j. bit (eqb (shown j) w.first) + bit (is_limit (mark_among j ws)))
          n
          (λ j l. go (in_window (shown j) w) (eqb (shown j) w.first) (mark_among j ws)),
      sum_to-add (λ j. bit (eqb (shown j) w.first)) (λ j. bit (is_limit (mark_among j ws))) n,
      firsts-le w.first n,
      limits-le ws n,
    )
  where
    go : (b c : Bool) (m : Mark) → bit (is_limit (cond b (cond c (Limit w.limit) Dash) m)) ≤ bit c + bit (is_limit m)
    go true true m = omega arith
    go true false m = omega arith
    go false c m = omega arith
