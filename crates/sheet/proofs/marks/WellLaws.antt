-- Windows in ascending order behind a place, one by one as an induction meets them, and the mark of a step by where it
-- stands beside the first of them.
use Prim.Native.Nat.{ℕ, suc, ◌+◌, ◌*◌, ◌≤◌, ◌<◌}
use mathlib.Core.Bool.{false}
use mathlib.Core.List.{List, [], ◌∷◌}
use mathlib.Core.Path.{◌≡◌, refl, ap, ◌∙◌}
use native.Mathlib.Decide.{ℕ_discrete, dec_lt}
use native.Mathlib.Omega.{arith}
use borrow.Author.Tests.{le-leb, lt-leb, eq-eqb, ne_eqb}
use lib.ListN.{length}
use Rattle.load.specs.declared.Window.{Window}
use Rattle.load.specs.Load.{shown}
use Rattle.sheet_line.specs.declared.Mark.TheVariants.{Nothing, Dash, Limit}
use Rattle.sheet_line.specs.LineText.{mark_among}
use Rattle.sheet.specs.LineFaults.{is_dash}

-- a window of two steps or more, of so many, behind place a
pub record HeadWell (steps a : ℕ) (w : Window) : Type 0 where
  pub begins : a < w.first
  pub grows : w.first < w.last
  pub ends : w.last ≤ steps

-- windows of so many steps, all behind place a, each behind the one before
abbrev pub WellFrom : ℕ → ℕ → List Window → Type 0
WellFrom steps a [] = Unit
WellFrom steps a (w ∷ ws) = HeadWell steps a w × WellFrom steps w.last ws

-- where step j stands beside a window
pub data Beside (j : ℕ) (w : Window) : Type 0 where
  before : shown j < w.first → Beside j w
  first : shown j ≡ w.first → Beside j w
  later : w.first < shown j → shown j ≤ w.last → Beside j w
  behind : w.last < shown j → Beside j w

pub beside : (j : ℕ) (w : Window) → Beside j w
beside j w =
    elim (dec_lt (shown j) w.first) [
      | yes b ↦ before b
      | no b ↦
          elim (ℕ_discrete (shown j) w.first) [
            | yes e ↦ first e
            | no e ↦
                elim (dec_lt w.last (shown j)) [
                  | yes l ↦ behind l
                  | no l ↦ later (omega arith) (omega arith)
                ]
          ]
    ]

-- the mark of step j by where it stands beside the first window
module _ (j : ℕ) (w : Window) (ws : List Window) where
  pub mark-before : shown j < w.first → mark_among j (w ∷ ws) ≡ mark_among j ws
  unfolding mark_among
  mark-before h = rw (lt-leb w.first (shown j) h)

  pub mark-first : shown j ≡ w.first → w.first < w.last → mark_among j (w ∷ ws) ≡ Limit w.limit
  unfolding mark_among
  mark-first e l =
      rw (
        le-leb w.first (shown j) (omega arith),
        le-leb (shown j) w.last (omega arith),
        eq-eqb (shown j) w.first e,
      )

  pub mark-later : w.first < shown j → shown j ≤ w.last → mark_among j (w ∷ ws) ≡ Dash
  unfolding mark_among
  mark-later h l =
      rw (
        le-leb w.first (shown j) (omega arith),
        le-leb (shown j) w.last l,
        ne_eqb (shown j) w.first (λ e. omega arith),
      )

  pub mark-behind : w.last < shown j → w.first < w.last → mark_among j (w ∷ ws) ≡ mark_among j ws
  unfolding mark_among
  mark-behind h l =
      rw (le-leb w.first (shown j) (omega arith), lt-leb (shown j) w.last h)

-- no step up to place a is in a window that begins behind it
pub well-nothing : (steps a : ℕ) (ws : List Window) → WellFrom steps a ws → (j : ℕ) → shown j ≤ a
    → mark_among j ws ≡ Nothing
unfolding mark_among
well-nothing steps a [] h j l = refl
well-nothing steps a (w ∷ ws) h j l =
    mark-before j w ws (omega (arith, h.0.begins))
    ∙ well-nothing steps w.last ws h.1 j (omega (arith, h.0.begins, h.0.grows))

-- and the step behind it may begin one, but is no later step of one
pub well-no-dash : (steps a : ℕ) (ws : List Window) → WellFrom steps a ws → (j : ℕ) → shown j ≤ suc a
    → is_dash (mark_among j ws) ≡ false
unfolding mark_among
well-no-dash steps a [] h j l = refl
well-no-dash steps a (w ∷ ws) h j l =
    elim (ℕ_discrete (shown j) w.first) [
      | yes e ↦ ap is_dash (mark-first j w ws e h.0.grows)
      | no e ↦
          ap is_dash
          (mark-before j w ws (omega (arith, h.0.begins))
          ∙ well-nothing steps w.last ws h.1 j (omega (arith, h.0.begins, h.0.grows)))
    ]

-- windows behind a place are behind every earlier one
pub well-mono : (steps a b : ℕ) (ws : List Window) → a ≤ b → WellFrom steps b ws → WellFrom steps a ws
well-mono steps a b [] l h = tt
well-mono steps a b (w ∷ ws) l h =
    (record { begins = omega (arith, h.0.begins); grows = h.0.grows; ends = h.0.ends }, h.1)

-- each takes two steps
pub well-half : (steps a : ℕ) (ws : List Window) → a ≤ steps → WellFrom steps a ws → a + 2 * length ws ≤ steps
well-half steps a [] l h = omega arith
well-half steps a (w ∷ ws) l h =
    omega (arith, h.0.begins, h.0.grows, well-half steps w.last ws h.0.ends h.1)
