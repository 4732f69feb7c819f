-- Marks to the windows that they spell and back, and windows to their marks and back: the second by the first, since
-- windows with the same marks are the same.
use Prim.Native.Nat.{ℕ, suc, ◌-◌, ◌≤◌, ◌<◌}
use mathlib.Core.Bool.{true, false, ◌||◌}
use mathlib.Core.List.{List, [], ◌∷◌}
use mathlib.Core.Path.{◌≡◌, refl, ap, ap₂, sym, ◌∙◌}
use native.Mathlib.Decide.{ℕ_discrete, dec_lt}
use native.Mathlib.Omega.{arith}
use Rattle.counting.proofs.tests.TestLaws.{true-false}
use Rattle.load.specs.declared.Window.{Window}
use Rattle.load.specs.Load.{shown}
use Rattle.sheet_line.specs.declared.Mark.{Mark}
use Rattle.sheet_line.specs.declared.Mark.TheVariants.{Nothing, Limit}
use Rattle.sheet_line.specs.LineText.{mark_among}
use Rattle.sheet.specs.LineFaults.{is_dash, is_limit}
use Rattle.sheet.specs.SheetRows.{windows_of}
use Rattle.sheet.specs.inner.Narrow.{Marked}
use Rattle.sheet.proofs.marks.WellLaws.{
  WellFrom,
  Beside,
  before,
  first,
  later,
  behind,
  beside,
  mark-before,
  mark-first,
  mark-later,
  mark-behind,
  well-nothing,
  well-mono,
  well-no-dash,
}
use Rattle.sheet.proofs.marks.SpelledLaws.{windows_of-spells}
use Rattle.sheet.proofs.marks.WindowLaws.{WindowsWell, well-from}

-- the windows that marks spell give back the marks
pub marks-back : (mark : ℕ → Mark) (steps : ℕ) → Marked mark steps → (j : ℕ) → j < steps
    → mark_among j (windows_of mark steps) ≡ mark j
marks-back mark steps marked = (windows_of-spells mark steps marked).marks

module _ (steps : ℕ) where
  -- before a dash stands a limit or a dash
  before-dash : (a : ℕ) (ws : List Window) → WellFrom steps a ws → (j : ℕ) → is_dash (mark_among (suc j) ws) ≡ true
      → (is_limit (mark_among j ws) || is_dash (mark_among j ws)) ≡ true
  unfolding mark_among
  before-dash a [] h j e = absurd (true-false false e refl)
  before-dash a (w ∷ ws) h j e = go h.0.grows (before-dash w.last ws h.1 j) (beside (suc j) w)
    where
      go : w.first < w.last
          → (is_dash (mark_among (suc j) ws) ≡ true → (is_limit (mark_among j ws) || is_dash (mark_among j ws)) ≡ true)
          → Beside (suc j) w
          → (is_limit (mark_among j (w ∷ ws)) || is_dash (mark_among j (w ∷ ws))) ≡ true
      go grows later-windows (before b) =
          absurd
          (true-false (is_dash (mark_among (suc j) (w ∷ ws))) e
          (ap is_dash (mark-before (suc j) w ws b ∙ well-nothing steps w.last ws h.1 (suc j) (omega arith))))
      go grows later-windows (first b) =
          absurd
          (true-false (is_dash (mark_among (suc j) (w ∷ ws))) e (ap is_dash (mark-first (suc j) w ws b grows)))
      go grows later-windows (later b c) =
          elim (ℕ_discrete (shown j) w.first) [
            | yes q ↦ ap (λ m. is_limit m || is_dash m) (mark-first j w ws q grows)
            | no q ↦ ap (λ m. is_limit m || is_dash m) (mark-later j w ws (omega arith) (omega arith))
          ]
      go grows later-windows (behind b) =
          let here = ap is_dash (mark-behind (suc j) w ws b grows) in
          elim (ℕ_discrete (shown j) w.last) [
            | yes q ↦
                absurd
                (true-false (is_dash (mark_among (suc j) (w ∷ ws))) e
                (here ∙ well-no-dash steps w.last ws h.1 (suc j) (omega arith)))
            | no q ↦
                ap (λ m. is_limit m || is_dash m) (mark-behind j w ws (omega arith) grows)
                ∙ later-windows (sym here ∙ e)
          ]

  -- behind a limit stands a dash
  behind-limit : (a : ℕ) (ws : List Window) → WellFrom steps a ws → (j : ℕ) → is_limit (mark_among j ws) ≡ true
      → (suc j < steps) × (is_dash (mark_among (suc j) ws) ≡ true)
  unfolding mark_among
  behind-limit a [] h j e = absurd (true-false false e refl)
  behind-limit a (w ∷ ws) h j e = go h.0.grows h.0.ends (behind-limit w.last ws h.1 j) (beside j w)
    where
      go : w.first < w.last → w.last ≤ steps
          → (is_limit (mark_among j ws) ≡ true → (suc j < steps) × (is_dash (mark_among (suc j) ws) ≡ true))
          → Beside j w → (suc j < steps) × (is_dash (mark_among (suc j) (w ∷ ws)) ≡ true)
      go grows ends later-windows (before b) =
          absurd
          (true-false (is_limit (mark_among j (w ∷ ws))) e
          (ap is_limit (mark-before j w ws b ∙ well-nothing steps w.last ws h.1 j (omega arith))))
      go grows ends later-windows (first b) =
          (omega arith, ap is_dash (mark-later (suc j) w ws (omega arith) (omega arith)))
      go grows ends later-windows (later b c) =
          absurd (true-false (is_limit (mark_among j (w ∷ ws))) e (ap is_limit (mark-later j w ws b c)))
      go grows ends later-windows (behind b) =
          let r = later-windows (sym (ap is_limit (mark-behind j w ws b grows)) ∙ e) in
          (r.0, ap is_dash (mark-behind (suc j) w ws (omega arith) grows) ∙ r.1)

  -- of two chains with the same marks neither begins before the other
  module _ (a : ℕ) (w v : Window) (ws vs : List Window) (h : WellFrom steps a (w ∷ ws)) (g : WellFrom steps a (v ∷ vs))
      (same : (j : ℕ) → j < steps → mark_among j (w ∷ ws) ≡ mark_among j (v ∷ vs)) where
    first-le : w.first ≤ v.first
    first-le =
        elim (dec_lt v.first w.first) [
          | no b ↦ omega arith
          | yes b ↦
              let j : ℕ = v.first - 1 in
              let front : WellFrom steps (w.first - 1) (w ∷ ws) =
              (record { begins = omega arith; grows = h.0.grows; ends = h.0.ends }, h.1) in
              let none = well-nothing steps (w.first - 1) (w ∷ ws) front j (omega (arith, g.0.begins)) in
              let limit = mark-first j v vs (omega (arith, g.0.begins)) g.0.grows in
              let e = same j (omega (arith, g.0)) in
              absurd (true-false (is_limit (mark_among j (v ∷ vs))) (ap is_limit limit) (ap is_limit (sym e ∙ none)))
        ]

    -- nor ends before it, where they begin together
    last-le : w.first ≡ v.first → v.last ≤ w.last
    last-le f =
        elim (dec_lt w.last v.last) [
          | no b ↦ omega arith
          | yes b ↦
              let j : ℕ = w.last in
              let dash = mark-later j v vs (omega (arith, h.0.grows)) (omega arith) in
              let none =
              ap is_dash (mark-behind j w ws (omega arith) h.0.grows)
              ∙ well-no-dash steps w.last ws h.1 j (omega arith) in
              let e = same j (omega (arith, g.0.ends)) in
              absurd (true-false (is_dash (mark_among j (w ∷ ws))) (ap is_dash (e ∙ dash)) none)
        ]

  -- two windows that take the same steps, each the first of its chain
  module _ (w v : Window) (ws vs : List Window) where
    head-same : 0 < w.first → w.first < w.last → w.last ≤ steps → w.first ≡ v.first → w.last ≡ v.last
        → ((j : ℕ) → j < steps → mark_among j (w ∷ ws) ≡ mark_among j (v ∷ vs)) → w ≡ v
    head-same least grows ends f l same =
        let j : ℕ = w.first - 1 in
        let limits : Limit w.limit ≡ Limit v.limit =
        sym (mark-first j w ws (omega arith) grows)
        ∙ same j (omega arith)
        ∙ mark-first j v vs (omega arith) (omega arith) in
        let e : w.limit ≡ v.limit = cc in
        λ i. record { first = f i; last = l i; limit = e i }

    tail-same : w.first < w.last → w.first ≡ v.first → w.last ≡ v.last
        → WellFrom steps w.last ws → WellFrom steps v.last vs
        → ((j : ℕ) → j < steps → mark_among j (w ∷ ws) ≡ mark_among j (v ∷ vs))
        → (j : ℕ) → j < steps → mark_among j ws ≡ mark_among j vs
    tail-same grows f l h g same j b =
        elim (dec_lt w.last (shown j)) [
          | yes d ↦
              sym (mark-behind j w ws d grows) ∙ same j b ∙ mark-behind j v vs (omega arith) (omega arith)
          | no d ↦
              well-nothing steps w.last ws h j (omega arith)
              ∙ sym (well-nothing steps v.last vs g j (omega arith))
        ]

  -- a chain with the marks of none is none
  none-same : (a : ℕ) (w : Window) (ws : List Window) → WellFrom steps a (w ∷ ws)
      → ((j : ℕ) → j < steps → mark_among j (w ∷ ws) ≡ Nothing) → ⊥
  none-same a w ws h none =
      let j : ℕ = w.first - 1 in
      let limit = mark-first j w ws (omega (arith, h.0.begins)) h.0.grows in
      true-false (is_limit (mark_among j (w ∷ ws))) (ap is_limit limit) (ap is_limit (none j (omega (arith, h.0))))

  -- windows with the same marks are the same
  same-windows : (a : ℕ) (ws vs : List Window) → WellFrom steps a ws → WellFrom steps a vs
      → ((j : ℕ) → j < steps → mark_among j ws ≡ mark_among j vs) → ws ≡ vs
  unfolding mark_among
  same-windows a [] [] h g same = refl
  same-windows a [] (v ∷ vs) h g same = absurd (none-same a v vs g (λ j l. sym (same j l)))
  same-windows a (w ∷ ws) [] h g same = absurd (none-same a w ws h same)
  same-windows a (w ∷ ws) (v ∷ vs) h g same =
      let back : (j : ℕ) → j < steps → mark_among j (v ∷ vs) ≡ mark_among j (w ∷ ws) = λ j l. sym (same j l) in
      let f : w.first ≡ v.first =
      omega (arith, first-le a w v ws vs h g same, first-le a v w vs ws g h back) in
      let l : w.last ≡ v.last =
      omega (arith, last-le a w v ws vs h g same f, last-le a v w vs ws g h back (sym f)) in
      ap₂ ◌∷◌ (head-same w v ws vs (omega (arith, h.0.begins)) h.0.grows h.0.ends f l same)
      (same-windows w.last ws vs h.1 (well-mono steps w.last v.last vs (omega arith) g.1)
      (tail-same w v ws vs h.0.grows f l h.1 g.1 same))

pub marked-windows : (ws : List Window) (steps : ℕ) → WindowsWell ws steps → Marked (λ j. mark_among j ws) steps
marked-windows ws steps well =
    let h = well-from steps ws well in
    record {
      first-none = λ l. well-no-dash steps 0 ws h 0 (omega arith);
      window-before = λ j l. before-dash steps 0 ws h j;
      dash-behind = λ j l. behind-limit steps 0 ws h j;
    }

pub windows-back : (ws : List Window) (steps : ℕ) → WindowsWell ws steps → windows_of (λ j. mark_among j ws) steps ≡ ws
windows-back ws steps well =
    let marked = marked-windows ws steps well in
    same-windows steps 0 (windows_of (λ j. mark_among j ws) steps) ws
    (windows_of-spells (λ j. mark_among j ws) steps marked).well (well-from steps ws well)
    (marks-back (λ j. mark_among j ws) steps marked)
