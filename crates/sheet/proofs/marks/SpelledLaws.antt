-- The windows that a row's marks spell, from the last step back to the first: from any step on they are in order, and
-- give back the marks, but for dashes of a window that began before that step.
use Prim.Native.Nat.{ℕ, zero, suc, ◌+◌, ◌-◌, ◌≤◌, ◌<◌}
use mathlib.Core.Bool.{true, false, not, ◌||◌}
use mathlib.Core.List.{List, [], ◌∷◌, ◌++◌, append_assoc, append-nil}
use mathlib.Core.Path.{◌≡◌, refl, ap, sym, ◌∙◌}
use native.Mathlib.Decide.{ℕ_discrete, dec_lt}
use native.Mathlib.Omega.{arith}
use Rattle.counting.specs.Lists.{join_to}
use Rattle.counting.proofs.tests.TestLaws.{true-false}
use Rattle.counting.proofs.searches.FirstToLaws.{IsFirst, first_to-first, first_to-unique}
use Rattle.load.specs.declared.Window.{Window}
use Rattle.load.specs.Load.{shown}
use Rattle.sheet_line.specs.declared.Mark.{Mark}
use Rattle.sheet_line.specs.declared.Mark.TheVariants.{Nothing, Dash, Limit}
use Rattle.sheet_line.specs.LineText.{mark_among}
use Rattle.sheet.specs.LineFaults.{is_dash, is_limit}
use Rattle.sheet.specs.SheetRows.{dashes_behind, window_by, windows_of}
use Rattle.sheet.specs.inner.Narrow.{Marked}
use Rattle.sheet.proofs.marks.WellLaws.{
  WellFrom,
  well-nothing,
  well-mono,
  mark-first,
  mark-later,
  mark-behind,
}

dash-is : (m : Mark) → is_dash m ≡ true → m ≡ Dash
dash-is Nothing e = absurd (true-false false e refl)
dash-is Dash e = refl
dash-is (Limit limit) e = absurd (true-false false e refl)

-- windows in order that give these marks
pub record Spells (mark : ℕ → Mark) (steps : ℕ) (ws : List Window) : Type 0 where
  pub well : WellFrom steps 0 ws
  pub marks : (j : ℕ) → j < steps → mark_among j ws ≡ mark j

-- the window, if any, that begins at step j
abbrev piece_at : (ℕ → Mark) → ℕ → ℕ → List Window
piece_at mark steps j = window_by (mark j) j (dashes_behind mark steps j)

-- the windows that begin at step a or behind it: from a to the start there are dashes, and they belong to a window that
-- began before a
record Spelled (mark : ℕ → Mark) (steps a : ℕ) : Type 0 where
  rest : List Window
  cut : join_to (piece_at mark steps) steps ≡ join_to (piece_at mark steps) a ++ rest
  start : ℕ
  start-least : a ≤ start
  start-most : start ≤ steps
  dashes : (j : ℕ) → a ≤ j → j < start → is_dash (mark j) ≡ true
  stops : start < steps → is_dash (mark start) ≡ false
  well : WellFrom steps start rest
  marks : (j : ℕ) → start ≤ j → j < steps → mark_among j rest ≡ mark j

module _ (mark : ℕ → Mark) (steps : ℕ) (marked : Marked mark steps) where
  -- the dashes behind a step reach to the start
  dashes-reach : (a : ℕ) → a < steps → (s : Spelled mark steps (suc a)) → shown a + dashes_behind mark steps a ≡ s.start
  unfolding dashes_behind
  dashes-reach a l s =
      let here : suc a + (s.start - suc a) ≡ s.start = omega (arith, s.start-least) in
      let first : IsFirst (λ k. not (is_dash (mark (suc a + k)))) (steps - suc a) (s.start - suc a) =
      record {
        most = omega (arith, s.start-most);
        before = λ k b. ap not (s.dashes (suc a + k) (omega arith) (omega (arith, s.start-least)));
        has = λ b. ap (λ j. not (is_dash (mark j))) here ∙ ap not (s.stops (omega (arith, s.start-least)));
      } in
      let e =
      first_to-unique (λ k. not (is_dash (mark (suc a + k)))) (steps - suc a) _ _
      (first_to-first (λ k. not (is_dash (mark (suc a + k)))) (steps - suc a)) first in
      omega (arith, e, s.start-least)

  cut-next : (a : ℕ) (s : Spelled mark steps (suc a)) (piece : List Window) → piece_at mark steps a ≡ piece
      → join_to (piece_at mark steps) steps ≡ join_to (piece_at mark steps) a ++ (piece ++ s.rest)
  unfolding join_to
  cut-next a s piece e =
      s.cut
      ∙ append_assoc (join_to (piece_at mark steps) a) (piece_at mark steps a) s.rest
      ∙ ap (λ p. join_to (piece_at mark steps) a ++ (p ++ s.rest)) e

  -- with nothing at step a no dash stands behind it
  nothing-next : (a : ℕ) → mark a ≡ Nothing → (s : Spelled mark steps (suc a)) → s.start ≡ suc a
  nothing-next a e s =
      elim (dec_lt (suc a) s.start) [
        | no b ↦ omega (arith, s.start-least)
        | yes b ↦
            let before =
            marked.window-before a (omega (arith, s.start-most)) (s.dashes (suc a) (omega arith) b) in
            absurd (true-false (is_limit (mark a) || is_dash (mark a)) before (ap (λ m. is_limit m || is_dash m) e))
      ]

  -- with a limit at step a one does
  limit-next : (a limit : ℕ) → a < steps → mark a ≡ Limit limit → (s : Spelled mark steps (suc a)) → suc a < s.start
  limit-next a limit l e s =
      let behind = marked.dash-behind a l (ap is_limit e) in
      elim (ℕ_discrete s.start (suc a)) [
        | no b ↦ omega (arith, s.start-least)
        | yes b ↦
            absurd
            (true-false (is_dash (mark s.start)) (rw b behind.1) (s.stops (omega (arith, behind.0))))
      ]

  spelled-next : (a : ℕ) → a < steps → Spelled mark steps (suc a) → Spelled mark steps a
  spelled-next a l s = go (mark a) refl
    where
      go : (m : Mark) → mark a ≡ m → Spelled mark steps a
      go Nothing e =
          let n = nothing-next a e s in
          record {
            rest = s.rest;
            cut = cut-next a s [] (ap (λ m. window_by m a (dashes_behind mark steps a)) e);
            start = a;
            start-least = omega arith;
            start-most = omega arith;
            dashes = λ j h b. absurd (omega arith);
            stops = λ b. ap is_dash e;
            well = well-mono steps a s.start s.rest (omega (arith, s.start-least)) s.well;
            marks = λ j h b.
                elim (ℕ_discrete j a) [
                  | yes q ↦
                      well-nothing steps s.start s.rest s.well j (omega arith) ∙ sym (ap mark q ∙ e)
                  | no q ↦ s.marks j (omega arith) b
                ];
          }
      go Dash e =
          record {
            rest = s.rest;
            cut = cut-next a s [] (ap (λ m. window_by m a (dashes_behind mark steps a)) e);
            start = s.start;
            start-least = omega (arith, s.start-least);
            start-most = s.start-most;
            dashes = λ j h b.
                elim (ℕ_discrete j a) [
                  | yes q ↦ ap (λ k. is_dash (mark k)) q ∙ ap is_dash e
                  | no q ↦ s.dashes j (omega arith) b
                ];
            stops = s.stops;
            well = s.well;
            marks = s.marks;
          }
      go (Limit limit) e =
          let r = dashes-reach a l s in
          let n = limit-next a limit l e s in
          let w : Window =
          record { first = shown a; last = shown a + dashes_behind mark steps a; limit = limit } in
          let grows : w.first < w.last = omega arith in
          record {
            rest = w ∷ s.rest;
            cut = cut-next a s (w ∷ []) (ap (λ m. window_by m a (dashes_behind mark steps a)) e);
            start = a;
            start-least = omega arith;
            start-most = omega arith;
            dashes = λ j h b. absurd (omega arith);
            stops = λ b. ap is_dash e;
            well = (
              record { begins = omega arith; grows = grows; ends = omega (arith, s.start-most) },
              well-mono steps w.last s.start s.rest (omega arith) s.well,
            );
            marks = λ j h b.
                elim (ℕ_discrete j a) [
                  | yes q ↦ mark-first j w s.rest (omega arith) grows ∙ sym (ap mark q ∙ e)
                  | no q ↦
                      elim (dec_lt j s.start) [
                        | yes d ↦
                            mark-later j w s.rest (omega arith) (omega arith)
                            ∙ sym (dash-is (mark j) (s.dashes j (omega arith) d))
                        | no d ↦
                            mark-behind j w s.rest (omega arith) grows ∙ s.marks j (omega arith) b
                      ]
                ];
          }

  spelled : (n a : ℕ) → a + n ≡ steps → Spelled mark steps a
  unfolding mark_among
  spelled zero a e =
      let q : steps ≡ a = omega arith in
      record {
        rest = [];
        cut = ap (join_to (piece_at mark steps)) q ∙ sym (append-nil (join_to (piece_at mark steps) a));
        start = a;
        start-least = omega arith;
        start-most = omega arith;
        dashes = λ j h b. absurd (omega arith);
        stops = λ b. absurd (omega arith);
        well = tt;
        marks = λ j h b. absurd (omega arith);
      }
  spelled (suc n) a e = spelled-next a (omega arith) (spelled n (suc a) (omega arith))

  spelled-windows : Spelled mark steps 0
  spelled-windows = spelled steps 0 (omega arith)

  windows_rest : windows_of mark steps ≡ spelled-windows.rest
  unfolding windows_of join_to
  windows_rest = spelled-windows.cut

  -- no dash stands first
  starts_first : spelled-windows.start ≡ 0
  starts_first =
      let s = spelled-windows in
      elim (dec_lt 0 s.start) [
        | no b ↦ omega arith
        | yes b ↦
            absurd
            (true-false (is_dash (mark 0)) (s.dashes 0 (omega arith) b)
            (marked.first-none (omega (arith, s.start-most))))
      ]

  pub windows_of-spells : Spells mark steps (windows_of mark steps)
  windows_of-spells =
      let s = spelled-windows in
      record {
        well = rw windows_rest (well-mono steps 0 s.start s.rest (omega arith) s.well);
        marks = λ j l. ap (mark_among j) windows_rest ∙ s.marks j (omega (arith, starts_first)) l;
      }
