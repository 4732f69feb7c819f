-- The cut load beside the load: no window is cut in two, so a kept step is embedded as in the load, and the open
-- window, its limit and what is left of it are the load's.
use Prim.Native.Nat.{ℕ, ◌≤◌, ◌<◌}
use mathlib.Core.Bool.{Bool, true, false, ◌&&◌}
use mathlib.Core.Path.{◌≡◌, refl, ap, sym, ◌∙◌}
use native.Mathlib.Decide.{dec_lt}
use native.Mathlib.Omega.{arith}
use lib.Dec.{leb, ltb}
use lib.ListN.{length}
use borrow.Author.Tests.{leb-true, ltb-true, le-leb}
use Rattle.counting.proofs.tests.TestLaws.{and_left, and_right, true-false}
use Rattle.counting.proofs.sorting.SortLaws.{Every-map, Every-at, at-Every}
use Rattle.counting.proofs.lists.KeepLaws.{kept_place, keep_in-at, first_in-kept}
use Rattle.load.specs.declared.Window.{Window}
use Rattle.load.specs.Load.{no_window}
use Rattle.load.specs.View.{View, chain, embedded, open_with, open_at}
use Rattle.load.specs.Acceptable.{window_of as window_at}
use Rattle.load.proofs.WindowChain.{chain-ext}
use Rattle.load.proofs.WindowLaws.{embedded-place, open_with-first}
use Rattle.load.proofs.WindowLeft.{limit_at, left_at}
use Rattle.rules.specs.Cut.{kept, cut}
use Rattle.rules.proofs.cut.CutLaws.{
  kept-stops,
  Within,
  Uncut,
  whole,
  dropped,
  kept-uncut,
  embedded-of-cut,
  embedded-kept,
  wait-of-cut,
}
use Rattle.rules.proofs.invariant.Runnable.{Runnable}

module _ (L : View) (m : ℕ) (g : Runnable L) where
  abbrev K : View
  K = cut L m

  pub within : (i : ℕ) → i < L.rows → Within L i
  within i l = at-Every (λ w. w.last ≤ L.steps i) (L.windows i) no_window (λ p lp. g.last-most i p l lp)

  -- the step after the kept ones is not embedded
  pub kept-shut : (i : ℕ) → i < L.rows → embedded L i (kept L m i) ≡ false
  kept-shut i l = go (embedded L i (kept L m i)) refl
    where
      go : (b : Bool) → embedded L i (kept L m i) ≡ b → b ≡ false
      go false e = refl
      go true e =
          absurd (true-false (embedded L i (kept L m i)) e (kept-stops L m i (g.embedded-in i (kept L m i) l e)))

  -- up to there the two loads are embedded alike
  pub embedded-same : (i j : ℕ) → i < L.rows → j ≤ kept L m i → embedded K i j ≡ embedded L i j
  embedded-same i j l h =
      elim (dec_lt j (kept L m i)) [
        | yes q ↦ embedded-kept L m i j (within i l) q
        | no q ↦
            (let e : j ≡ kept L m i = omega arith in
            let shut : embedded L i j ≡ false = ap (embedded L i) e ∙ kept-shut i l in
            embedded-of-cut L m i j (within i l) ∙ (ap (λ b. b && ltb j (kept L m i)) shut ∙ sym shut))
      ]

  pub record InCut (i j : ℕ) : Type 0 where
    pub in-load : embedded L i j ≡ true
    pub below : j < kept L m i

  pub embedded-in-cut : (i j : ℕ) → i < L.rows → embedded K i j ≡ true → InCut i j
  embedded-in-cut i j l e =
      let q = sym (embedded-of-cut L m i j (within i l)) ∙ e in
      record {
        in-load = and_left (embedded L i j) (ltb j (kept L m i)) q;
        below = ltb-true j (kept L m i) (and_right (embedded L i j) (ltb j (kept L m i)) q);
      }

  -- the open window is the load's
  pub open_at-same : (i f : ℕ) → i < L.rows → f < kept L m i → open_at K i f ≡ open_at L i f
  unfolding open_at cut
  open_at-same i f l h =
      first_in-kept (open_with f) (λ w. leb w.last (kept L m i)) no_window (L.windows i)
      (Every-map (Uncut (kept L m i)) (λ w. open_with f w ≡ true → leb w.last (kept L m i) ≡ true) (L.windows i) keep
      (kept-uncut L m i (within i l)))
    where
      keep : (w : Window) → Uncut (kept L m i) w → open_with f w ≡ true → leb w.last (kept L m i) ≡ true
      keep w (whole q) o = le-leb w.last (kept L m i) q
      keep w (dropped q) o = absurd (omega (arith, open_with-first f w o))

  -- it ends within what is kept
  open-last-le : (i f : ℕ) → i < L.rows → InCut i f → (open_at L i f).last ≤ kept L m i
  open-last-le i f l c =
      let o = embedded-place L i f c.in-load in
      omega (
        arith,
        ap (λ (w : Window). w.last) o.is,
        go (window_at L i o.place) o.begun
            (Every-at (Uncut (kept L m i)) (L.windows i) o.place no_window (kept-uncut L m i (within i l))
            o.below),
      )
    where
      go : (w : Window) → w.first ≤ f → Uncut (kept L m i) w → w.last ≤ kept L m i
      go w begun (whole q) = q
      go w begun (dropped q) = absurd (omega (arith, c.below))

  left_at-by : (i f : ℕ) → open_at K i f ≡ open_at L i f → (open_at L i f).last ≤ kept L m i → left_at K i f
      ≡ left_at L i f
  unfolding left_at cut
  left_at-by i f e h =
      ap (λ (w : Window). chain (L.cost i) (K.wait i) f w.last) e
      ∙ chain-ext (L.cost i) (L.cost i) (K.wait i) (L.wait i) f (open_at L i f).last (λ j from q. refl)
      (λ j from q. wait-of-cut L m i j (omega arith))

  pub left_at-same : (i f : ℕ) → i < L.rows → embedded K i f ≡ true → left_at K i f ≡ left_at L i f
  left_at-same i f l e =
      let c = embedded-in-cut i f l e in
      left_at-by i f (open_at-same i f l c.below) (open-last-le i f l c)

  pub limit_at-same : (i f : ℕ) → i < L.rows → embedded K i f ≡ true → limit_at K i f ≡ limit_at L i f
  limit_at-same i f l e =
      ap (λ (w : Window). w.limit) (open_at-same i f l (embedded-in-cut i f l e).below)

  -- a window of the cut load is one of the load, and ends within what is kept
  pub record CutWindow (i p : ℕ) : Type 0 where
    pub place : ℕ
    pub below : place < length (L.windows i)
    pub is : window_at K i p ≡ window_at L i place
    pub last-le : (window_at L i place).last ≤ kept L m i

  pub cut-window : (i p : ℕ) → p < length (K.windows i) → CutWindow i p
  unfolding cut
  cut-window i p lp =
      let s = keep_in-at (λ w. leb w.last (kept L m i)) no_window (L.windows i) p lp in
      let place = kept_place (λ (w : Window). leb w.last (kept L m i)) (L.windows i) p in
      record {
        place = place;
        below = s.below;
        is = s.is;
        last-le = leb-true (window_at L i place).last (kept L m i) s.has;
      }
