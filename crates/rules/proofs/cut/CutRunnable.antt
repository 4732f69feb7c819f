-- The cut load has all that the proof of demand 3 needs, if the load has and a step is kept of each row.
use Prim.Native.Nat.{ℕ, suc, ◌+◌, ◌≤◌, ◌<◌}
use mathlib.Core.Bool.{true, false}
use mathlib.Core.Path.{◌≡◌, ap, sym, ◌∙◌}
use native.Mathlib.Omega.{arith}
use lib.Dec.{ltb}
use lib.ListN.{length}
use Rattle.counting.proofs.sums.ChangeLaws.{cond-most}
use Rattle.load.specs.declared.Window.{Window}
use Rattle.load.specs.View.{View, embedded, open_at}
use Rattle.load.specs.Acceptable.{window_of as window_at}
use Rattle.load.proofs.WindowLeft.{limit_at, left_at}
use Rattle.rules.specs.Cut.{kept, cut}
use Rattle.rules.proofs.cut.CutLaws.{first_kept-le, kept-le, wait-of-cut}
use Rattle.rules.proofs.invariant.Runnable.{Runnable}
use Rattle.rules.proofs.cut.CutWindows.{
  embedded-same,
  embedded-in-cut,
  open_at-same,
  left_at-same,
  limit_at-same,
  cut-window,
}

module _ (L : View) (m : ℕ) (g : Runnable L) (some : 1 ≤ m) where
  abbrev K : View
  K = cut L m

  cut-one-limit : (i j : ℕ) → i < L.rows → embedded K i j ≡ true → embedded K i (suc j) ≡ true
      → limit_at K i (suc j) ≡ limit_at K i j
  cut-one-limit i j l a b =
      limit_at-same L m g i (suc j) l b
      ∙ (g.one-limit i j l (embedded-in-cut L m g i j l a).in-load (embedded-in-cut L m g i (suc j) l b).in-load
      ∙ sym (limit_at-same L m g i j l a))

  cut-left-more : (i j : ℕ) → i < L.rows → embedded K i j ≡ true → embedded K i (suc j) ≡ true
      → left_at K i j ≡ L.cost i j + (K.wait i j + left_at K i (suc j))
  cut-left-more i j l a b =
      let c = embedded-in-cut L m g i (suc j) l b in
      omega (
        arith,
        left_at-same L m g i j l a,
        left_at-same L m g i (suc j) l b,
        g.left-more i j l (embedded-in-cut L m g i j l a).in-load c.in-load,
        wait-of-cut L m i j c.below,
      )

  cut-left-last : (i j : ℕ) → i < L.rows → embedded K i j ≡ true → embedded K i (suc j) ≡ false
      → left_at K i j ≡ L.cost i j
  cut-left-last i j l a b =
      let c = embedded-in-cut L m g i j l a in
      left_at-same L m g i j l a
      ∙ g.left-last i j l c.in-load (sym (embedded-same L m g i (suc j) l c.below) ∙ b)

  cut-chain-fits : (i j : ℕ) → i < L.rows → embedded K i j ≡ false → embedded K i (suc j) ≡ true
      → L.cost i j + (K.wait i j + left_at K i (suc j)) ≤ limit_at K i (suc j)
  cut-chain-fits i j l a b =
      let c = embedded-in-cut L m g i (suc j) l b in
      let below = c.below in
      omega (
        arith,
        left_at-same L m g i (suc j) l b,
        limit_at-same L m g i (suc j) l b,
        wait-of-cut L m i j below,
        g.chain_fits i j l (sym (embedded-same L m g i j l (omega arith)) ∙ a) c.in-load,
      )

  cut-open-window : (i p f : ℕ) → i < L.rows → p < length (K.windows i) → (window_at K i p).first ≤ f
      → f < (window_at K i p).last → open_at K i f ≡ window_at K i p
  cut-open-window i p f l lp a b =
      let w = cut-window L m g i p lp in
      let first = ap (λ (v : Window). v.first) w.is in
      let last = ap (λ (v : Window). v.last) w.is in
      open_at-same L m g i f l (omega (arith, w.last-le))
      ∙ (g.open-window i w.place f l w.below (omega arith) (omega arith) ∙ sym w.is)

  cut-window-first : (i p f : ℕ) → i < L.rows → p < length (K.windows i) → (window_at K i p).first ≡ suc f
      → embedded K i f ≡ false
  cut-window-first i p f l lp e =
      let w = cut-window L m g i p lp in
      let first = ap (λ (v : Window). v.first) w.is in
      let last = g.first-last i w.place l w.below in
      embedded-same L m g i f l (omega (arith, w.last-le)) ∙ g.window-first i w.place f l w.below (omega arith)

  pub runnable-of-cut : Runnable K
  unfolding cut
  runnable-of-cut =
      record {
        rows-most = g.rows-most;
        phase-most = g.phase-most;
        steps-least = λ i l. omega (arith, first_kept-le L m i, g.steps-least i l);
        steps-most = λ i l. omega (arith, kept-le L m i, g.steps-most i l);
        cost-least = λ i j l h. g.cost-least i j l (omega (arith, kept-le L m i));
        cost-most = λ i j l h. g.cost-most i j l (omega (arith, kept-le L m i));
        wait-most = λ i j l h.
            cond-most (ltb (suc j) (kept L m i)) (L.wait i j) 3600
            (λ _. g.wait-most i j l (omega (arith, kept-le L m i)));
        first-free = λ i l. embedded-same L m g i 0 l (omega arith) ∙ g.first-free i l;
        embedded-in = λ i j l e. (embedded-in-cut L m g i j l e).below;
        one-limit = cut-one-limit;
        left-more = cut-left-more;
        left-last = cut-left-last;
        chain_fits = cut-chain-fits;
        first-least = λ i p l lp.
            (let w = cut-window L m g i p lp in
            omega (arith, ap (λ (v : Window). v.first) w.is, g.first-least i w.place l w.below));
        first-last = λ i p l lp.
            (let w = cut-window L m g i p lp in
            omega (
              arith,
              ap (λ (v : Window). v.first) w.is,
              ap (λ (v : Window). v.last) w.is,
              g.first-last i w.place l w.below,
            ));
        last-most = λ i p l lp.
            (let w = cut-window L m g i p lp in
            omega (arith, ap (λ (v : Window). v.last) w.is, w.last-le));
        window-first = cut-window-first;
        open-window = cut-open-window;
      }
