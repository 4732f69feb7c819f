-- An acceptable load has all that the proof of demand 3 needs.
use Prim.Native.Nat.{ℕ, suc, ◌<◌}
use mathlib.Core.Bool.{Bool, true, false}
use mathlib.Core.Path.{◌≡◌, refl, ap}
use native.Mathlib.Omega.{arith}
use lib.ListN.{length}
use Rattle.load.specs.declared.Window.{Window}
use Rattle.load.specs.View.{View, embedded}
use Rattle.load.specs.Acceptable.{Acceptable, window_of}
use Rattle.load.proofs.WindowLaws.{
  embedded-place,
  windows-apart,
  open_at-is,
  embedded-below,
  first-free,
  open_at-next,
}
use Rattle.load.proofs.WindowLeft.{left_at-next, left_at-last, left_at-opens}
use Rattle.rules.proofs.invariant.Runnable.{Runnable}

module _ (L : View) (ok : Acceptable L) where
  -- a window's first step is in no other window
  window-first : (i p f : ℕ) → i < L.rows → p < length (L.windows i) → (window_of L i p).first ≡ suc f
      → embedded L i f ≡ false
  window-first i p f l lp e = go (embedded L i f) refl
    where
      go : (b : Bool) → embedded L i f ≡ b → b ≡ false
      go false q = refl
      go true q =
          let o = embedded-place L i f q in
          let last = ok.first-last i p l lp in
          let begun = o.begun in
          let going = o.going in
          let same =
          windows-apart L ok i l p o.place (suc f) lp o.below (omega arith) (omega arith) (omega arith)
          (omega arith) in
          absurd (omega (arith, ap (λ k. (window_of L i k).first) same))

  pub acceptable-runnable : Runnable L
  acceptable-runnable =
      record {
        rows-most = ok.rows-most;
        phase-most = ok.phase-most;
        steps-least = ok.steps-least;
        steps-most = ok.steps-most;
        cost-least = ok.cost-least;
        cost-most = ok.cost-most;
        wait-most = ok.wait-most;
        first-free = first-free L ok;
        embedded-in = λ i j l e. embedded-below L ok i l j e;
        one-limit = λ i j l e f. ap (λ (w : Window). w.limit) (open_at-next L ok i l j e f);
        left-more = λ i j l e f. left_at-next L ok i l j e f;
        left-last = λ i j l e f. left_at-last L ok i l j e f;
        chain_fits = λ i j l e f. left_at-opens L ok i l j e f;
        first-least = ok.first-least;
        first-last = ok.first-last;
        last-most = ok.last-most;
        window-first = window-first;
        open-window = λ i p f l lp from to. open_at-is L ok i l f p lp from to;
      }
