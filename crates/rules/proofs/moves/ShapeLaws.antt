-- What every start and tick keeps of a bench state: with it a state has the load's shape, so that no move from fresh on
-- is refused for it.
use Prim.Native.Nat.{ℕ, suc, ◌+◌, ◌≤◌, ◌<◌}
use mathlib.Core.Bool.{Bool, true, false}
use mathlib.Core.Logic.{◌≢◌}
use mathlib.Core.Path.{◌≡◌, refl, ap, sym, ◌∙◌}
use native.Mathlib.Decide.{ℕ_discrete}
use native.Mathlib.Omega.{arith}
use Rattle.load.specs.Load.{last_moment}
use Rattle.load.specs.View.{View, embedded, opens_at}
use Rattle.load.proofs.WindowLaws.{opens_at-embedded}
use Rattle.rules.specs.State.{State, fresh, is_open}
use Rattle.rules.specs.Shape.{Unused, Shape}
use Rattle.rules.specs.Move.{ticked, opening_after}
use Rattle.rules.proofs.invariant.Runnable.{Runnable}
use Rattle.rules.proofs.moves.ShapeExact.{has_open-is_open, has_open-none}
use Rattle.rules.proofs.moves.MoveLaws.{StepOver, opening_after-kept, opening_after-new, opening_after-none}

-- what a run keeps of its shape, whatever the clock: no row past the last holds anything
pub record RowsShaped (L : View) (s : State) : Type 0 where
  pub finished-le : (i : ℕ) → i < L.rows → s.finished i ≤ L.steps i
  pub end-le : (i : ℕ) → i < L.rows → s.end i ≤ s.clock
  pub end-zero : (i : ℕ) → i < L.rows → s.finished i ≡ 0 → s.end i ≡ 0
  pub opening-le : (i : ℕ) → i < L.rows → embedded L i (s.finished i) ≡ true → s.opening i ≤ s.end i
  pub opening-zero : (i : ℕ) → i < L.rows → embedded L i (s.finished i) ≡ false → s.opening i ≡ 0
  pub unused : (i : ℕ) → L.rows ≤ i → Unused s i

-- with a clock that goes no further than 1,000,000 it is the shape
module _ (L : View) (s : State) (h : RowsShaped L s) where
  pub rows-shape : s.clock ≤ last_moment → Shape L s
  rows-shape c =
      record {
        clock-most = c;
        finished-most = h.finished-le;
        end-most = h.end-le;
        end_none = h.end-zero;
        opening-most = λ i l o.
            h.opening-le i l (sym (opens_at-embedded L i (s.finished i)) ∙ has_open-is_open L s i o);
        opening-none = λ i l none.
            h.opening-zero i l (sym (opens_at-embedded L i (s.finished i)) ∙ has_open-none L s i none);
        unused = λ i l most. h.unused i l;
      }

pub fresh-shape : (L : View) → Runnable L → RowsShaped L fresh
unfolding fresh
fresh-shape L g =
    record {
      finished-le = λ i l. omega arith;
      end-le = λ i l. omega arith;
      end-zero = λ i l e. refl;
      opening-le = λ i l e. omega arith;
      opening-zero = λ i l e. refl;
      unused = λ i l. record { no_steps = refl; no_end = refl; no-opening = refl };
    }

pub ticked-keeps-shape : (L : View) (s : State) → RowsShaped L s → RowsShaped L (ticked s)
unfolding ticked
ticked-keeps-shape L s h =
    record {
      finished-le = h.finished-le;
      end-le = λ i l. omega (arith, h.end-le i l);
      end-zero = h.end-zero;
      opening-le = h.opening-le;
      opening-zero = h.opening-zero;
      unused = λ i l.
          (let u = h.unused i l in
          record { no_steps = u.no_steps; no_end = u.no_end; no-opening = u.no-opening });
    }

-- a step that started after its row's last end is over
module _ (L : View) (s s' : State) (k start long : ℕ) (o : StepOver L s s' k start long) (h : RowsShaped L s)
    (there : k < L.rows) (more : s.finished k < L.steps k) (after : s.end k ≤ start) where
  own-opening-le : embedded L k (suc (s.finished k)) ≡ true → opening_after L s k start ≤ start + long
  own-opening-le e = go (is_open L s k) refl
    where
      opened : opens_at L k (suc (s.finished k)) ≡ true
      opened = opens_at-embedded L k (suc (s.finished k)) ∙ e

      go : (b : Bool) → is_open L s k ≡ b → opening_after L s k start ≤ start + long
      go true was =
          omega (
            arith,
            opening_after-kept L s k start was opened,
            h.opening-le k there (sym (opens_at-embedded L k (s.finished k)) ∙ was),
          )
      go false was = omega (arith, opening_after-new L s k start was opened)

  pub over-keeps-shape : RowsShaped L s'
  over-keeps-shape =
      record {
        finished-le = λ i l. elim (ℕ_discrete i k) [
          | yes e ↦ rw e (omega (arith, o.finished-same))
          | no e ↦ omega (arith, o.finished-other i e, h.finished-le i l)
        ];
        end-le = λ i l. elim (ℕ_discrete i k) [
          | yes e ↦ rw e (omega (arith, o.end_same, o.clock-is))
          | no e ↦ omega (arith, o.end-other i e, o.clock-is, h.end-le i l)
        ];
        end-zero = λ i l z. elim (ℕ_discrete i k) [
          | yes e ↦ absurd (omega (arith, o.finished-same, ap s'.finished e))
          | no e ↦ o.end-other i e ∙ h.end-zero i l (sym (o.finished-other i e) ∙ z)
        ];
        opening-le = λ i l z. elim (ℕ_discrete i k) [
          | yes e ↦ rw e (own z e)
          | no e ↦
              omega (
                arith,
                o.opening-other i e,
                o.end-other i e,
                h.opening-le i l (sym (ap (embedded L i) (o.finished-other i e)) ∙ z),
              )
        ];
        opening-zero = λ i l z. elim (ℕ_discrete i k) [
          | yes e ↦ rw e (own-zero z e)
          | no e ↦
              o.opening-other i e
              ∙ h.opening-zero i l (sym (ap (embedded L i) (o.finished-other i e)) ∙ z)
        ];
        unused = λ i l.
            (let ne : i ≢ k = λ e. omega arith in
            let u = h.unused i l in
            record {
              no_steps = o.finished-other i ne ∙ u.no_steps;
              no_end = o.end-other i ne ∙ u.no_end;
              no-opening = o.opening-other i ne ∙ u.no-opening;
            });
      }
    where
      own : {i : ℕ} → embedded L i (s'.finished i) ≡ true → i ≡ k → s'.opening k ≤ s'.end k
      own z e =
          omega (
            arith,
            o.opening-same,
            o.end_same,
            own-opening-le (sym (ap (embedded L k) o.finished-same) ∙ rw e at z),
          )

      own-zero : {i : ℕ} → embedded L i (s'.finished i) ≡ false → i ≡ k → s'.opening k ≡ 0
      own-zero z e =
          o.opening-same
          ∙ opening_after-none L s k start
          (opens_at-embedded L k (suc (s.finished k))
          ∙ (sym (ap (embedded L k) o.finished-same) ∙ rw e at z))
