-- The setting of a full run: costs for lengths, and a free wait is charged with the step that each other row worked at
-- since. A start charges the others with no more than the cost that passes, and its own row with nothing at first; and
-- when the oldest of the rows at the lowest next step waits, every other has worked one of its two steps since.
use Prim.Native.Nat.{ℕ, suc, ◌+◌, ◌≤◌, ◌<◌, min}
use mathlib.Core.Bool.{true, cond}
use mathlib.Core.Logic.{◌≢◌}
use mathlib.Core.Path.{◌≡◌, ap}
use native.Mathlib.Decide.{ℕ_discrete, dec_lt}
use native.Mathlib.Omega.{arith}
use Rattle.counting.proofs.sums.ChangeLaws.{sum_to-change-le, cond-le, cond-mono}
use Rattle.load.specs.View.{View, is_free}
use Rattle.rules.specs.State.{State}
use Rattle.rules.specs.Move.{started_full}
use Rattle.rules.proofs.bound.TightBound.{minima}
use Rattle.rules.proofs.moves.MoveLaws.{
  started-finished-same,
  started-finished-other,
  started-end-same,
  started-end-other,
}
use Rattle.rules.proofs.invariant.Runnable.{Runnable}
use Rattle.rules.proofs.invariant.Setting.{Staged, Oldest, Setting}
use Rattle.rules.proofs.invariant.WorkedSince.{
  worked,
  is_other,
  worked_since,
  worked-next,
  worked-here,
  worked-before,
  worked-none,
  worked-le,
  worked-ext,
  worked_since-none,
  tick-worked,
  minima-le,
}
use Rattle.rules.proofs.invariant.Invariant.{is_free-lt, is_free-embedded}

module _ (L : View) (g : Runnable L) where
  module _ (s : State) (k : ℕ) where
    abbrev d : ℕ
    d = L.cost k (s.finished k)

    abbrev t : State
    t = started_full L s k

    same : t.finished k ≡ suc (s.finished k)
    same = started-finished-same L s k d

    own : (p i : ℕ) → worked L t p i k ≤ worked L s p i k + d
    own p i =
        elim (dec_lt (s.finished k) p) [
          | yes a ↦ omega (arith, worked-none L t p i k (omega (arith, same)))
          | no a ↦ elim (ℕ_discrete (s.finished k) p) [
            | yes b ↦ omega (arith, worked-le L t p i k (omega (arith, same)), ap (L.cost k) b)
            | no b ↦ elim (ℕ_discrete (s.finished k) (suc p)) [
              | yes e ↦ omega (arith, worked-next L t p i k (omega (arith, same)), ap (L.cost k) e)
              | no e ↦
                  omega (
                    arith,
                    worked-next L t p i k (omega (arith, same)),
                    worked-next L s p i k (omega arith),
                  )
            ]
          ]
        ]

    start-worked : (p i : ℕ) → i ≢ k → worked_since L t p i ≤ worked_since L s p i + d
    unfolding worked_since
    start-worked p i ne =
        sum_to-change-le (λ x. cond (is_other L p i x) (worked L t p i x) 0)
        (λ x. cond (is_other L p i x) (worked L s p i x) 0) L.rows k d
        (λ x l nx. cond-mono (is_other L p i x) (worked L t p i x) (worked L s p i x)
        (λ _. omega (
          arith,
          worked-ext L t s p i x (started-finished-other L s k d x nx) (started-end-other L s k d i ne)
              (started-end-other L s k d x nx),
        )))
        (λ _. cond-le (is_other L p i k) (worked L t p i k) (worked L s p i k) d (λ _. own p i))

    start_first : k < L.rows → suc (s.finished k) < L.steps k → Staged L s
        → ((i : ℕ) → i < L.rows → s.end i ≤ s.clock) → worked_since L t (s.finished k) k ≡ 0
    start_first lk far stage ends = worked_since-none L t (s.finished k) k at
      where
        at : (x : ℕ) → x < L.rows → x ≢ k → is_free L x (suc (s.finished k)) ≡ true
            → worked L t (s.finished k) k x ≡ 0
        at x lx ne free =
            elim (dec_lt (suc (s.finished k)) (t.finished x)) [
              | yes h ↦
                  absurd (omega (
                    arith,
                    stage x (suc (s.finished k)) lx (omega (arith, started-finished-other L s k d x ne))
                        (is_free-embedded L x (suc (s.finished k)) free) k lk,
                    far,
                  ))
              | no h ↦
                  worked-before L t (s.finished k) k x (omega arith)
                  (omega (
                    arith,
                    started-end-other L s k d x ne,
                    started-end-same L s k d,
                    ends x lx,
                    g.cost-least k (s.finished k) lk (omega arith),
                  ))
            ]

  worked-enough : (s : State) (p i : ℕ) → Oldest L s p i → minima L p i ≤ worked_since L s p i
  worked-enough s p i o = minima-le L s p i at
    where
      at : (k : ℕ) → k < L.rows → k ≢ i → is_free L k (suc p) ≡ true
          → min (L.cost k p) (L.cost k (suc p)) ≤ worked L s p i k
      at k lk ne free =
          let far = is_free-lt L k (suc p) free in
          elim (ℕ_discrete (s.finished k) (suc p)) [
            | yes e ↦ omega (arith, worked-here L s p i k e (o.old k lk (omega arith) e))
            | no e ↦ omega (arith, worked-next L s p i k (omega (arith, o.lowest k lk)))
          ]

  pub full_setting : Setting L L.cost minima worked_since
  full_setting =
      record {
        runnable = g;
        lengths = record { least = g.cost-least; most = λ i j l h. omega arith };
        charging = record {
          at_tick = tick-worked L;
          at-start = λ s k p i lk fk ne. start-worked s k p i ne;
          at_first = start_first;
          enough = worked-enough;
        };
      }
