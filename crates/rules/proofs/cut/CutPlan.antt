-- At a state within the cut the cut load and the load have the same open windows, the same plan, and the same next
-- steps allowed and released.
use Prim.Native.Nat.{ℕ, zero, suc, ◌+◌, ◌≤◌, ◌<◌, min}
use mathlib.Core.Bool.{Bool, true, false, ◌||◌}
use mathlib.Core.Path.{◌≡◌, refl, ap, sym, ◌∙◌}
use native.Mathlib.Decide.{dec_lt}
use native.Mathlib.Omega.{arith}
use lib.Dec.{leb}
use Rattle.counting.specs.Sums.{all_to}
use Rattle.counting.proofs.tests.TestLaws.{true-false, all_to-ext}
use Rattle.load.specs.View.{View, embedded, opens_at}
use Rattle.load.proofs.WindowLaws.{opens_at-embedded}
use Rattle.rules.specs.Cut.{kept, cut}
use Rattle.rules.specs.State.{State, is_open}
use Rattle.rules.specs.Ready.{release, finished_below, is_allowed}
use Rattle.rules.specs.Plan.{due, jobs, plan_passes}
use Rattle.rules.specs.Move.{started}
use Rattle.rules.proofs.cut.CutLaws.{first_kept-le, kept-le, kept-embedded, wait-of-cut}
use Rattle.rules.proofs.invariant.Runnable.{Runnable}
use Rattle.rules.proofs.plan.PlanLaws.{SameJob}
use Rattle.rules.proofs.plan.StackLaws.{due-is, window_left-is, plan_by-ext}
use Rattle.rules.proofs.cut.CutWindows.{embedded-same, embedded-in-cut, left_at-same, limit_at-same}

pub cost-of-cut : (L : View) (m i j : ℕ) → (cut L m).cost i j ≡ L.cost i j
unfolding cut
cost-of-cut L m i j = refl

-- a kept step is released as in the load
pub release-of-cut : (L : View) (m i f ended : ℕ) → f < kept L m i → release (cut L m) i f ended ≡ release L i f ended
unfolding cut
release-of-cut L m i zero ended l = refl
release-of-cut L m i (suc j) ended l = ap (λ w. ended + w) (wait-of-cut L m i j l)

module _ (L : View) (m : ℕ) (g : Runnable L) (s : State)
    (inside : (i : ℕ) → i < L.rows → s.finished i ≤ kept L m i) where
  abbrev K : View
  K = cut L m

  pub opens_at-same : (i f : ℕ) → i < L.rows → f ≤ kept L m i → opens_at K i f ≡ opens_at L i f
  opens_at-same i f l h = opens_at-embedded K i f ∙ (embedded-same L m g i f l h ∙ sym (opens_at-embedded L i f))

  job-same : (i : ℕ) → i < L.rows → is_open K s i ≡ true → SameJob (jobs K s) (jobs L s) i
  job-same i l o =
      let e : embedded K i (s.finished i) ≡ true = sym (opens_at-embedded K i (s.finished i)) ∙ o in
      let same : due K s i ≡ due L s i =
      due-is K s i ∙ (ap (λ x. s.opening i + x) (limit_at-same L m g i (s.finished i) l e) ∙ sym (due-is L s i)) in
      record {
        key-same = same;
        release-same =
            release-of-cut L m i (s.finished i) (s.end i) (embedded-in-cut L m g i (s.finished i) l e).below;
        left-same =
            window_left-is K s i ∙ (left_at-same L m g i (s.finished i) l e ∙ sym (window_left-is L s i));
        due-same = same;
      }

  pub plan-same : (t : ℕ) → plan_passes K s t ≡ plan_passes L s t
  unfolding cut
  plan-same t =
      plan_by-ext (is_open K s) (is_open L s) (jobs K s) (jobs L s) L.rows t
      (λ i l. opens_at-same i (s.finished i) l (inside i l)) job-same

  pub started-same : (k long : ℕ) → k < L.rows → s.finished k < kept L m k → started K s k long ≡ started L s k long
  unfolding started
  started-same k long l h =
      rw (opens_at-same k (suc (s.finished k)) l h, opens_at-same k (s.finished k) l (inside k l))

  pub allowed_same : (k : ℕ) → k < L.rows → s.finished k < kept L m k → is_allowed K s k ≡ is_allowed L s k
  unfolding is_allowed cut
  allowed_same k l h =
      rw (embedded-same L m g k (s.finished k) l (omega arith)) (go (embedded L k (s.finished k)) refl)
    where
      f : ℕ
      f = s.finished k

      go : (b : Bool) → embedded L k f ≡ b
          → (b || all_to (finished_below K s f) L.rows) ≡ (b || all_to (finished_below L s f) L.rows)
      go true e = refl
      go false e =
          all_to-ext (finished_below K s f) (finished_below L s f) L.rows
          (λ y ly. ap (λ x. leb x (s.finished y)) (below y))
        where
          small : f < m
          small =
              elim (dec_lt f m) [
                | yes q ↦ q
                | no q ↦ absurd (true-false (embedded L k f) (kept-embedded L m k f (omega arith) h) e)
              ]

          below : (y : ℕ) → min f (kept L m y) ≡ min f (L.steps y)
          below y = omega (arith, small, first_kept-le L m y, kept-le L m y)
