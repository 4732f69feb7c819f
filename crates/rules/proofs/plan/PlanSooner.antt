-- A step that ends early keeps the plan: its row is released sooner, the plan begins sooner, and nothing else changes,
-- so a plan that passed at the full cost passes at any shorter length.
use Prim.Native.Nat.{ℕ, ◌≤◌}
use mathlib.Core.Bool.{true}
use mathlib.Core.Path.{◌≡◌, ap, sym, ◌∙◌}
use native.Mathlib.Decide.{ℕ_discrete}
use native.Mathlib.Omega.{arith}
use Rattle.load.specs.View.{View}
use Rattle.rules.specs.State.{State, is_open}
use Rattle.rules.specs.Plan.{in_time_by, due, jobs, stack, plan_passes}
use Rattle.rules.specs.Move.{started, passes}
use Rattle.rules.proofs.moves.MoveLaws.{started-clock}
use Rattle.rules.proofs.plan.PlanLaws.{EasierJob, in_time_by-sooner}
use Rattle.rules.proofs.plan.StackLaws.{
  every-stack_by,
  stack_by-ext,
  is_open-other,
  is_open-same,
  job-other,
  released-same,
  window_left-same,
  due-same,
}

module _ (L : View) (s : State) (k long full : ℕ) (shorter : long ≤ full) where
  abbrev early : State
  early = started L s k long

  abbrev late : State
  late = started L s k full

  open-alike : (i : ℕ) → is_open L late i ≡ is_open L early i
  open-alike i =
      elim (ℕ_discrete i k) [
        | yes e ↦ rw e (is_open-same L s k full ∙ sym (is_open-same L s k long))
        | no e ↦ is_open-other L s k full i e ∙ sym (is_open-other L s k long i e)
      ]

  due-alike : (i : ℕ) → due L late i ≡ due L early i
  due-alike i =
      elim (ℕ_discrete i k) [
        | yes e ↦ rw e (due-same L s k full ∙ sym (due-same L s k long))
        | no e ↦ (job-other L s k full i e).due-same ∙ sym (job-other L s k long i e).due-same
      ]

  easier : (i : ℕ) → EasierJob (jobs L late) (jobs L early) i
  easier i =
      elim (ℕ_discrete i k) [
        | yes e ↦
            rw e
            (record {
              release-le = omega (arith, released-same L s k full, released-same L s k long);
              left_le = omega (arith, window_left-same L s k full, window_left-same L s k long);
              due-le = omega (arith, due-same L s k full, due-same L s k long);
            })
        | no e ↦
            (let a = job-other L s k full i e in
            let b = job-other L s k long i e in
            record {
              release-le = omega (arith, a.release-same, b.release-same);
              left_le = omega (arith, a.left-same, b.left-same);
              due-le = omega (arith, a.due-same, b.due-same);
            })
      ]

  pub plan-sooner : plan_passes L late late.clock ≡ true → plan_passes L early early.clock ≡ true
  plan-sooner p =
      ap (in_time_by (jobs L early) early.clock)
      (sym (stack_by-ext (is_open L late) (is_open L early) (due L late) (due L early) L.rows (λ i l. open-alike i)
      (λ i l o. due-alike i)))
      ∙ in_time_by-sooner (jobs L late) (jobs L early) late.clock early.clock (stack L late)
      (every-stack_by (is_open L late) (due L late) L.rows (EasierJob (jobs L late) (jobs L early))
      (λ i l o. easier i))
      (omega (arith, started-clock L s k long, started-clock L s k full)) p

-- a candidate that passes at its cost passes at any length up to it
pub passes-sooner : (L : View) (s : State) (k long : ℕ) → long ≤ L.cost k (s.finished k) → passes L s k ≡ true
    → plan_passes L (started L s k long) (started L s k long).clock ≡ true
unfolding passes
passes-sooner L s k long h p = plan-sooner L s k long (L.cost k (s.finished k)) h p
