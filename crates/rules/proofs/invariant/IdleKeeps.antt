-- An idle tick keeps the invariant. With a window open the first of the stack waits, or starting it would pass, and
-- the tick lies in its embedded wait. With none open every lowest next step waits: a first step for its phase, and of
-- the rows at a later step the one that ended first has been charged with all that the others worked since.
use Prim.Native.Nat.{ℕ, suc, ◌+◌, ◌≤◌, ◌<◌}
use mathlib.Core.Bool.{Bool, true, false, not}
use mathlib.Core.List.{List, [], ◌∷◌}
use mathlib.Core.Path.{◌≡◌, refl, ap, sym, ◌∙◌, subst}
use native.Mathlib.Decide.{ℕ_discrete, dec_lt}
use native.Mathlib.Omega.{arith}
use lib.Dec.{ltb}
use borrow.Author.Tests.{lt-ltb}
use Rattle.counting.specs.Sums.{sum_to}
use Rattle.counting.specs.Lists.{changed}
use Rattle.counting.proofs.tests.TestLaws.{and_both}
use Rattle.counting.proofs.sums.SumLaws.{value-le-max_to}
use Rattle.counting.proofs.sorting.SortLaws.{Every}
use Rattle.counting.proofs.sums.ChangeLaws.{changed-same, changed-other, sum_to-change}
use Rattle.load.specs.View.{View, embedded, is_free}
use Rattle.load.proofs.WindowLaws.{opens_at-embedded}
use Rattle.rules.specs.Bound.{largest_phase, largest_w}
use Rattle.rules.specs.State.{State, is_open}
use Rattle.rules.specs.Ready.{release, released}
use Rattle.rules.specs.Plan.{due, stack, plan_passes}
use Rattle.rules.specs.Move.{ticked}
use Rattle.rules.proofs.invariant.Runnable.{Runnable}
use Rattle.rules.proofs.moves.MoveLaws.{CanStart}
use Rattle.rules.proofs.plan.PlanLaws.{FirstWaits}
use Rattle.rules.proofs.plan.StackLaws.{stack_by-every, tick-passes}
use Rattle.rules.proofs.plan.StartPasses.{head-there, head-embedded, head-passes, free-passes}
use Rattle.rules.proofs.moves.ShapeLaws.{ticked-keeps-shape}
use Rattle.rules.proofs.invariant.Setting.{Long, Gives, Charge, AllBelow, Oldest, Setting}
use Rattle.rules.proofs.invariant.Invariant.{wait_places, Invariant}
use Rattle.rules.proofs.invariant.ClockBound.{room_for}
use Rattle.rules.proofs.invariant.TickLaws.{
  allowed-embedded,
  allowed-lowest,
  tick-spent,
  tick-waited,
  tick-waited-more,
  wait_left-le,
}

module _ (L : View) (s : State) {long : Long} {gives : Gives} {charged : Charge} (g : Setting L long gives charged)
    {E P : ℕ} {F : ℕ → ℕ} (v : Invariant gives charged L s E P F) (none : (i : ℕ) → CanStart L s i → ⊥) where
  abbrev runs : Runnable L
  runs = g.runnable

  -- the first of the stack is inside its embedded wait
  head-waits : (r : ℕ) (rest : List ℕ) → stack L s ≡ r ∷ rest → s.clock < released L s r
  head-waits r rest first =
      elim (dec_lt s.clock (released L s r)) [
        | yes l ↦ l
        | no l ↦
            absurd
            (none r
            (record {
              there = there;
              more = more;
              ready = omega arith;
              allowed = allowed-embedded L s r inside;
              in-time = room_for L s runs v r there more;
              plan = head-passes L s runs r rest first (omega arith) v.plan;
            }))
      ]
    where
      there : r < L.rows
      there = (head-there L s r rest first).0

      inside : embedded L r (s.finished r) ≡ true
      inside = head-embedded L s runs r rest first

      more : s.finished r < L.steps r
      more = runs.embedded-in r (s.finished r) there inside

  pub idle-open : (r : ℕ) (rest : List ℕ) → stack L s ≡ r ∷ rest → Invariant gives charged L (ticked s) (suc E) P F
  unfolding ticked
  idle-open r rest first =
      record {
        shape = ticked-keeps-shape L s v.shape;
        clock-sum = omega (arith, v.clock-sum, tick-spent L s);
        plan = tick-passes L s (subst (FirstWaits (released L s) s.clock) (sym first) waits) v.plan;
        open-ticks =
            omega (
              arith,
              v.open-ticks,
              tick-waited-more L s r there (head-embedded L s runs r rest first) (runs.first-free r there)
                  (v.shape.end-le r there) waits,
            );
        phase-clock = omega (arith, v.phase-clock);
        phase-ticks = v.phase-ticks;
        stage = v.stage;
        wait-ticks = v.wait-ticks;
        reached = v.reached;
        charge = λ p i lp l fi free. omega (arith, v.charge p i lp l fi free, g.charging.at_tick s p i);
      }
    where
      there : r < L.rows
      there = (head-there L s r rest first).0

      waits : s.clock < released L s r
      waits = head-waits r rest first

  -- no window is open
  module _ (shut : stack L s ≡ []) where
    none_open : (i : ℕ) → i < L.rows → embedded L i (s.finished i) ≡ false
    none_open i l = go (embedded L i (s.finished i)) refl
      where
        go : (b : Bool) → embedded L i (s.finished i) ≡ b → b ≡ false
        go false e = refl
        go true e =
            absurd
            (stack_by-every (is_open L s) (due L s) L.rows (λ k. ⊥) (subst (Every (λ k. ⊥)) (sym shut) tt) i l
            (opens_at-embedded L i (s.finished i) ∙ e))

    not-ready : (i : ℕ) → i < L.rows → s.finished i < L.steps i
        → AllBelow L s (s.finished i) → s.clock < released L s i
    not-ready i l more lowest =
        elim (dec_lt s.clock (released L s i)) [
          | yes h ↦ h
          | no h ↦
              absurd
              (none i
              (record {
                there = l;
                more = more;
                ready = omega arith;
                allowed = allowed-lowest L s i lowest;
                in-time = room_for L s runs v i l more;
                plan = free-passes L s i runs l none_open;
              }))
        ]

    tick-plan : plan_passes L (ticked s) (ticked s).clock ≡ true
    tick-plan = tick-passes L s (subst (FirstWaits (released L s) s.clock) (sym shut) tt) v.plan

    -- a row with its first step to come
    pub idle-phase : (i : ℕ) → i < L.rows → s.finished i < L.steps i → s.finished i ≡ 0
        → Invariant gives charged L (ticked s) E (suc P) F
    unfolding ticked largest_phase
    idle-phase i l more zero-steps =
        record {
          shape = ticked-keeps-shape L s v.shape;
          clock-sum = omega (arith, v.clock-sum, tick-spent L s);
          plan = tick-plan;
          open-ticks = omega (arith, v.open-ticks, tick-waited L s);
          phase-clock = omega (arith, v.phase-clock);
          phase-ticks =
              omega (
                arith,
                v.phase-clock,
                not-ready i l more (λ k lk. omega arith),
                ap (λ f. release L i f (s.end i)) zero-steps,
                value-le-max_to L.phase L.rows i l,
              );
          stage = v.stage;
          wait-ticks = v.wait-ticks;
          reached = v.reached;
          charge = λ p k lp lk fk free. omega (arith, v.charge p k lp lk fk free, g.charging.at_tick s p k);
        }

    -- the lowest next step is p + 1, and of the rows that wait there i is the one that ended first
    module _ (p i : ℕ) (lp : p < wait_places) (o : Oldest L s p i) where
      its-free : is_free L i (suc p) ≡ true
      its-free =
          and_both (ltb (suc p) (L.steps i)) (not (embedded L i (suc p)))
          (lt-ltb (suc p) (L.steps i) (omega (arith, o.more, o.at-step)))
          (ap not (sym (ap (embedded L i) o.at-step) ∙ none_open i o.there))

      late : s.clock < s.end i + L.wait i p
      late =
          omega (
            arith,
            not-ready i o.there o.more (λ k lk. omega (arith, o.lowest k lk, o.at-step)),
            ap (λ f. release L i f (s.end i)) o.at-step,
          )

      one_more : suc (F p) ≤ largest_w gives L p
      one_more =
          omega (
            arith,
            g.charging.enough s p i o,
            late,
            v.charge p i lp o.there o.at-step its-free,
            wait_left-le gives L p i o.there its-free,
          )

      pub idle-wait : Invariant gives charged L (ticked s) E P (changed F p (suc (F p)))
      unfolding ticked
      idle-wait =
          record {
            shape = ticked-keeps-shape L s v.shape;
            clock-sum = omega (arith, v.clock-sum, tick-spent L s, more-ticks);
            plan = tick-plan;
            open-ticks = omega (arith, v.open-ticks, tick-waited L s);
            phase-clock = omega (arith, v.phase-clock);
            phase-ticks = v.phase-ticks;
            stage = v.stage;
            wait-ticks = λ x lx. elim (ℕ_discrete x p) [
              | yes e ↦ rw (e, changed-same F p (suc (F p))) one_more
              | no e ↦ rw (changed-other F p (suc (F p)) x e) (v.wait-ticks x lx)
            ];
            reached = λ x lx h. elim (ℕ_discrete x p) [
              | yes e ↦ rw e o.lowest
              | no e ↦ v.reached x lx (rw (changed-other F p (suc (F p)) x e) at h)
            ];
            charge = λ x k lx lk fk free. elim (ℕ_discrete x p) [
              | yes e ↦
                  rw (e, changed-same F p (suc (F p)))
                  (omega (arith, v.charge p k lp lk (rw e at fk) (rw e at free), g.charging.at_tick s p k))
              | no e ↦
                  rw (changed-other F p (suc (F p)) x e)
                  (omega (arith, v.charge x k lx lk fk free, g.charging.at_tick s x k))
            ];
          }
        where
          more-ticks : sum_to F wait_places + 1 ≡ sum_to (changed F p (suc (F p))) wait_places
          more-ticks =
              sum_to-change F (changed F p (suc (F p))) wait_places p 1 lp
              (λ x lx ne. sym (changed-other F p (suc (F p)) x ne)) (omega (arith, changed-same F p (suc (F p))))
