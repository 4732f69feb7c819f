-- A start keeps the invariant: only one row changes, so each sum changes at one index, and what other rows are newly
-- charged with is no more than what the clock moves on. Said of any step that started no later than the clock and is
-- over now (`Begun`), of which a move's start is one.
use Prim.Native.Nat.{ℕ, suc, ◌+◌, ◌-◌, ◌≤◌, ◌<◌}
use mathlib.Core.Bool.{true, false}
use mathlib.Core.Logic.{◌≢◌}
use mathlib.Core.Path.{◌≡◌, ap, ap₂, sym, ◌∙◌}
use native.Mathlib.Decide.{ℕ_discrete}
use native.Mathlib.Omega.{arith}
use Rattle.counting.specs.Sums.{sum_to}
use Rattle.counting.proofs.sums.SumLaws.{sum_to-mono}
use Rattle.counting.proofs.sums.ChangeLaws.{sum_to-change, sum_to-suc}
use Rattle.load.specs.View.{View, embedded, is_free}
use Rattle.rules.specs.State.{State}
use Rattle.rules.specs.Plan.{plan_passes}
use Rattle.rules.specs.Move.{started}
use Rattle.rules.proofs.moves.MoveLaws.{StepOver, started-over, started-clock, CanStart}
use Rattle.rules.proofs.moves.ShapeLaws.{over-keeps-shape}
use Rattle.rules.proofs.plan.PlanSooner.{passes-sooner}
use Rattle.rules.proofs.invariant.Setting.{Long, Gives, Charge, AllBelow, Staged, Setting}
use Rattle.rules.proofs.invariant.Invariant.{
  spent,
  waited_of,
  waited,
  waited_row-next,
  waited_row-mono,
  wait_places,
  Invariant,
  is_free-lt,
}
use Rattle.rules.proofs.invariant.TickLaws.{allowed-free}

-- what is asked of a step of row k that is over now, for the invariant to hold
pub record Begun (charged : Charge) (L : View) (s s' : State) (k start long : ℕ) : Type 0 where
  pub over : StepOver L s s' k start long
  pub there : k < L.rows
  pub more : s.finished k < L.steps k
  -- it started no later than the clock, after its row's last end, and took no more than its cost
  pub soon : start ≤ s.clock
  pub after : s.end k ≤ start
  pub short : long ≤ L.cost k (s.finished k)
  -- a free one was started when every row had finished all lower ones
  pub lowest : embedded L k (s.finished k) ≡ false → AllBelow L s (s.finished k)
  -- others are charged no more than the clock moves, and its own row with nothing at first
  pub grown : (p i : ℕ) → i ≢ k → charged L s' p i ≤ charged L s p i + (s'.clock - s.clock)
  pub first : suc (s.finished k) < L.steps k → charged L s' (s.finished k) k ≡ 0
  -- the plan that begins now passes
  pub plan : plan_passes L s' s'.clock ≡ true

module _ {charged : Charge} (L : View) (s s' : State) (k start long : ℕ) (b : Begun charged L s s' k start long) where
  abbrev o : StepOver L s s' k start long
  o = b.over

  finished-le : (i : ℕ) → s.finished i ≤ s'.finished i
  finished-le i =
      elim (ℕ_discrete i k) [
        | yes e ↦ rw e (omega (arith, o.finished-same))
        | no e ↦ omega (arith, o.finished-other i e)
      ]

  begun-spent : spent L s + L.cost k (s.finished k) ≡ spent L s'
  unfolding spent
  begun-spent =
      sum_to-change (λ i. sum_to (L.cost i) (s.finished i)) (λ i. sum_to (L.cost i) (s'.finished i)) L.rows k
      (L.cost k (s.finished k)) b.there (λ i l ne. rw (o.finished-other i ne))
      (rw o.finished-same (sym (sum_to-suc (L.cost k) (s.finished k))))

  begun-waited : waited L s ≤ waited L s'
  unfolding waited
  begun-waited = sum_to-mono (waited_of L s) (waited_of L s') L.rows at
    where
      own : waited_of L s k ≤ waited_of L s' k
      own =
          rw o.finished-same
          (omega (
            arith,
            waited_row-next L k (s.finished k) (s.clock - s.end k),
            waited_row-mono L k (suc (s.finished k)) 0 (s'.clock - s'.end k) (omega arith),
          ))

      other : (i : ℕ) → i ≢ k → waited_of L s i ≤ waited_of L s' i
      other i ne =
          rw (o.finished-other i ne, o.end-other i ne)
          (waited_row-mono L i (s.finished i) (s.clock - s.end i) (s'.clock - s.end i)
          (omega (arith, o.clock-is)))

      at : (i : ℕ) → i < L.rows → waited_of L s i ≤ waited_of L s' i
      at i l = elim (ℕ_discrete i k) [ yes e ↦ rw e own | no e ↦ other i e ]

  pub begun-keeps : {gives : Gives} {E P : ℕ} {F : ℕ → ℕ} → Invariant gives charged L s E P F
      → Invariant gives charged L s' E P F
  begun-keeps {gives} {E} {P} {F} v =
      record {
        shape = over-keeps-shape L s s' k start long o v.shape b.there b.more b.after;
        clock-sum = omega (arith, begun-spent, v.clock-sum, o.clock-is, b.soon, b.short);
        plan = b.plan;
        open-ticks = omega (arith, begun-waited, v.open-ticks);
        phase-clock = omega (arith, v.phase-clock, o.clock-is);
        phase-ticks = v.phase-ticks;
        stage = stage-after;
        wait-ticks = v.wait-ticks;
        reached = λ p lp h i l. omega (arith, v.reached p lp h i l, finished-le i);
        charge = λ p i lp l fi free. elim (ℕ_discrete i k) [
          | yes e ↦ rw e (own-charge p lp (rw e at fi) (rw e at free))
          | no e ↦
              omega (
                arith,
                b.grown p i e,
                o.clock-is,
                o.end-other i e,
                v.charge p i lp l (sym (o.finished-other i e) ∙ fi) free,
              )
        ];
      }
    where
      stage-after : Staged L s'
      stage-after x q lx lq e i l =
          elim (ℕ_discrete x k) [
            | yes a ↦ elim (ℕ_discrete q (s.finished k)) [
              | yes w ↦ omega (arith, b.lowest (sym (ap₂ (embedded L) a w) ∙ e) i l, finished-le i)
              | no w ↦
                  omega (
                    arith,
                    v.stage x q lx (omega (arith, o.finished-same, ap s'.finished a, ap s.finished a)) e i l,
                    finished-le i,
                  )
            ]
            | no a ↦ omega (arith, v.stage x q lx (omega (arith, o.finished-other x a)) e i l, finished-le i)
          ]

      -- its own wait begins now
      own-charge : (p : ℕ) → p < wait_places → s'.finished k ≡ suc p → is_free L k (suc p) ≡ true
          → F p + charged L s' p k + s'.end k ≤ s'.clock
      own-charge p lp fi free = omega (arith, none, idle, o.end_same, o.clock-is)
        where
          here : s.finished k ≡ p
          here = omega (arith, o.finished-same)

          far : suc p < L.steps k
          far = is_free-lt L k (suc p) free

          idle : F p ≡ 0
          idle =
              elim (ℕ_discrete (F p) 0) [
                | yes e ↦ e
                | no e ↦ omega (arith, v.reached p lp (omega arith) k b.there, here, far)
              ]

          none : charged L s' p k ≡ 0
          none = ap (λ q. charged L s' q k) (sym here) ∙ b.first (omega (arith, here, far))

-- a start of a move, at the clock
pub start-keeps : (L : View) (s : State) (k : ℕ) {long : Long} {gives : Gives} {charged : Charge}
    → Setting L long gives charged → CanStart L s k → {E P : ℕ} {F : ℕ → ℕ} → Invariant gives charged L s E P F
    → Invariant gives charged L (started L s k (long k (s.finished k))) E P F
start-keeps L s k {long} {gives} {charged} g c v =
    begun-keeps L s (started L s k d) k s.clock d
    (record {
      over = started-over L s k d;
      there = c.there;
      more = c.more;
      soon = omega arith;
      after = v.shape.end-le k c.there;
      short = short;
      lowest = allowed-free L s k c.allowed;
      grown = λ p i ne. omega (arith, g.charging.at-start s k p i c.there c.more ne, started-clock L s k d);
      first = λ far. g.charging.at_first s k c.there far v.stage v.shape.end-le;
      plan = passes-sooner L s k d short c.plan;
    })
    v
  where
    d : ℕ
    d = long k (s.finished k)

    short : d ≤ L.cost k (s.finished k)
    short = g.lengths.most k (s.finished k) c.there c.more
