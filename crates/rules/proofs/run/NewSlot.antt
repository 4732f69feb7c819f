-- The slot of a start fits behind the slots made so far: its step is ready and allowed, and the plan that passes now
-- leaves its window in time.
use Prim.Native.Nat.{ℕ, suc, ◌+◌, ◌≤◌, ◌<◌}
use mathlib.Core.Bool.{Bool, true, false}
use mathlib.Core.List.{List}
use mathlib.Core.Path.{◌≡◌, refl, ap, ap₂, sym, ◌∙◌, subst}
use native.Mathlib.Omega.{arith}
use lib.ListN.{length}
use Rattle.load.specs.declared.Window.{Window}
use Rattle.load.specs.Load.{shown}
use Rattle.load.specs.View.{View, embedded}
use Rattle.load.specs.Acceptable.{window_of as window_at}
use Rattle.rules.specs.declared.Slot.{Slot}
use Rattle.rules.specs.State.{State, is_open}
use Rattle.rules.specs.Ready.{release}
use Rattle.rules.specs.Plan.{plan_passes}
use Rattle.rules.specs.Move.{next_slot}
use Rattle.rules.specs.Slots.{slot_at, row_of, slot_end}
use Rattle.rules.specs.ScheduleRules.{NamesStep}
use Rattle.rules.proofs.invariant.Runnable.{Runnable}
use Rattle.load.proofs.WindowLaws.{opens_at-embedded, within-opens_at}
use Rattle.load.proofs.WindowLeft.{left_at}
use Rattle.rules.proofs.moves.MoveLaws.{CanStart}
use Rattle.rules.proofs.plan.StackLaws.{due-is, window_left-is, plan-in-time}
use Rattle.rules.proofs.invariant.Invariant.{is_free-embedded}
use Rattle.rules.proofs.invariant.TickLaws.{allowed-free}
use Rattle.rules.proofs.slots.SlotLaws.{AfterLower, IsSlot, Fits, slot_end-is}
use Rattle.rules.proofs.run.SlotsMade.{Made}

-- the next step of an open window is at least left of it
cost-le-left : (L : View) (i f : ℕ) → Runnable L → i < L.rows → embedded L i f ≡ true → L.cost i f ≤ left_at L i f
cost-le-left L i f g l e = go (embedded L i (suc f)) refl
  where
    go : (b : Bool) → embedded L i (suc f) ≡ b → L.cost i f ≤ left_at L i f
    go true q = omega (arith, g.left-more i f l e q)
    go false q = omega (arith, g.left-last i f l e q)

module _ (L : View) (s : State) (i : ℕ) (slots : List Slot) (g : Runnable L) (plan : plan_passes L s s.clock ≡ true)
    (c : CanStart L s i) (m : Made L s slots) where
  abbrev x : Slot
  x = next_slot s i

  abbrev n : ℕ
  n = length slots

  new_is : IsSlot i (s.finished i) x
  new_is = record { its-row = refl; its-step = refl }

  new-names : NamesStep L x
  new-names =
      let e : row_of (next_slot s i) ≡ i = omega arith in
      record {
        row_from = omega arith;
        row-to = omega (arith, c.there);
        step_from = omega arith;
        step-to = rw e (omega (arith, c.more));
        start-to = omega (arith, c.in-time);
      }

  -- after the step before it and its wait
  new-wait : (h r j : ℕ) → h < n → IsSlot r j (slot_at slots h) → IsSlot r (suc j) x
      → slot_end L (slot_at slots h) + L.wait r j ≤ x.start
  new-wait h r j l a b =
      let er : r ≡ i = omega (arith, b.its-row) in
      let ej : s.finished i ≡ suc j = omega (arith, b.its-step) in
      let row : (slot_at slots h).row ≡ shown i = a.its-row ∙ ap shown er in
      omega (
        arith,
        m.last-end h i l c.there row (omega (arith, a.its-step)),
        ap (λ f. release L i f (s.end i)) ej,
        ap (λ q. L.wait q j) er,
        c.ready,
      )

  -- within the limit: the plan that passes now leaves at least its cost until the window is due
  own-window : (h p : ℕ) → h < n → p < length (L.windows i) → (slot_at slots h).row ≡ shown i
      → (slot_at slots h).step ≡ (window_at L i p).first → x.step ≡ (window_at L i p).last
      → slot_end L x ≤ (slot_at slots h).start + (window_at L i p).limit
  own-window h p l lp row first last =
      let f = s.finished i in
      let begun : (window_at L i p).first ≤ f = omega (arith, g.first-last i p c.there lp) in
      let going : f < (window_at L i p).last = omega arith in
      let o : is_open L s i ≡ true = within-opens_at L i f p lp begun going in
      let e : embedded L i f ≡ true = sym (opens_at-embedded L i f) ∙ o in
      omega (
        arith,
        slot_end-is L i f (next_slot s i) new_is,
        plan-in-time L s s.clock plan i c.there o,
        window_left-is L s i,
        due-is L s i,
        cost-le-left L i f g c.there e,
        ap (λ (w : Window). w.limit) (g.open-window i p f c.there lp begun going),
        m.opened h i p l c.there lp row first begun going,
      )

  new-window : (h r p : ℕ) → h < n → r < L.rows → p < length (L.windows r) → (slot_at slots h).row ≡ shown r
      → x.row ≡ shown r → (slot_at slots h).step ≡ (window_at L r p).first → x.step ≡ (window_at L r p).last
      → slot_end L x ≤ (slot_at slots h).start + (window_at L r p).limit
  new-window h r p l lr lp a b first last =
      subst
      (λ q. p < length (L.windows q) → (slot_at slots h).row ≡ shown q → (slot_at slots h).step
      ≡ (window_at L q p).first
      → x.step ≡ (window_at L q p).last → slot_end L x ≤ (slot_at slots h).start + (window_at L q p).limit)
      er (own-window h p l) lp a first last
    where
      er : i ≡ r
      er = omega (arith, new_is.its-row)

  pub new-fits : Fits L slots n x
  new-fits =
      record {
        names = new-names;
        next = ap shown (sym (m.count i c.there));
        after = m.ended;
        phase = λ r a.
            (let er : r ≡ i = omega (arith, a.its-row) in
            let e : s.finished i ≡ 0 = omega (arith, a.its-step) in
            omega (arith, ap L.phase er, ap (λ f. release L i f (s.end i)) e, c.ready));
        wait = new-wait;
        window = new-window;
      }

  pub new-lower : AfterLower L slots n x
  new-lower r j k a free lk =
      let er : r ≡ i = omega (arith, a.its-row) in
      let ej : j ≡ s.finished i = omega (arith, a.its-step) in
      let shut : embedded L i (s.finished i) ≡ false =
      sym (ap₂ (embedded L) er ej) ∙ is_free-embedded L r j free in
      omega (arith, m.count k lk, allowed-free L s i c.allowed shut k lk)
