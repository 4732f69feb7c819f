-- A start keeps what the slots made so far and the state say of each other: the row that starts has one slot more, its
-- last step ends now, and its opening is kept, or is the start of the new slot.
use Prim.Native.Nat.{ℕ, suc, ◌+◌, ◌≤◌, ◌<◌}
use mathlib.Core.Bool.{true, false}
use mathlib.Core.List.{List, [], ◌∷◌, ◌++◌}
use mathlib.Core.Path.{◌≡◌, refl, ap, ap₂, sym, ◌∙◌, subst}
use native.Mathlib.Decide.{ℕ_discrete}
use native.Mathlib.Omega.{arith}
use lib.Dec.{eqb}
use lib.ListN.{length}
use borrow.Author.Tests.{eq-eqb, ne_eqb}
use Rattle.counting.specs.Sums.{bit}
use Rattle.counting.proofs.sums.SumLaws.{sum_to-next}
use Rattle.counting.proofs.sums.ChangeLaws.{sum_to-change}
use Rattle.load.specs.Load.{shown}
use Rattle.load.specs.View.{View, embedded, opens_at}
use Rattle.load.specs.Acceptable.{window_of as window_at}
use Rattle.load.proofs.WindowLaws.{opens_at-embedded, within-opens_at}
use Rattle.rules.specs.declared.Slot.{Slot}
use Rattle.rules.specs.State.{State, is_open}
use Rattle.rules.specs.Plan.{plan_passes}
use Rattle.rules.specs.Move.{started, started_full, next_slot}
use Rattle.rules.specs.Slots.{slot_at, slot_end}
use Rattle.rules.proofs.invariant.Runnable.{Runnable}
use Rattle.rules.proofs.moves.MoveLaws.{
  CanStart,
  started-clock,
  started-finished-same,
  started-finished-other,
  started-finished-le,
  started-end-same,
  started-end-other,
  started-opening-same,
  started-opening-other,
  opening_after-kept,
  opening_after-new,
}
use Rattle.rules.proofs.slots.SlotLaws.{
  of_row,
  Fits,
  slot_end-is,
  slot_at-before,
  slot_at-last,
  length_last,
  of_row-before,
  fits-before,
  AfterLower,
  lower-before,
}
use Rattle.rules.proofs.run.SlotsMade.{Made}
use Rattle.rules.proofs.run.NewSlot.{new-fits, new-lower}

-- an old slot, or the new one
data Which (slots : List Slot) (x : Slot) (h : ℕ) : Type 0 where
  old : h < length slots → slot_at (slots ++ x ∷ []) h ≡ slot_at slots h → Which slots x h
  new : h ≡ length slots → slot_at (slots ++ x ∷ []) h ≡ x → Which slots x h

which : (slots : List Slot) (x : Slot) (h : ℕ) → h < length (slots ++ x ∷ []) → Which slots x h
which slots x h l =
    elim (ℕ_discrete h (length slots)) [
      | yes e ↦ new e (ap (slot_at (slots ++ x ∷ [])) e ∙ slot_at-last slots x)
      | no e ↦ (let q : h < length slots = omega (arith, length_last slots x) in old q (slot_at-before slots x h q))
    ]

module _ (L : View) (s : State) (i : ℕ) (slots : List Slot) (g : Runnable L) (plan : plan_passes L s s.clock ≡ true)
    (c : CanStart L s i) (m : Made L s slots) where
  abbrev d : ℕ
  d = L.cost i (s.finished i)

  abbrev s' : State
  s' = started L s i d

  abbrev x : Slot
  x = next_slot s i

  abbrev n : ℕ
  n = length slots

  abbrev more : List Slot
  more = slots ++ x ∷ []

  count-after : (r : ℕ) → r < L.rows → of_row more (shown r) (length more) ≡ s'.finished r
  count-after r l =
      ap (of_row more (shown r)) (length_last slots x)
      ∙ (sum_to-next (λ h. bit (eqb (slot_at more h).row (shown r))) n
      ∙ (ap₂ (λ a (y : Slot). a + bit (eqb y.row (shown r))) (of_row-before slots x (shown r) n (omega arith))
      (slot_at-last slots x)
      ∙ at (ℕ_discrete r i)))
    where
      at : Dec (r ≡ i) → of_row slots (shown r) n + bit (eqb (shown i) (shown r)) ≡ s'.finished r
      at (yes e) =
          rw (eq-eqb (shown i) (shown r) (omega arith))
          (omega (arith, m.count r l, started-finished-same L s i d, ap s.finished e, ap s'.finished e))
      at (no e) =
          rw (ne_eqb (shown i) (shown r) (λ q. e (omega arith)))
          (omega (arith, m.count r l, started-finished-other L s i d r e))

  fits_after : (k : ℕ) → k < length more → Fits L more k (slot_at more k)
  fits_after k l = go (which slots x k l)
    where
      go : Which slots x k → Fits L more k (slot_at more k)
      go (old q e) = rw e (fits-before slots x L k (slot_at slots k) (omega arith) (m.fits k q))
      go (new q e) =
          rw e
          (subst (λ y. Fits L more y x) (sym q)
          (fits-before slots x L n x (omega arith) (new-fits L s i slots g plan c m)))

  lower-after : (k : ℕ) → k < length more → AfterLower L more k (slot_at more k)
  lower-after k l = go (which slots x k l)
    where
      go : Which slots x k → AfterLower L more k (slot_at more k)
      go (old q e) = rw e (lower-before slots x L k (slot_at slots k) (omega arith) (m.lower k q))
      go (new q e) =
          rw e
          (subst (λ y. AfterLower L more y x) (sym q)
          (lower-before slots x L n x (omega arith) (new-lower L s i slots g plan c m)))

  new-end : slot_end L x ≡ s.clock + d
  new-end = slot_end-is L i (s.finished i) x (record { its-row = refl; its-step = refl })

  ended-after : (h : ℕ) → h < length more → slot_end L (slot_at more h) ≤ s'.clock
  ended-after h l = go (which slots x h l)
    where
      go : Which slots x h → slot_end L (slot_at more h) ≤ s'.clock
      go (old q e) = rw e (omega (arith, m.ended h q, started-clock L s i d))
      go (new q e) = rw e (omega (arith, new-end, started-clock L s i d))

  steps-le-after : (h r : ℕ) → h < length more → r < L.rows → (slot_at more h).row ≡ shown r
      → (slot_at more h).step ≤ s'.finished r
  steps-le-after h r l lr row = go (which slots x h l)
    where
      go : Which slots x h → (slot_at more h).step ≤ s'.finished r
      go (old q e) = rw e (omega (arith, m.steps-le h r q lr (rw e at row), started-finished-le L s i d r))
      go (new q e) =
          let row' : shown i ≡ shown r = rw e at row in
          let er : i ≡ r = omega arith in
          rw e (omega (arith, started-finished-same L s i d, ap s'.finished er))

  last-end-after : (h r : ℕ) → h < length more → r < L.rows → (slot_at more h).row ≡ shown r
      → (slot_at more h).step ≡ s'.finished r → slot_end L (slot_at more h) ≡ s'.end r
  last-end-after h r l lr row step = go (which slots x h l) (ℕ_discrete r i)
    where
      go : Which slots x h → Dec (r ≡ i) → slot_end L (slot_at more h) ≡ s'.end r
      go (old q e) (yes er) =
          let row' : (slot_at slots h).row ≡ shown r = rw e at row in
          let step' : (slot_at slots h).step ≡ s'.finished r = rw e at step in
          absurd (omega (
            arith,
            m.steps-le h r q lr row',
            started-finished-same L s i d,
            ap s.finished er,
            ap s'.finished er,
          ))
      go (old q e) (no er) =
          rw (e, started-end-other L s i d r er)
          (m.last-end h r q lr (rw e at row) (rw (e, started-finished-other L s i d r er) at step))
      go (new q e) dec =
          let row' : shown i ≡ shown r = rw e at row in
          let er : i ≡ r = omega arith in
          rw e (omega (arith, new-end, started-end-same L s i d, ap s'.end er))

  opened_after : (h r p : ℕ) → h < length more → r < L.rows → p < length (L.windows r)
      → (slot_at more h).row ≡ shown r → (slot_at more h).step ≡ (window_at L r p).first
      → (window_at L r p).first ≤ s'.finished r → s'.finished r < (window_at L r p).last
      → s'.opening r ≡ (slot_at more h).start
  opened_after h r p l lr lp row first begun going = go (which slots x h l) (ℕ_discrete r i)
    where
      f : ℕ
      f = s.finished i

      own : r ≡ i → s'.finished r ≡ suc f
      own er = ap s'.finished er ∙ started-finished-same L s i d

      stays : r ≡ i → opens_at L i (suc f) ≡ true
      stays er =
          subst (λ q. opens_at L q (suc f) ≡ true) er
          (within-opens_at L r (suc f) p lp (omega (arith, own er)) (omega (arith, own er)))

      go : Which slots x h → Dec (r ≡ i) → s'.opening r ≡ (slot_at more h).start
      go (old q e) (no er) =
          rw (e, started-opening-other L s i d r er)
          (m.opened h r p q lr lp (rw e at row) (rw e at first)
          (rw (started-finished-other L s i d r er) at begun) (rw (started-finished-other L s i d r er) at going))
      go (old q e) (yes er) =
          let step' : (slot_at slots h).step ≡ (window_at L r p).first = rw e at first in
          let row' : (slot_at slots h).row ≡ shown r = rw e at row in
          let was : (window_at L r p).first ≤ s.finished r = omega (arith, m.steps-le h r q lr row') in
          let now : s.finished r < (window_at L r p).last = omega (arith, own er, ap s.finished er) in
          let o : is_open L s i ≡ true =
          subst (λ y. is_open L s y ≡ true) er (within-opens_at L r (s.finished r) p lp was now) in
          rw e
          (ap s'.opening er
          ∙ (started-opening-same L s i d
          ∙ (opening_after-kept L s i s.clock o (stays er)
          ∙ (ap s.opening (sym er) ∙ m.opened h r p q lr lp row' step' was now))))
      go (new q e) dec =
          let row' : shown i ≡ shown r = rw e at row in
          let step' : shown f ≡ (window_at L r p).first = rw e at first in
          let er : r ≡ i = omega arith in
          let shut : is_open L s i ≡ false =
          opens_at-embedded L i f
          ∙ subst (λ y. embedded L y f ≡ false) er (g.window-first r p f lr lp (omega arith)) in
          rw e
          (ap s'.opening er ∙ (started-opening-same L s i d ∙ opening_after-new L s i s.clock shut (stays er)))

  pub start-made : Made L (started_full L s i) (slots ++ next_slot s i ∷ [])
  start-made =
      record {
        fits = fits_after;
        lower = lower-after;
        count = count-after;
        in_all =
            omega (
              arith,
              length_last slots x,
              m.in_all,
              sum_to-change s.finished s'.finished L.rows i 1 c.there
                  (λ k l ne. sym (started-finished-other L s i d k ne)) (omega (arith, started-finished-same L s i d)),
            );
        ended = ended-after;
        steps-le = steps-le-after;
        last-end = last-end-after;
        opened = opened_after;
      }
