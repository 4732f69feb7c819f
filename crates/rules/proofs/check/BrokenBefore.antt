-- The tests 15 and 16 of a slot are the plain rules where 13 is met neither there nor before: then each slot so far is
-- its row's next, and the slot that a test looks up by row and step is the only one before.
use Prim.Native.Nat.{ℕ, zero, suc, ◌+◌, ◌-◌, ◌≤◌, ◌<◌}
use mathlib.Core.Bool.{Bool, true, false}
use mathlib.Core.List.{List}
use mathlib.Core.Path.{◌≡◌, refl, ap, sym, ◌∙◌, subst}
use native.Mathlib.Decide.{ℕ_discrete, dec_lt}
use native.Mathlib.Omega.{arith}
use lib.Dec.{eqb, ltb}
use lib.ListN.{length}
use borrow.Author.Tests.{eqb-true, ltb-true, ltb-false, lt-ltb, eq-eqb}
use Rattle.counting.proofs.tests.TestLaws.{and_left, and_right, and_both, true-false}
use Rattle.counting.proofs.lists.MemberLaws.{First, true-any_in, any_in-true}
use Rattle.load.specs.declared.Window.{Window}
use Rattle.load.specs.Load.{shown, no_window}
use Rattle.load.specs.View.{View}
use Rattle.load.specs.Acceptable.{Acceptable, window_of}
use Rattle.rules.specs.declared.Slot.{Slot}
use Rattle.rules.specs.Ready.{release}
use Rattle.rules.specs.Slots.{no_slot, slot_at, row_of, step_of, slot_end, is_for, slot_for}
use Rattle.rules.specs.Check.{starts_early, ends_window_late}
use Rattle.rules.specs.FirstBroken.{
  EarlierOfRow,
  StartsEarly,
  before-phase,
  before-wait,
  EndsWindowLate,
}
use Rattle.rules.proofs.slots.NextLaws.{NextTo, LowerSlot, order-to, lower-to}
use Rattle.rules.proofs.check.SlotTests.{late_in}
use Rattle.rules.proofs.check.BrokenTests.{Named}

-- a slot that is looked up, where each up to it is its row's next
module _ (slots : List Slot) (n : ℕ) (next : NextTo slots n) where
  pub looked-before : (row step h : ℕ) → h < n → h < length slots → (slot_at slots h).row ≡ row
      → (slot_at slots h).step ≡ step → slot_for slots row step ≡ slot_at slots h
  unfolding slot_for
  looked-before row step h below there its-row its-step =
      let has : is_for row step (slot_at slots h) ≡ true =
      and_both (eqb (slot_at slots h).row row) (eqb (slot_at slots h).step step)
      (eq-eqb (slot_at slots h).row row its-row) (eq-eqb (slot_at slots h).step step its-step) in
      let f = any_in-true (is_for row step) no_slot slots (true-any_in (is_for row step) no_slot slots h there has) in
      f.is ∙ ap (slot_at slots) (is f has)
    where
      is : (f : First (is_for row step) no_slot slots) → is_for row step (slot_at slots h) ≡ true → f.place ≡ h
      is f has =
          let row-there = eqb-true (slot_at slots f.place).row row (and_left _ (eqb _ step) f.has) in
          let step-there =
          eqb-true (slot_at slots f.place).step step
          (and_right (eqb (slot_at slots f.place).row row) _ f.has) in
          elim (ℕ_discrete f.place h) [
            | yes e ↦ e
            | no e ↦ elim (dec_lt h f.place) [
              | yes l ↦ absurd (true-false (is_for row step (slot_at slots h)) has (f.before h l))
              | no l ↦
                  absurd (omega (
                    arith,
                    order-to slots n next f.place h (omega arith) below (row-there ∙ sym its-row),
                    its-step,
                    step-there,
                  ))
            ]
          ]

-- 15 and 16, of a slot that names its row's next step, as each before it does
module _ (L : View) (slots : List Slot) (k : ℕ) (l : k < length slots) (before : NextTo slots k)
    (named : Named L slots k) where
  abbrev mine : Slot
  mine = slot_at slots k

  abbrev row : ℕ
  row = row_of mine

  -- a lower step of the row stands before it
  lower : (j : ℕ) → shown j < mine.step → LowerSlot slots mine.row j k
  lower j h = lower-to slots k before mine.row j (omega (arith, named.next))

  -- the slot of an earlier place is the one that is looked up
  found_at : (h : ℕ) → EarlierOfRow slots h k → (step : ℕ) → (slot_at slots h).step ≡ step
      → slot_for slots mine.row step ≡ slot_at slots h
  found_at h e step q =
      looked-before slots k before mine.row step h e.earlier (omega (arith, e.earlier)) e.same_row q

  -- the moment from which it may start
  abbrev from : ℕ → ℕ
  from j = release L row j (slot_end L (slot_for slots mine.row j))

  pub met15 : starts_early L slots mine ≡ true → StartsEarly L slots k
  met15 e = go (step_of mine) refl (ltb-true mine.start (from (step_of mine)) e)
    where
      go : (j : ℕ) → step_of mine ≡ j → mine.start < from j → StartsEarly L slots k
      go zero q h = before-phase (omega (arith, named.names.step_from)) h
      go (suc j) q h =
          let s = lower j (omega arith) in
          let earlier : EarlierOfRow slots s.place k = record { earlier = s.earlier; same_row = s.its-row } in
          let found = found_at s.place earlier (suc j) (omega (arith, s.its-step)) in
          let its : step_of (slot_at slots s.place) ≡ j = omega (arith, s.its-step) in
          before-wait s.place earlier (omega (arith, s.its-step))
          (subst (λ t. mine.start < slot_end L (slot_at slots s.place) + L.wait row t) (sym its)
          (subst (λ (y : Slot). mine.start < slot_end L y + L.wait row j) found h))

  pub unmet15 : starts_early L slots mine ≡ false → ¬ StartsEarly L slots k
  unmet15 e (before-phase first h) =
      let z : step_of mine ≡ 0 = omega arith in
      let q = subst (λ j. from j ≤ mine.start) z (ltb-false mine.start (from (step_of mine)) e) in
      omega arith
  unmet15 e (before-wait h earlier next late) =
      let least : 1 ≤ (slot_at slots h).step = omega (arith, before h earlier.earlier) in
      let z : step_of mine ≡ suc (step_of (slot_at slots h)) = omega arith in
      let found = found_at h earlier (suc (step_of (slot_at slots h))) (omega arith) in
      let q = subst (λ j. from j ≤ mine.start) z (ltb-false mine.start (from (step_of mine)) e) in
      let r = subst (λ (y : Slot). slot_end L y + L.wait row (step_of (slot_at slots h)) ≤ mine.start) found q in
      omega arith

  -- it ends a window late
  abbrev late : Window → Bool
  late = late_in L slots mine mine.row

  module _ (ok : Acceptable L) where
    there : row < L.rows
    there = omega (arith, named.names.row_from, named.names.row-to)

    late-at : (p : ℕ) → p < length (L.windows row) → late (window_of L row p) ≡ true → EndsWindowLate L slots k
    late-at p lp e =
        let w = window_of L row p in
        let a = eqb mine.step w.last in
        let b = ltb ((slot_for slots mine.row w.first).start + w.limit) (slot_end L mine) in
        let last = eqb-true mine.step w.last (and_left a b e) in
        let s = lower (w.first - 1) (omega (arith, ok.first-least row p there lp, ok.first-last row p there lp)) in
        let earlier : EarlierOfRow slots s.place k = record { earlier = s.earlier; same_row = s.its-row } in
        let first : (slot_at slots s.place).step ≡ w.first =
        omega (arith, s.its-step, ok.first-least row p there lp) in
        let late =
        ltb-true ((slot_for slots mine.row w.first).start + w.limit) (slot_end L mine) (and_right a b e) in
        record {
          window = p;
          there = lp;
          is_last = last;
          opened = s.place;
          of_row = earlier;
          is-first = first;
          late =
              subst (λ (y : Slot). y.start + w.limit < slot_end L mine) (found_at s.place earlier w.first first)
              late;
        }

    pub met16 : ends_window_late L slots mine ≡ true → EndsWindowLate L slots k
    met16 e = let f = any_in-true late no_window (L.windows row) e in late-at f.place f.below f.has

    pub unmet16 : ends_window_late L slots mine ≡ false → ¬ EndsWindowLate L slots k
    unmet16 e m =
        let w = window_of L row m.window in
        let found = found_at m.opened m.of_row w.first m.is-first in
        true-false (ends_window_late L slots mine)
        (true-any_in late no_window (L.windows row) m.window m.there
        (and_both (eqb mine.step w.last)
        (ltb ((slot_for slots mine.row w.first).start + w.limit) (slot_end L mine))
        (eq-eqb mine.step w.last m.is_last)
        (lt-ltb _ (slot_end L mine)
        (subst (λ (y : Slot). y.start + w.limit < slot_end L mine) (sym found) m.late))))
        e
