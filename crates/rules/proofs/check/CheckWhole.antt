-- Slots that the check passes are whole, and each row's last step ends by its deadline: each test that is not met is a
-- fact, and the slot that a test looks up by row and step is the only one of that row and step.
use Prim.Native.Nat.{ℕ, suc, ◌+◌, ◌-◌, ◌≤◌, ◌<◌}
use mathlib.Core.Bool.{Bool, false, ◌&&◌, ◌||◌, not}
use mathlib.Core.List.{List, [], ◌∷◌}
use mathlib.Core.Path.{◌≡◌, ap, sym, ◌∙◌, subst}
use native.Mathlib.Numerals.{add-one}
use native.Mathlib.Omega.{arith}
use lib.Dec.{eqb, ltb}
use lib.ListN.{length}
use borrow.Author.Tests.{eqb-true, ltb-false, eq-eqb, not-false}
use Rattle.counting.specs.Lists.{any_in}
use Rattle.counting.proofs.tests.TestLaws.{or-neither}
use Rattle.counting.proofs.lists.MemberLaws.{any_in-false}
use Rattle.refusals.specs.declared.Refusal.TheVariants.{SlotCount}
use Rattle.refusals.specs.Checked.{Checked}
use Rattle.std.specs.Prelude.{Ok}
use Rattle.refusals.specs.FirstMet.{first_met, first_fault_to}
use Rattle.refusals.proofs.FirstMetLaws.{first_fault_to-good}
use Rattle.refusals.proofs.FirstFaultLaws.{first_met-good, first_fault-good}
use Rattle.load.specs.declared.Window.{Window}
use Rattle.load.specs.Load.{last_moment, shown, no_window}
use Rattle.load.specs.View.{View, steps_in_all}
use Rattle.load.specs.Acceptable.{window_of as window_at}
use Rattle.rules.specs.declared.Slot.{Slot}
use Rattle.rules.specs.Ready.{release}
use Rattle.rules.specs.Slots.{slot_at, row_of, step_of, slot_end, slot_for}
use Rattle.rules.specs.Check.{
  names_no_step,
  not_next,
  overlaps,
  starts_early,
  ends_window_late,
  ends_row_late,
  slot_tests,
  check_slots,
  slot_fault,
}
use Rattle.rules.specs.ScheduleRules.{NamesStep}
use Rattle.rules.proofs.slots.SlotLaws.{IsSlot}
use Rattle.rules.proofs.slots.NextLaws.{EachNext, once, in_order}
use Rattle.rules.proofs.slots.RowCounts.{of_row-steps, after-all}
use Rattle.rules.proofs.check.SlotTests.{looked, late_in}
use Rattle.rules.proofs.slots.WholeLaws.{Whole}
use Rattle.rules.proofs.check.BrokenTests.{Named, unmet13}

-- no test of the slot at place k is met
record Unmet (L : View) (slots : List Slot) (k : ℕ) (x : Slot) : Type 0 where
  names : names_no_step L x ≡ false
  next : not_next slots k x ≡ false
  start : ltb last_moment x.start ≡ false
  overlap : overlaps L slots k x ≡ false
  early : starts_early L slots x ≡ false
  window : ends_window_late L slots x ≡ false
  row : ends_row_late L x ≡ false

slot-unmet : (L : View) (slots : List Slot) (k : ℕ) (x : Slot) → first_met (slot_tests L slots k x) ≡ Ok tt
    → Unmet L slots k x
unfolding slot_tests
slot-unmet L slots k x e =
    let t = first_met-good (slot_tests L slots k x) e in
    record { names = t 0; next = t 1; start = t 2; overlap = t 3; early = t 4; window = t 5; row = t 6 }

-- 12, and then slot by slot
abbrev counted : View → List Slot → Checked
counted L slots = first_met ((not (eqb (length slots) (steps_in_all L)), SlotCount) ∷ [])

abbrev slot_by_slot : View → List Slot → Checked
slot_by_slot L slots = first_fault_to (slot_fault L slots) (length slots)

count-met : (L : View) (slots : List Slot) → check_slots L slots ≡ Ok tt → length slots ≡ steps_in_all L
unfolding check_slots
count-met L slots e =
    let c = first_fault-good (counted L slots ∷ slot_by_slot L slots ∷ []) e 0 in
    eqb-true (length slots) (steps_in_all L)
    (not-false (eqb (length slots) (steps_in_all L))
    (first_met-good ((not (eqb (length slots) (steps_in_all L)), SlotCount) ∷ []) c 0))

slots-met : (L : View) (slots : List Slot) → check_slots L slots ≡ Ok tt → (k : ℕ) → k < length slots
    → Unmet L slots k (slot_at slots k)
unfolding check_slots
slots-met L slots e k l =
    slot-unmet L slots k (slot_at slots k)
    (first_fault_to-good (slot_fault L slots) (length slots)
    (first_fault-good (counted L slots ∷ slot_by_slot L slots ∷ []) e 1) k l)

module _ (L : View) (slots : List Slot) (e : check_slots L slots ≡ Ok tt) where
  met : (k : ℕ) → k < length slots → Unmet L slots k (slot_at slots k)
  met = slots-met L slots e

  met-named : (k : ℕ) → k < length slots → Named L slots k
  met-named k l =
      let x = slot_at slots k in
      let m = met k l in
      unmet13 L slots k
      (or-neither (names_no_step L x || not_next slots k x) (ltb last_moment x.start)
      (or-neither (names_no_step L x) (not_next slots k x) m.names m.next) m.start)

  met-names : (k : ℕ) → k < length slots → NamesStep L (slot_at slots k)
  met-names k l = (met-named k l).names

  met_next : EachNext slots
  met_next k l = (met-named k l).next

  met-overlap : (k : ℕ) → suc k < length slots → slot_end L (slot_at slots k) ≤ (slot_at slots (suc k)).start
  met-overlap k l = ltb-false (slot_at slots (suc k)).start (slot_end L (slot_at slots k)) (met (suc k) l).overlap

  -- the slot that is looked up is the only one
  found-is : (h i j : ℕ) → h < length slots → IsSlot i j (slot_at slots h)
      → slot_for slots (shown i) (shown j) ≡ slot_at slots h
  found-is h i j l is =
      let f = looked slots i j (record { place = h; below = l; its-row = is.its-row; its-step = is.its-step }) in
      f.is
      ∙ ap (slot_at slots)
      (once slots (in_order slots met_next) f.place h
      (record { first = f.below; second = l; same = f.its-row ∙ sym is.its-row })
      (f.its-step ∙ sym is.its-step))

  -- the moment from which a slot may start
  met-release : (k i j : ℕ) → k < length slots → IsSlot i j (slot_at slots k)
      → release L i j (slot_end L (slot_for slots (shown i) j)) ≤ (slot_at slots k).start
  met-release k i j l is =
      let x = slot_at slots k in
      let er : row_of x ≡ i = omega (arith, is.its-row) in
      let ej : step_of x ≡ j = omega (arith, is.its-step) in
      let from = ltb-false x.start (release L (row_of x) (step_of x) (slot_end L (slot_for slots x.row (step_of x))))
      (met k l).early in
      subst (λ r. release L r j (slot_end L (slot_for slots (shown i) j)) ≤ x.start) er
      (subst (λ t. release L (row_of x) t (slot_end L (slot_for slots (shown i) t)) ≤ x.start) ej
      (subst (λ row. release L (row_of x) (step_of x) (slot_end L (slot_for slots row (step_of x)))
      ≤ x.start) is.its-row
      from))

  met-wait : (k h i j : ℕ) → k < length slots → h < k → IsSlot i j (slot_at slots h)
      → IsSlot i (suc j) (slot_at slots k)
      → slot_end L (slot_at slots h) + L.wait i j ≤ (slot_at slots k).start
  met-wait k h i j l lh a b =
      let q : slot_for slots (shown i) (suc j) ≡ slot_at slots h =
      ap (slot_for slots (shown i)) (sym (add-one j)) ∙ found-is h i j (omega arith) a in
      subst (λ (y : Slot). slot_end L y + L.wait i j ≤ (slot_at slots k).start) q (met-release k i (suc j) l b)

  -- a window that slot k ends
  met-last : (k i p : ℕ) → k < length slots → (slot_at slots k).row ≡ shown i → p < length (L.windows i)
      → (slot_at slots k).step ≡ (window_at L i p).last
      → slot_end L (slot_at slots k) ≤ (slot_for slots (shown i) (window_at L i p).first).start
      + (window_at L i p).limit
  met-last k i p l row lp last =
      ltb-false ((slot_for slots (shown i) (window_at L i p).first).start + (window_at L i p).limit) (slot_end L x)
      (sym (ap (λ b. b && late (window_at L i p)) (eq-eqb x.step (window_at L i p).last last)) ∙ unmet)
    where
      x : Slot
      x = slot_at slots k

      late : Window → Bool
      late v = ltb ((slot_for slots (shown i) v.first).start + v.limit) (slot_end L (slot_at slots k))

      -- by the slot's own row, and then by i
      own : (q : ℕ) → (slot_at slots k).row ≡ q
          → any_in (late_in L slots (slot_at slots k) q) (L.windows (row_of (slot_at slots k))) ≡ false
      own q e =
          subst (λ r. any_in (late_in L slots (slot_at slots k) r) (L.windows (row_of (slot_at slots k))) ≡ false) e
          (met k l).window

      er : row_of (slot_at slots k) ≡ i
      er = omega arith

      unmet : (eqb (slot_at slots k).step (window_at L i p).last && late (window_at L i p)) ≡ false
      unmet =
          any_in-false (late_in L slots (slot_at slots k) (shown i)) no_window (L.windows i)
          (subst (λ r. any_in (late_in L slots (slot_at slots k) (shown i)) (L.windows r) ≡ false) er
          (own (shown i) row))
          p lp

  met-window : (k h i p : ℕ) → k < length slots → h < k → p < length (L.windows i) → (slot_at slots h).row ≡ shown i
      → (slot_at slots k).row ≡ shown i → (slot_at slots h).step ≡ (window_at L i p).first
      → (slot_at slots k).step ≡ (window_at L i p).last
      → slot_end L (slot_at slots k) ≤ (slot_at slots h).start + (window_at L i p).limit
  met-window k h i p l lh lp a b first last =
      let lower : h < length slots = omega arith in
      let opens : (window_at L i p).first ≡ shown ((slot_at slots h).step - 1) =
      omega (arith, (met-names h lower).step_from) in
      let q : slot_for slots (shown i) (window_at L i p).first ≡ slot_at slots h =
      ap (slot_for slots (shown i)) opens
      ∙ found-is h i ((slot_at slots h).step - 1) lower (record { its-row = a; its-step = first ∙ opens }) in
      subst (λ (y : Slot). slot_end L (slot_at slots k) ≤ y.start + (window_at L i p).limit) q
      (met-last k i p l b lp last)

  pub check-whole : Whole L slots
  check-whole =
      record {
        fits = λ k l.
            record {
              names = met-names k l;
              next = met_next k l;
              after = λ h lh. after-all L slots met-overlap k h l lh;
              phase = λ i is. met-release k i 0 l is;
              wait = λ h i j lh a b. met-wait k h i j l lh a b;
              window = λ h i p lh li lp a b first last. met-window k h i p l lh lp a b first last;
            };
        count = of_row-steps L slots met-names met_next (count-met L slots e);
        in_all = count-met L slots e;
      }

  -- no row ends late
  pub check-deadlines : (k : ℕ) → k < length slots → (slot_at slots k).step ≡ L.steps (row_of (slot_at slots k))
      → slot_end L (slot_at slots k) ≤ L.deadline (row_of (slot_at slots k))
  check-deadlines k l last =
      let x = slot_at slots k in
      ltb-false (L.deadline (row_of x)) (slot_end L x)
      (sym (ap (λ b. b && ltb (L.deadline (row_of x)) (slot_end L x)) (eq-eqb x.step (L.steps (row_of x)) last))
      ∙ (met k l).row)
