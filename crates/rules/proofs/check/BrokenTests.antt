-- The tests 13, 14 and 17 of a slot are the plain rules, whatever the other slots are: a test that is met is a rule
-- that is broken, and one that is not met a rule that is kept. 13 is asked by three tests.
use Prim.Native.Nat.{ℕ, zero, suc}
use mathlib.Core.Bool.{Bool, true, false, ◌||◌}
use mathlib.Core.List.{List}
use mathlib.Core.Path.{◌≡◌, refl, sym, subst}
use native.Mathlib.Omega.{arith}
use lib.Dec.{eqb, ltb}
use borrow.Author.Tests.{eqb-true, eqb-false, ltb-true, ltb-false, lt-ltb, eq-eqb, not-true, not-false}
use Rattle.counting.proofs.tests.TestLaws.{and_left, and_right, and_both, or_left, or_right, true-false}
use Rattle.load.specs.Load.{last_moment, shown}
use Rattle.load.specs.View.{View}
use Rattle.load.specs.Faults.{outside}
use Rattle.load.proofs.RangeLaws.{outside-least, outside-most}
use Rattle.rules.specs.declared.Slot.{Slot}
use Rattle.rules.specs.Slots.{slot_at, row_of, slot_end}
use Rattle.rules.specs.Check.{names_no_step, not_next, overlaps, ends_row_late}
use Rattle.rules.specs.ScheduleRules.{NamesStep}
use Rattle.rules.specs.FirstBroken.{
  NamesNothing,
  row_zero,
  row-past,
  step-zero,
  step_past,
  not-next,
  start-past,
  Overlaps,
  EndsRowLate,
}
use Rattle.rules.proofs.slots.SlotLaws.{of_row}

-- one of two tests is met
or_cases : {A : Type 0} → (a b : Bool) → (a || b) ≡ true → (a ≡ true → A) → (b ≡ true → A) → A
or_cases true b e f g = f refl
or_cases false b e f g = g e

-- a slot that names its row's next step
pub record Named (L : View) (slots : List Slot) (k : ℕ) : Type 0 where
  pub names : NamesStep L (slot_at slots k)
  pub next : (slot_at slots k).step ≡ shown (of_row slots (slot_at slots k).row k)

module _ (L : View) (slots : List Slot) (k : ℕ) where
  abbrev x : Slot
  x = slot_at slots k

  -- 13 is asked by three tests
  abbrev pub asks13 : Bool
  asks13 = names_no_step L x || not_next slots k x || ltb last_moment x.start

  pub met13 : asks13 ≡ true → NamesNothing L slots k
  met13 e =
      or_cases (names_no_step L x || not_next slots k x) (ltb last_moment x.start) e
      (λ q. or_cases (names_no_step L x) (not_next slots k x) q
      (λ n. or_cases (outside 1 L.rows x.row) (outside 1 (L.steps (row_of x)) x.step) n
      (λ r. or_cases (ltb x.row 1) (ltb L.rows x.row) r
      (λ z. row_zero (omega (arith, ltb-true x.row 1 z))) (λ p. row-past (ltb-true L.rows x.row p)))
      (λ t. or_cases (ltb x.step 1) (ltb (L.steps (row_of x)) x.step) t
      (λ z. step-zero (omega (arith, ltb-true x.step 1 z)))
      (λ p. step_past (ltb-true (L.steps (row_of x)) x.step p))))
      (λ n. not-next
      (eqb-false x.step (shown (of_row slots x.row k))
      (not-true (eqb x.step (shown (of_row slots x.row k))) n))))
      (λ p. start-past (ltb-true last_moment x.start p))

  pub unmet13 : asks13 ≡ false → Named L slots k
  unmet13 e =
      let both = or_left (names_no_step L x || not_next slots k x) (ltb last_moment x.start) e in
      let there = or_left (names_no_step L x) (not_next slots k x) both in
      let a = outside 1 L.rows x.row in
      let b = outside 1 (L.steps (row_of x)) x.step in
      let row = or_left a b there in
      let step = or_right a b there in
      record {
        names = record {
          row_from = outside-least 1 L.rows x.row row;
          row-to = outside-most 1 L.rows x.row row;
          step_from = outside-least 1 (L.steps (row_of x)) x.step step;
          step-to = outside-most 1 (L.steps (row_of x)) x.step step;
          start-to =
              ltb-false last_moment x.start
              (or_right (names_no_step L x || not_next slots k x) (ltb last_moment x.start) e);
        };
        next =
            eqb-true x.step (shown (of_row slots x.row k))
            (not-false (eqb x.step (shown (of_row slots x.row k)))
            (or_right (names_no_step L x) (not_next slots k x) both));
      }

  pub named-right : Named L slots k → ¬ NamesNothing L slots k
  named-right n (row_zero e) = omega (arith, n.names.row_from)
  named-right n (row-past e) = omega (arith, n.names.row-to)
  named-right n (step-zero e) = omega (arith, n.names.step_from)
  named-right n (step_past e) = omega (arith, n.names.step-to)
  named-right n (not-next e) = e n.next
  named-right n (start-past e) = omega (arith, n.names.start-to)

  -- 14
  pub met14 : overlaps L slots k x ≡ true → Overlaps L slots k
  met14 e = go k refl e
    where
      go : (h : ℕ) → k ≡ h → overlaps L slots h (slot_at slots k) ≡ true → Overlaps L slots k
      go zero q m = absurd (true-false false m refl)
      go (suc h) q m =
          record { previous = h; is-previous = sym q; starts-before = ltb-true _ (slot_end L (slot_at slots h)) m }

  pub unmet14 : overlaps L slots k x ≡ false → ¬ Overlaps L slots k
  unmet14 e o =
      let q = subst (λ h. overlaps L slots h (slot_at slots k) ≡ false) (sym o.is-previous) e in
      omega (arith, o.starts-before, ltb-false x.start (slot_end L (slot_at slots o.previous)) q)

  -- 17
  pub met17 : ends_row_late L x ≡ true → EndsRowLate L slots k
  met17 e =
      let a = eqb x.step (L.steps (row_of x)) in
      let b = ltb (L.deadline (row_of x)) (slot_end L x) in
      record {
        is_last = eqb-true x.step (L.steps (row_of x)) (and_left a b e);
        late = ltb-true (L.deadline (row_of x)) (slot_end L x) (and_right a b e);
      }

  pub unmet17 : ends_row_late L x ≡ false → ¬ EndsRowLate L slots k
  unmet17 e l =
      true-false (ends_row_late L x)
      (and_both (eqb x.step (L.steps (row_of x))) (ltb (L.deadline (row_of x)) (slot_end L x))
      (eq-eqb x.step (L.steps (row_of x)) l.is_last)
      (lt-ltb (L.deadline (row_of x)) (slot_end L x) l.late))
      e
