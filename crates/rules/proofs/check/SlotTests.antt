-- The tests of a slot among slots that are whole: 13 to 16 are not met. A slot that is looked up by row and step is
-- there, since a lower step of the row stands before it.
use Prim.Native.Nat.{ℕ, zero, suc, ◌+◌, ◌-◌, ◌≤◌, ◌<◌}
use mathlib.Core.Bool.{Bool, true, false, cond, ◌&&◌, not}
use mathlib.Core.List.{List}
use mathlib.Core.Path.{◌≡◌, refl, ap, sym, ◌∙◌}
use native.Mathlib.Numerals.{add-one}
use native.Mathlib.Omega.{arith}
use lib.Dec.{eqb, ltb}
use lib.ListN.{length}
use borrow.Author.Tests.{eqb-true, le-ltb, eq-eqb}
use Rattle.counting.proofs.tests.TestLaws.{and_left, and_right, and_both}
use Rattle.counting.proofs.lists.MemberLaws.{First, true-any_in, false-any_in, any_in-true}
use Rattle.refusals.specs.declared.Refusal.TheVariants.{RowLate}
use Rattle.std.specs.Prelude.{Ok, Err}
use Rattle.load.specs.declared.Window.{Window}
use Rattle.load.specs.Load.{last_moment, shown, no_window}
use Rattle.load.specs.View.{View}
use Rattle.load.specs.Acceptable.{window_of as window_at}
use Rattle.load.proofs.RangeLaws.{within-outside}
use Rattle.rules.specs.declared.Slot.{Slot}
use Rattle.rules.specs.Ready.{release}
use Rattle.rules.specs.Slots.{no_slot, slot_at, row_of, step_of, slot_end, is_for, slot_for}
use Rattle.rules.specs.Check.{
  names_no_step,
  not_next,
  overlaps,
  starts_early,
  ends_window_late,
  ends_row_late,
  slot_tests,
  slot_fault,
}
use Rattle.rules.specs.ScheduleRules.{NamesStep, HasSlot}
use Rattle.rules.proofs.slots.SlotLaws.{of_row, IsSlot}
use Rattle.rules.proofs.slots.WholeLaws.{Whole, names, each}
use Rattle.rules.proofs.slots.NextLaws.{slot_is, in_order, lower-first}

-- the slot that a row and a step are looked up by stands in the list
pub record Looked (slots : List Slot) (row step : ℕ) : Type 0 where
  pub place : ℕ
  pub below : place < length slots
  pub is : slot_for slots row step ≡ slot_at slots place
  pub its-row : (slot_at slots place).row ≡ row
  pub its-step : (slot_at slots place).step ≡ step

pub looked : (slots : List Slot) (i j : ℕ) → HasSlot slots i j → Looked slots (shown i) (shown j)
unfolding slot_for
looked slots i j h =
    go
    (any_in-true (is_for (shown i) (shown j)) no_slot slots
    (true-any_in (is_for (shown i) (shown j)) no_slot slots h.place h.below right))
  where
    right : is_for (shown i) (shown j) (slot_at slots h.place) ≡ true
    right =
        and_both (eqb (slot_at slots h.place).row (shown i)) (eqb (slot_at slots h.place).step (shown j))
        (eq-eqb (slot_at slots h.place).row (shown i) h.its-row)
        (eq-eqb (slot_at slots h.place).step (shown j) h.its-step)

    go : First (is_for (shown i) (shown j)) no_slot slots → Looked slots (shown i) (shown j)
    go s =
        record {
          place = s.place;
          below = s.below;
          is = s.is;
          its-row =
              eqb-true (slot_at slots s.place).row (shown i)
              (and_left (eqb (slot_at slots s.place).row (shown i)) (eqb (slot_at slots s.place).step (shown j))
              s.has);
          its-step =
              eqb-true (slot_at slots s.place).step (shown j)
              (and_right (eqb (slot_at slots s.place).row (shown i)) (eqb (slot_at slots s.place).step (shown j))
              s.has);
        }

-- a window whose last step is the slot's ends late, by the row under which its first step is looked up
abbrev pub late_in : View → List Slot → Slot → ℕ → Window → Bool
late_in L slots x row v = eqb x.step v.last && ltb ((slot_for slots row v.first).start + v.limit) (slot_end L x)

module _ (L : View) (slots : List Slot) (w : Whole L slots)
    (long : (i p : ℕ) → i < L.rows → p < length (L.windows i) → (window_at L i p).first < (window_at L i p).last)
    (first : (i p : ℕ) → i < L.rows → p < length (L.windows i) → 1 ≤ (window_at L i p).first)
    (k : ℕ) (l : k < length slots) where
  abbrev x : Slot
  x = slot_at slots k

  abbrev i : ℕ
  i = row_of x

  mine : NamesStep L x
  mine = names L slots w k l

  is : IsSlot i (step_of x) x
  is = slot_is L x mine

  there : i < L.rows
  there = omega (arith, mine.row_from, mine.row-to)

  names-false : names_no_step L x ≡ false
  names-false =
      rw (
        within-outside 1 L.rows x.row mine.row_from mine.row-to,
        within-outside 1 (L.steps i) x.step mine.step_from mine.step-to,
      )

  next-false : not_next slots k x ≡ false
  next-false = ap not (eq-eqb x.step (shown (of_row slots x.row k)) (w.fits k l).next)

  start-false : ltb last_moment x.start ≡ false
  start-false = le-ltb last_moment x.start mine.start-to

  overlaps-false : overlaps L slots k x ≡ false
  overlaps-false = go k refl
    where
      go : (h : ℕ) → k ≡ h → overlaps L slots h x ≡ false
      go zero e = refl
      go (suc h) e = le-ltb x.start (slot_end L (slot_at slots h)) ((w.fits k l).after h (omega arith))

  -- a lower step of its row stands before it
  module _ (j : ℕ) (low : shown j < x.step) where
    found : Looked slots (shown i) (shown j)
    found = looked slots i j (each L slots w i j there (omega (arith, mine.step-to)))

    before : found.place < k
    before =
        lower-first slots (in_order slots (λ h lh. (w.fits h lh).next)) found.place k
        (record { first = found.below; second = l; same = found.its-row ∙ sym is.its-row })
        (omega (arith, found.its-step))

    found-is : slot_for slots x.row (shown j) ≡ slot_at slots found.place
    found-is = ap (λ row. slot_for slots row (shown j)) is.its-row ∙ found.is

  early-false : starts_early L slots x ≡ false
  early-false =
      le-ltb x.start (release L i (step_of x) (slot_end L (slot_for slots x.row (step_of x))))
      (go (step_of x) refl)
    where
      go : (j : ℕ) → step_of x ≡ j → release L i j (slot_end L (slot_for slots x.row j)) ≤ x.start
      go zero e = (w.fits k l).phase i (record { its-row = is.its-row; its-step = is.its-step ∙ ap shown e })
      go (suc j) e =
          let low : shown j < x.step = omega (arith, mine.step_from) in
          let f = found j low in
          let q : slot_for slots x.row (suc j) ≡ slot_at slots f.place =
          ap (slot_for slots x.row) (sym (add-one j)) ∙ found-is j low in
          rw q
          ((w.fits k l).wait f.place i j (before j low) (record { its-row = f.its-row; its-step = f.its-step })
          (record { its-row = is.its-row; its-step = is.its-step ∙ ap shown e }))

  window-false : ends_window_late L slots x ≡ false
  window-false = false-any_in late no_window (L.windows i) (λ p lp. at p lp (eqb x.step (window_at L i p).last) refl)
    where
      late : Window → Bool
      late = late_in L slots x x.row

      at : (p : ℕ) → p < length (L.windows i) → (b : Bool) → eqb x.step (window_at L i p).last ≡ b
          → late (window_at L i p) ≡ false
      at p lp false e = rw e
      at p lp true e = rw (e, q) (le-ltb ((slot_at slots f.place).start + v.limit) (slot_end L x) in-time)
        where
          v : Window
          v = window_at L i p

          step : x.step ≡ v.last
          step = eqb-true x.step v.last e

          opens : v.first ≡ shown (v.first - 1)
          opens = omega (arith, first i p there lp)

          low : shown (v.first - 1) < x.step
          low = omega (arith, long i p there lp, step, opens)

          f : Looked slots (shown i) (shown (v.first - 1))
          f = found (v.first - 1) low

          q : slot_for slots x.row v.first ≡ slot_at slots f.place
          q = ap (slot_for slots x.row) opens ∙ found-is (v.first - 1) low

          in-time : slot_end L x ≤ (slot_at slots f.place).start + v.limit
          in-time =
              (w.fits k l).window f.place i p (before (v.first - 1) low) there lp f.its-row is.its-row
              (f.its-step ∙ sym opens) step

  -- 13 to 16 are not met
  pub slot-late : slot_fault L slots k ≡ cond (ends_row_late L x) (Err RowLate) (Ok tt)
  unfolding slot_tests
  slot-late = rw (names-false, next-false, start-false, overlaps-false, early-false, window-false)
