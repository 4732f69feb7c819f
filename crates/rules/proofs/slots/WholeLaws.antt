-- A list of slots that fit one behind the other and are as many for each row as it has steps: each step stands there
-- once, the steps of a row in order, and all rules of a schedule hold but the rows' deadlines.
use Prim.Native.Nat.{ℕ, suc, ◌+◌, ◌≤◌, ◌<◌}
use mathlib.Core.Bool.{true}
use mathlib.Core.List.{List}
use mathlib.Core.Path.{◌≡◌, ap, sym, ◌∙◌}
use native.Mathlib.Decide.{dec_lt}
use native.Mathlib.Omega.{arith}
use lib.Dec.{eqb}
use lib.ListN.{length}
use borrow.Author.Tests.{eqb-true}
use Rattle.load.specs.Load.{shown}
use Rattle.load.specs.View.{View, is_free, steps_in_all}
use Rattle.load.specs.Acceptable.{window_of as window_at}
use Rattle.rules.specs.declared.Slot.{Slot}
use Rattle.rules.specs.Slots.{slot_at, row_of, step_of, slot_end}
use Rattle.rules.specs.ScheduleRules.{NamesStep, HasSlot, OneRow, SlotRules}
use Rattle.rules.proofs.slots.NextLaws.{
  count_to-ranked,
  slot_is,
  of_row-mono,
  in_order,
  once,
  Ordered,
  lower-first,
}
use Rattle.rules.proofs.slots.SlotLaws.{AfterLower, of_row, Fits}

pub record Whole (L : View) (slots : List Slot) : Type 0 where
  pub fits : (k : ℕ) → k < length slots → Fits L slots k (slot_at slots k)
  pub count : (i : ℕ) → i < L.rows → of_row slots (shown i) (length slots) ≡ L.steps i
  pub in_all : length slots ≡ steps_in_all L

module _ (L : View) (slots : List Slot) (w : Whole L slots) where
  pub names : (k : ℕ) → k < length slots → NamesStep L (slot_at slots k)
  names k l = (w.fits k l).names

  ordered : Ordered slots
  ordered = in_order slots (λ k l. (w.fits k l).next)

  -- each step has its slot
  pub each : (i j : ℕ) → i < L.rows → j < L.steps i → HasSlot slots i j
  each i j l h =
      let r =
      count_to-ranked (λ y. eqb (slot_at slots y).row (shown i)) (length slots) j (omega (arith, w.count i l)) in
      let row = eqb-true (slot_at slots r.place).row (shown i) r.has in
      record {
        place = r.place;
        below = r.below;
        its-row = row;
        its-step =
            omega (
              arith,
              (w.fits r.place r.below).next,
              r.rank,
              ap (λ y. of_row slots y r.place) row,
            );
      }

  -- a step starts when the step before it has ended and its wait has passed
  pub waits : (k h : ℕ) → OneRow slots k h → (slot_at slots h).step ≡ (slot_at slots k).step + 1
      → slot_end L (slot_at slots k) + L.wait (row_of (slot_at slots k)) (step_of (slot_at slots k))
      ≤ (slot_at slots h).start
  waits k h r e =
      let mine = slot_is L (slot_at slots k) (names k r.first) in
      (w.fits h r.second).wait k (row_of (slot_at slots k)) (step_of (slot_at slots k))
      (lower-first slots ordered k h r (omega arith)) mine
      (record { its-row = sym r.same ∙ mine.its-row; its-step = omega (arith, mine.its-step) })

  -- a window is kept
  pub windows-kept : ((i p : ℕ) → i < L.rows → p < length (L.windows i)
      → (window_at L i p).first < (window_at L i p).last)
      → (k h p : ℕ) → OneRow slots k h → p < length (L.windows (row_of (slot_at slots k)))
      → (slot_at slots k).step ≡ (window_at L (row_of (slot_at slots k)) p).first
      → (slot_at slots h).step ≡ (window_at L (row_of (slot_at slots k)) p).last
      → slot_end L (slot_at slots h) ≤ (slot_at slots k).start + (window_at L (row_of (slot_at slots k)) p).limit
  windows-kept long k h p r lp first last =
      let mine = slot_is L (slot_at slots k) (names k r.first) in
      let i = row_of (slot_at slots k) in
      let li : i < L.rows = omega (arith, (names k r.first).row_from, (names k r.first).row-to) in
      let before : k < h = lower-first slots ordered k h r (omega (arith, long i p li lp)) in
      (w.fits h r.second).window k i p before li lp mine.its-row (sym r.same ∙ mine.its-row) first last

  -- a free step stands after all lower steps of all rows
  pub free-last : ((k : ℕ) → k < length slots → AfterLower L slots k (slot_at slots k))
      → (k h : ℕ) → k < length slots → h < length slots
      → is_free L (row_of (slot_at slots k)) (step_of (slot_at slots k)) ≡ true
      → (slot_at slots h).step < (slot_at slots k).step → h < k
  free-last lower k h lk lh free low =
      let mine = slot_is L (slot_at slots k) (names k lk) in
      let its = slot_is L (slot_at slots h) (names h lh) in
      let r = row_of (slot_at slots h) in
      let lr : r < L.rows = omega (arith, (names h lh).row_from, (names h lh).row-to) in
      let below = lower k lk (row_of (slot_at slots k)) (step_of (slot_at slots k)) r mine free lr in
      elim (dec_lt h k) [
        | yes l ↦ l
        | no l ↦
            absurd (omega (
              arith,
              below,
              (names h lh).step-to,
              (names h lh).step_from,
              (w.fits h lh).next,
              ap (λ row. of_row slots row h) its.its-row,
              of_row-mono slots (shown r) k h (omega arith),
            ))
      ]

  pub rules-hold : ((i p : ℕ) → i < L.rows → p < length (L.windows i)
      → (window_at L i p).first < (window_at L i p).last)
      → SlotRules L slots
  rules-hold long =
      record {
        only = names;
        each = each;
        once = once slots ordered;
        in_order = ordered;
        no-overlap = λ k l. (w.fits (suc k) l).after k (omega arith);
        phases = λ k l e.
            (w.fits k l).phase (row_of (slot_at slots k))
            (record { its-row = (slot_is L (slot_at slots k) (names k l)).its-row; its-step = e });
        waits = waits;
        windows = windows-kept long;
      }
