-- Slots each of which is its row's next: the steps of a row stand in order, and once.
use Prim.Native.Nat.{ℕ, zero, suc, ◌+◌, ◌≤◌, ◌<◌}
use mathlib.Core.Bool.{Bool, true, false}
use mathlib.Core.List.{List}
use mathlib.Core.Path.{◌≡◌, refl, ap, sym, ◌∙◌}
use native.Mathlib.Decide.{ℕ_discrete, dec_lt}
use native.Mathlib.Omega.{arith}
use lib.Dec.{eqb}
use lib.ListN.{length}
use borrow.Author.Tests.{eqb-true, eq-eqb}
use Rattle.counting.specs.Sums.{sum_to, bit, count_to}
use Rattle.counting.proofs.sums.ChangeLaws.{sum_to-more, sum_to-more-term}
use Rattle.load.specs.Load.{shown}
use Rattle.load.specs.View.{View}
use Rattle.rules.specs.declared.Slot.{Slot}
use Rattle.rules.specs.Slots.{slot_at, row_of, step_of}
use Rattle.rules.specs.ScheduleRules.{NamesStep, OneRow}
use Rattle.rules.proofs.slots.SlotLaws.{of_row, IsSlot}

-- the place below n at which the numbers that have p are j
pub record Ranked (p : ℕ → Bool) (n j : ℕ) : Type 0 where
  pub place : ℕ
  pub below : place < n
  pub has : p place ≡ true
  pub rank : count_to p place ≡ j

pub count_to-ranked : (p : ℕ → Bool) (n j : ℕ) → j < count_to p n → Ranked p n j
unfolding sum_to
count_to-ranked p zero j h = absurd (omega arith)
count_to-ranked p (suc n) j h =
    elim (dec_lt j (count_to p n)) [
      | yes l ↦
          (let r = count_to-ranked p n j l in
          record { place = r.place; below = omega (arith, r.below); has = r.has; rank = r.rank })
      | no l ↦ last (p n) refl h (omega arith)
    ]
  where
    last : (b : Bool) → p n ≡ b → j < count_to p n + bit b → count_to p n ≤ j → Ranked p (suc n) j
    last true e q l = record { place = n; below = omega arith; has = e; rank = omega arith }
    last false e q l = absurd (omega arith)

-- a slot of a row, before place n, for the step at place j
pub record LowerSlot (slots : List Slot) (row j n : ℕ) : Type 0 where
  pub place : ℕ
  pub earlier : place < n
  pub its-row : (slot_at slots place).row ≡ row
  pub its-step : (slot_at slots place).step ≡ shown j

-- a slot's own row and step
pub slot_is : (L : View) (x : Slot) → NamesStep L x → IsSlot (row_of x) (step_of x) x
slot_is L x e = record { its-row = omega (arith, e.row_from); its-step = omega (arith, e.step_from) }

module _ (slots : List Slot) (row : ℕ) where
  pub of_row-mono : (k h : ℕ) → k ≤ h → of_row slots row k ≤ of_row slots row h
  of_row-mono k h l = sum_to-more (λ y. bit (eqb (slot_at slots y).row row)) k h l

  pub of_row-lt : (k h : ℕ) → k < h → (slot_at slots k).row ≡ row → of_row slots row k < of_row slots row h
  of_row-lt k h l e =
      let one : bit (eqb (slot_at slots k).row row) ≡ 1 = ap bit (eq-eqb (slot_at slots k).row row e) in
      omega (arith, sum_to-more-term (λ y. bit (eqb (slot_at slots y).row row)) k h l)

-- each of the first n slots is of its row's next step
abbrev pub NextTo : List Slot → ℕ → Type 0
NextTo slots n = (k : ℕ) → k < n → (slot_at slots k).step ≡ shown (of_row slots (slot_at slots k).row k)

-- each slot is
abbrev pub EachNext : List Slot → Type 0
EachNext slots = NextTo slots (length slots)

module _ (slots : List Slot) (n : ℕ) (next : NextTo slots n) where
  -- the steps of a row stand in order among them
  pub order-to : (k h : ℕ) → k < h → h < n → (slot_at slots k).row ≡ (slot_at slots h).row
      → (slot_at slots k).step < (slot_at slots h).step
  order-to k h l below same =
      omega (
        arith,
        next k (omega arith),
        next h below,
        of_row-lt slots (slot_at slots k).row k h l refl,
        ap (λ row. of_row slots row h) same,
      )

  -- and a step that is lower than that of the slot behind them has its slot
  pub lower-to : (row j : ℕ) → j < of_row slots row n → LowerSlot slots row j n
  lower-to row j l =
      let r = count_to-ranked (λ y. eqb (slot_at slots y).row row) n j l in
      let its = eqb-true (slot_at slots r.place).row row r.has in
      record {
        place = r.place;
        earlier = r.below;
        its-row = its;
        its-step =
            next r.place r.below ∙ ap shown (ap (λ y. of_row slots y r.place) its ∙ r.rank);
      }

-- the steps of a row stand in order
abbrev pub Ordered : List Slot → Type 0
Ordered slots = (k h : ℕ) → OneRow slots k h → k < h → (slot_at slots k).step < (slot_at slots h).step

pub in_order : (slots : List Slot) → EachNext slots → Ordered slots
in_order slots next k h r l = order-to slots (length slots) next k h l r.second r.same

module _ (slots : List Slot) (ordered : Ordered slots) where
  -- the other of two slots of a row before the one
  behind : (k h : ℕ) → OneRow slots k h → h < k → (slot_at slots h).step < (slot_at slots k).step
  behind k h r l = ordered h k (record { first = r.second; second = r.first; same = sym r.same }) l

  -- of two slots of a row the one of the lower step stands first
  pub lower-first : (k h : ℕ) → OneRow slots k h → (slot_at slots k).step < (slot_at slots h).step → k < h
  lower-first k h r l =
      elim (dec_lt k h) [
        | yes q ↦ q
        | no q ↦ elim (ℕ_discrete k h) [
          | yes e ↦ absurd (omega (arith, ap (λ y. (slot_at slots y).step) e))
          | no e ↦ absurd (omega (arith, behind k h r (omega arith)))
        ]
      ]

  -- and each step stands once
  pub once : (k h : ℕ) → OneRow slots k h → (slot_at slots k).step ≡ (slot_at slots h).step → k ≡ h
  once k h r e =
      elim (ℕ_discrete k h) [
        | yes q ↦ q
        | no q ↦ elim (dec_lt k h) [
          | yes l ↦ absurd (omega (arith, ordered k h r l))
          | no l ↦ absurd (omega (arith, behind k h r (omega arith)))
        ]
      ]
