-- Counting slots by row: none of a row in a stretch, one in a stretch, and all rows together, each of which has at most
-- as many slots as steps, so that as many slots as steps in all means as many for each row.
use Prim.Native.Nat.{ℕ, zero, suc, ◌+◌, ◌-◌, ◌≤◌, ◌<◌}
use mathlib.Core.Bool.{cond}
use mathlib.Core.List.{List}
use mathlib.Core.Logic.{◌≢◌}
use mathlib.Core.Path.{◌≡◌, refl, ap, ◌∙◌}
use native.Mathlib.Decide.{ℕ_discrete, dec_lt}
use native.Mathlib.Omega.{arith}
use lib.Dec.{eqb}
use lib.ListN.{length}
use borrow.Author.Tests.{eqb-true, eq-eqb, ne_eqb, lt-ltb}
use Rattle.counting.specs.Sums.{sum_to, bit}
use Rattle.counting.proofs.sums.SumLaws.{sum_to-add, sum_to-split, sum_to-none}
use Rattle.counting.proofs.sums.ChangeLaws.{sum_to-suc, sum_to-change-ge}
use Rattle.counting.proofs.lists.NumbersLaws.{sum_to-only}
use Rattle.load.specs.Load.{shown}
use Rattle.load.specs.View.{View, steps_in_all}
use Rattle.rules.specs.declared.Slot.{Slot}
use Rattle.rules.specs.Slots.{slot_at, row_of, slot_end}
use Rattle.rules.specs.ScheduleRules.{NamesStep}
use Rattle.rules.proofs.slots.SlotLaws.{of_row}
use Rattle.rules.proofs.slots.NextLaws.{count_to-ranked, EachNext}

-- no slot of the row from a on and below b
pub of_row-none : (slots : List Slot) (row a b : ℕ) → a ≤ b
    → ((h : ℕ) → a ≤ h → h < b → (slot_at slots h).row ≢ row) → of_row slots row b ≡ of_row slots row a
of_row-none slots row a b l h =
    let e : a + (b - a) ≡ b = omega arith in
    let f : ℕ → ℕ = λ y. bit (eqb (slot_at slots y).row row) in
    omega (
      arith,
      ap (sum_to f) e,
      sum_to-split f a (b - a),
      sum_to-none (λ y. f (a + y)) (b - a)
          (λ y ly. ap bit (ne_eqb (slot_at slots (a + y)).row row (h (a + y) (omega arith) (omega arith)))),
    )

-- one slot of the row, at a
pub of_row-one : (slots : List Slot) (row a b : ℕ) → a < b → (slot_at slots a).row ≡ row
    → ((h : ℕ) → a < h → h < b → (slot_at slots h).row ≢ row) → of_row slots row b ≡ suc (of_row slots row a)
of_row-one slots row a b l e h =
    omega (
      arith,
      of_row-none slots row (suc a) b l (λ y ly. h y (omega arith)),
      sum_to-suc (λ y. bit (eqb (slot_at slots y).row row)) a,
      ap bit (eq-eqb (slot_at slots a).row row e),
    )

-- a slot of one row is counted once
of_row-each : (row rows : ℕ) → 1 ≤ row → row ≤ rows → sum_to (λ i. bit (eqb row (shown i))) rows ≡ 1
of_row-each row rows a b =
    sum_to-only (λ i. bit (eqb row (shown i))) rows (row - 1)
    (λ k l ne. ap bit (ne_eqb row (shown k) (λ e. ne (omega arith))))
    ∙ (ap (λ t. cond t (bit (eqb row (shown (row - 1)))) 0) (lt-ltb (row - 1) rows (omega arith))
    ∙ ap bit (eq-eqb row (shown (row - 1)) (omega arith)))

-- all rows together
pub of_row-all : (L : View) (slots : List Slot) (n : ℕ) → ((h : ℕ) → h < n → NamesStep L (slot_at slots h))
    → sum_to (λ i. of_row slots (shown i) n) L.rows ≡ n
unfolding sum_to
of_row-all L slots zero names = sum_to-none (λ i. 0) L.rows (λ i l. refl)
of_row-all L slots (suc n) names =
    let x = names n (omega arith) in
    omega (
      arith,
      sum_to-add (λ i. of_row slots (shown i) n) (λ i. bit (eqb (slot_at slots n).row (shown i))) L.rows,
      of_row-all L slots n (λ h l. names h (omega arith)),
      of_row-each (slot_at slots n).row L.rows x.row_from x.row-to,
    )

module _ (L : View) (slots : List Slot) (names : (k : ℕ) → k < length slots → NamesStep L (slot_at slots k))
    (next : EachNext slots) where
  -- a row has at most as many slots as steps
  of_row-le : (i : ℕ) → of_row slots (shown i) (length slots) ≤ L.steps i
  of_row-le i =
      elim (dec_lt (L.steps i) (of_row slots (shown i) (length slots))) [
        | no l ↦ omega arith
        | yes l ↦
            (let r = count_to-ranked (λ y. eqb (slot_at slots y).row (shown i)) (length slots) (L.steps i) l in
            let x = slot_at slots r.place in
            let row = eqb-true x.row (shown i) r.has in
            let its : row_of x ≡ i = omega arith in
            absurd (omega (
              arith,
              next r.place r.below,
              r.rank,
              ap (λ y. of_row slots y r.place) row,
              (names r.place r.below).step-to,
              ap L.steps its,
            )))
      ]

  -- and, where there are as many slots as steps in all, as many
  pub of_row-steps : length slots ≡ steps_in_all L → (i : ℕ) → i < L.rows
      → of_row slots (shown i) (length slots) ≡ L.steps i
  of_row-steps all i l =
      elim (dec_lt (of_row slots (shown i) (length slots)) (L.steps i)) [
        | no h ↦ omega (arith, of_row-le i)
        | yes h ↦
            absurd (omega (
              arith,
              of_row-all L slots (length slots) names,
              sum_to-change-ge (λ k. of_row slots (shown k) (length slots)) L.steps L.rows i 1 l
                  (λ k lk ne. of_row-le k) (omega arith),
            ))
      ]

-- no slot starts before any earlier one ends, if none does before the one before it
pub after-all : (L : View) (slots : List Slot)
    → ((k : ℕ) → suc k < length slots → slot_end L (slot_at slots k) ≤ (slot_at slots (suc k)).start)
    → (k h : ℕ) → k < length slots → h < k → slot_end L (slot_at slots h) ≤ (slot_at slots k).start
after-all L slots near zero h lk l = absurd (omega arith)
after-all L slots near (suc k) h lk l =
    elim (ℕ_discrete h k) [
      | yes e ↦ rw e (near k lk)
      | no e ↦ omega (arith, after-all L slots near k h (omega arith) (omega arith), near k lk)
    ]
