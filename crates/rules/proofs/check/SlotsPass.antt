-- The check of slots that are whole: 12 to 16 are not met, so it says Good, or 17 where a row's last step ends late.
use Prim.Native.Nat.{ℕ, zero, suc, ◌≤◌, ◌<◌}
use mathlib.Core.Bool.{Bool, true, false, cond, ◌&&◌}
use mathlib.Core.List.{List}
use mathlib.Core.Path.{◌≡◌, refl, ap, ap₂, ◌∙◌}
use native.Mathlib.Omega.{arith}
use lib.Dec.{eqb, ltb}
use lib.ListN.{length}
use borrow.Author.Tests.{eqb-true, le-ltb, eq-eqb}
use Rattle.refusals.specs.declared.Refusal.TheVariants.{RowLate}
use Rattle.refusals.specs.Checked.{Checked}
use Rattle.std.specs.Prelude.{Ok, Err}
use Rattle.refusals.specs.FirstMet.{first_fault_to, and_then}
use Rattle.refusals.proofs.FirstMetLaws.{and_then-last, good-first_fault_to}
use Rattle.load.specs.View.{View, steps_in_all}
use Rattle.load.specs.Acceptable.{window_of as window_at}
use Rattle.rules.specs.declared.Slot.{Slot}
use Rattle.rules.specs.Slots.{slot_at, row_of, slot_end}
use Rattle.rules.specs.Check.{ends_row_late, check_slots, slot_fault}
use Rattle.rules.proofs.slots.WholeLaws.{Whole}
use Rattle.rules.specs.Demand3.{GoodOrLate, good, late}
use Rattle.rules.proofs.check.SlotTests.{slot-late}

first_fault_to-late : (f : ℕ → Checked) (n : ℕ) → ((k : ℕ) → k < n → GoodOrLate (f k)) → GoodOrLate (first_fault_to f n)
unfolding first_fault_to
first_fault_to-late f zero h = good refl
first_fault_to-late f (suc n) h = go (first_fault_to-late f n (λ k l. h k (omega arith))) (h n (omega arith))
  where
    go : GoodOrLate (first_fault_to f n) → GoodOrLate (f n) → GoodOrLate (and_then (first_fault_to f n) (f n))
    go (late e) q = late (ap (λ c. and_then c (f n)) e)
    go (good e) (late q) = late (ap₂ and_then e q)
    go (good e) (good q) = good (ap₂ and_then e q)

-- with as many slots as steps, the check goes slot by slot
pub check_slots-counted : (L : View) (slots : List Slot) → length slots ≡ steps_in_all L
    → check_slots L slots ≡ first_fault_to (slot_fault L slots) (length slots)
unfolding check_slots
check_slots-counted L slots e =
    rw (eq-eqb (length slots) (steps_in_all L) e) (and_then-last (first_fault_to (slot_fault L slots) (length slots)))

module _ (L : View) (slots : List Slot) (w : Whole L slots)
    (long : (i p : ℕ) → i < L.rows → p < length (L.windows i) → (window_at L i p).first < (window_at L i p).last)
    (first : (i p : ℕ) → i < L.rows → p < length (L.windows i) → 1 ≤ (window_at L i p).first) where
  -- whatever the deadlines are
  pub check-late : GoodOrLate (check_slots L slots)
  check-late =
      rw (check_slots-counted L slots w.in_all)
      (first_fault_to-late (slot_fault L slots) (length slots) (λ k l. at k l (ends_row_late L (slot_at slots k)) refl))
    where
      at : (k : ℕ) → k < length slots → (b : Bool) → ends_row_late L (slot_at slots k) ≡ b
          → GoodOrLate (slot_fault L slots k)
      at k l true e = late (slot-late L slots w long first k l ∙ ap (λ b. cond b (Err RowLate) (Ok tt)) e)
      at k l false e = good (slot-late L slots w long first k l ∙ ap (λ b. cond b (Err RowLate) (Ok tt)) e)

  -- Good where each row's last step ends by its deadline
  pub check-good : ((k : ℕ) → k < length slots → (slot_at slots k).step ≡ L.steps (row_of (slot_at slots k))
      → slot_end L (slot_at slots k) ≤ L.deadline (row_of (slot_at slots k)))
      → check_slots L slots ≡ Ok tt
  check-good deadlines =
      check_slots-counted L slots w.in_all ∙ good-first_fault_to (slot_fault L slots) (length slots) right
    where
      in-time : (k : ℕ) → k < length slots → (b : Bool)
          → eqb (slot_at slots k).step (L.steps (row_of (slot_at slots k))) ≡ b
          → (b && ltb (L.deadline (row_of (slot_at slots k))) (slot_end L (slot_at slots k))) ≡ false
      in-time k l false e = refl
      in-time k l true e =
          le-ltb (L.deadline (row_of (slot_at slots k))) (slot_end L (slot_at slots k))
          (deadlines k l (eqb-true (slot_at slots k).step (L.steps (row_of (slot_at slots k))) e))

      right : (k : ℕ) → k < length slots → slot_fault L slots k ≡ Ok tt
      right k l =
          slot-late L slots w long first k l
          ∙ ap (λ b. cond b (Err RowLate) (Ok tt))
          (in-time k l (eqb (slot_at slots k).step (L.steps (row_of (slot_at slots k)))) refl)
