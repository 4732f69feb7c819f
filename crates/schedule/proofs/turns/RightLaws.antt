-- A slot whose tests are not met names a step of the load, which is its row's next.
use Prim.Native.Nat.{ℕ, ◌≤◌}
use mathlib.Core.List.{List}
use mathlib.Core.Path.{◌≡◌}
use lib.Dec.{eqb, ltb}
use borrow.Author.Tests.{ltb-false, eqb-true, not-false}
use Rattle.counting.proofs.tests.TestLaws.{or_left, or_right}
use Rattle.std.specs.Prelude.{Ok}
use Rattle.refusals.proofs.FirstFaultLaws.{first_met-good}
use Rattle.load.specs.Load.{shown}
use Rattle.load.specs.View.{View}
use Rattle.load.specs.Faults.{outside}
use Rattle.rules.specs.declared.Slot.{Slot}
use Rattle.rules.specs.Slots.{slot_at, row_of}
use Rattle.rules.specs.Check.{slot_tests as rule_tests, slot_fault}
use Rattle.rules.proofs.slots.SlotLaws.{of_row}

-- a slot names a step, and the row's next one
pub record Right (L : View) (slots : List Slot) (k : ℕ) (x : Slot) : Type 0 where
  pub row_from : 1 ≤ x.row
  pub row-to : x.row ≤ L.rows
  pub step_from : 1 ≤ x.step
  pub step-to : x.step ≤ L.steps (row_of x)
  pub next : x.step ≡ shown (of_row slots x.row k)

-- a slot whose tests are not met is right
pub tests-right : (L : View) (slots : List Slot) (k : ℕ) → slot_fault L slots k ≡ Ok tt
    → Right L slots k (slot_at slots k)
unfolding rule_tests
tests-right L slots k e =
    let x = slot_at slots k in
    let t = first_met-good (rule_tests L slots k x) e in
    let last = L.steps (row_of x) in
    let rows = or_left (outside 1 L.rows x.row) (outside 1 last x.step) (t 0) in
    let steps = or_right (outside 1 L.rows x.row) (outside 1 last x.step) (t 0) in
    record {
      row_from = ltb-false x.row 1 (or_left (ltb x.row 1) (ltb L.rows x.row) rows);
      row-to = ltb-false L.rows x.row (or_right (ltb x.row 1) (ltb L.rows x.row) rows);
      step_from = ltb-false x.step 1 (or_left (ltb x.step 1) (ltb last x.step) steps);
      step-to = ltb-false last x.step (or_right (ltb x.step 1) (ltb last x.step) steps);
      next =
          eqb-true x.step (shown (of_row slots x.row k))
          (not-false (eqb x.step (shown (of_row slots x.row k))) (t 1));
    }
