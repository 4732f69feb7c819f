-- What a load has that can be written as version 1 or as a sheet: its own check passes, and each of its rows has class
-- 0 and head 1. The check of a plain load is Good exactly there.
use Prim.Native.Nat.{ℕ, ◌<◌}
use mathlib.Core.Bool.{false, not}
use mathlib.Core.List.{[], ◌∷◌}
use mathlib.Core.Path.{◌≡◌}
use lib.Dec.{eqb}
use borrow.Author.Tests.{eqb-true, not-false}
use Rattle.counting.proofs.tests.TestLaws.{or_left, or_right, any_to-false, false-any_to}
use Rattle.std.specs.Prelude.{Ok}
use Rattle.refusals.specs.FirstMet.{first_met}
use Rattle.refusals.proofs.FirstFaultLaws.{first_met-good, first_fault-good}
use Rattle.load.specs.declared.Row.{Row}
use Rattle.load.specs.declared.Load.{Load}
use Rattle.load.specs.Load.{only_head, row_at}
use Rattle.load.specs.Check.{check_load}
use Rattle.load.specs.Plain.{not_plain, carried_tests, check_plain}

-- a row's test is not met: its class is 0, and its head is 1
module _ (row : Row) where
  not_plain-class : not_plain row ≡ false → row.class ≡ 0
  not_plain-class e = eqb-true _ _ (not-false _ (or_left (not (eqb row.class 0)) (not (eqb row.head only_head)) e))

  not_plain-head : not_plain row ≡ false → row.head ≡ only_head
  not_plain-head e = eqb-true _ _ (not-false _ (or_right (not (eqb row.class 0)) (not (eqb row.head only_head)) e))

  plain-test : row.class ≡ 0 → row.head ≡ only_head → not_plain row ≡ false
  plain-test class head = rw (class, head)

-- what the check of a plain load asks
pub record PlainGood (load : Load) : Type 0 where
  pub load-good : check_load load ≡ Ok tt
  pub class-zero : (i : ℕ) → i < load.rows → (row_at load i).class ≡ 0
  pub head-one : (i : ℕ) → i < load.rows → (row_at load i).head ≡ only_head

module _ (load : Load) where
  pub check_plain-good : check_plain load ≡ Ok tt → PlainGood load
  unfolding check_plain
  check_plain-good e =
      let finding = first_fault-good (check_load load ∷ first_met (carried_tests load) ∷ []) e in
      let none = first_met-good (carried_tests load) (finding 1) 0 in
      let each = any_to-false (λ i. not_plain (row_at load i)) load.rows none in
      record {
        load-good = finding 0;
        class-zero = λ i l. not_plain-class (row_at load i) (each i l);
        head-one = λ i l. not_plain-head (row_at load i) (each i l);
      }

  pub good-check_plain : PlainGood load → check_plain load ≡ Ok tt
  unfolding check_plain
  good-check_plain g =
      let none =
      false-any_to (λ i. not_plain (row_at load i)) load.rows
      (λ i l. plain-test (row_at load i) (g.class-zero i l) (g.head-one i l)) in
      rw (g.load-good, none)
