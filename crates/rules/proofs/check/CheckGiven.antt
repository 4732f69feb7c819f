-- What the check of slots against an acceptable load gives, exactly: 12 where there are not as many slots as steps, and
-- else the number of the first rule that is broken.
use mathlib.Core.Bool.{Bool, true, false}
use mathlib.Core.List.{List}
use mathlib.Core.Logic.{◌↔◌, ◌≢◌}
use mathlib.Core.Path.{◌≡◌, refl, ap, sym, ◌∙◌}
use native.Mathlib.Omega.{arith}
use lib.Dec.{eqb}
use lib.ListN.{length}
use borrow.Author.Tests.{eqb-true, eqb-false, ne_eqb}
use Rattle.refusals.specs.declared.Refusal.TheVariants.{SlotCount}
use Rattle.std.specs.Prelude.{Err}
use Rattle.refusals.specs.Refusals.{number_given}
use Rattle.load.specs.View.{View, steps_in_all}
use Rattle.load.specs.Acceptable.{Acceptable}
use Rattle.rules.specs.declared.Slot.{Slot}
use Rattle.rules.specs.Check.{check_slots}
use Rattle.rules.specs.FirstBroken.{Rule, refusal_for, CountedFirst}
use Rattle.rules.proofs.check.SlotsPass.{check_slots-counted}
use Rattle.rules.proofs.check.BrokenSlot.{numbered-range}
use Rattle.rules.proofs.check.FirstBroken.{first-given, found_number}

module _ (L : View) (ok : Acceptable L) (slots : List Slot) where
  miscounted : length slots ≢ steps_in_all L → check_slots L slots ≡ Err SlotCount
  unfolding check_slots
  miscounted ne = rw (ne_eqb (length slots) (steps_in_all L) ne)

  pub count-given : (check_slots L slots ≡ Err SlotCount) ↔ (length slots ≢ steps_in_all L)
  count-given = (
    λ e same. found_number L ok slots (ap number_given (sym (check_slots-counted L slots same) ∙ e)),
    miscounted,
  )

  pub rule-given : (rule : Rule) → (check_slots L slots ≡ Err (refusal_for rule)) ↔ CountedFirst L slots rule
  rule-given rule = (to, λ c. check_slots-counted L slots c.as_many ∙ (first-given L ok slots rule).1 c.first)
    where
      to : check_slots L slots ≡ Err (refusal_for rule) → CountedFirst L slots rule
      to e = go (eqb (length slots) (steps_in_all L)) refl
        where
          go : (b : Bool) → eqb (length slots) (steps_in_all L) ≡ b → CountedFirst L slots rule
          go true q =
              let same = eqb-true (length slots) (steps_in_all L) q in
              let given = sym (check_slots-counted L slots same) ∙ e in
              record { as_many = same; first = (first-given L ok slots rule).0 given }
          go false q =
              absurd (omega (
                arith,
                ap number_given (sym (miscounted (eqb-false (length slots) (steps_in_all L) q)) ∙ e),
                (numbered-range rule).0,
              ))
