-- `chosen_row` searches once, at the clock.
use native.Mathlib.Omega.{arith}
use Rattle.plan.proofs.NextLaws.{chosen-most, chosen-past}
use Rattle.plan.proofs.choices.chosen_row.Goals as goal

pub returns-then-clock-gt-LAST_MOMENT : goal.returns-then-clock-gt-LAST_MOMENT
returns-then-clock-gt-LAST_MOMENT c =
    chosen-most _ _ _ _ _ _ c.min-last.ensures
    (chosen-past _ _ _ _ (omega (arith, c.min-last.ensures)) c.if-clock-gt-LAST_MOMENT.true)
