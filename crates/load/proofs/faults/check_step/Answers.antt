-- `load::check_step` asks the cost and then the wait.
use mathlib.Core.Path.{sym, ◌∙◌}
use borrow.Author.Tests.{lt-ltb, le-ltb}
use Rattle.load.proofs.faults.check_step.Goals as goal

pub returns-then-is_outside : goal.returns-then-is_outside
returns-then-is_outside c = simp (sym c.is_outside.ensures ∙ c.if-is_outside.true)

pub returns-then-most_wait-step : goal.returns-then-most_wait-step
returns-then-most_wait-step c =
    simp (
      sym c.is_outside.ensures ∙ c.if-is_outside.false,
      ← c.most_wait.ensures,
      lt-ltb _ _ c.if-most_wait-step.true,
    )

pub returns : goal.returns
returns c =
    simp (
      sym c.is_outside.ensures ∙ c.if-is_outside.false,
      ← c.most_wait.ensures,
      le-ltb _ _ c.if-most_wait-step.false,
    )
