-- `has_shape` asks the clock, the rows of the load and the places of the others in turn.
use mathlib.Core.Path.{sym, ◌∙◌}
use borrow.Author.Tests.{le-leb, lt-leb}
use Rattle.bench.proofs.shown.LookLaws.{shaped-is}
use Rattle.bench.proofs.shape.has_shape.Goals as goal

pub returns-then-bench-gt-LAST_MOMENT : goal.returns-then-bench-gt-LAST_MOMENT
returns-then-bench-gt-LAST_MOMENT c =
    rw (shaped-is c.args.load c.args.bench, lt-leb _ _ c.if-bench-gt-LAST_MOMENT.true)

pub returns-then-not-rows_shaped : goal.returns-then-not-rows_shaped
returns-then-not-rows_shaped c =
    rw (
      shaped-is c.args.load c.args.bench,
      le-leb _ _ c.if-bench-gt-LAST_MOMENT.false,
      sym c.rows_shaped.ensures ∙ c.if-not-rows_shaped.true,
    )

pub returns : goal.returns
returns c =
    rw (
      shaped-is c.args.load c.args.bench,
      le-leb _ _ c.if-bench-gt-LAST_MOMENT.false,
      sym c.rows_shaped.ensures ∙ c.if-not-rows_shaped.false,
      c.unused_from.ensures,
    )
