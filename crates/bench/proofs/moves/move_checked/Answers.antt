-- `move_checked` asks for the load's shape first.
use mathlib.Core.Path.{sym, ◌∙◌}
use Rattle.load.specs.View.{view_of}
use Rattle.bench.proofs.choice.NextLaws.{unshaped-move}
use Rattle.bench.proofs.moves.move_checked.Goals as goal

pub returns-then-not-has_shape : goal.returns-then-not-has_shape
returns-then-not-has_shape c =
    c.refused.ensures
    ∙ sym
    (unshaped-move c.args.bench (view_of c.args.load)
    (sym c.has_shape.ensures ∙ c.if-not-has_shape.true))

pub move_shaped-requires : goal.move_shaped-requires
move_shaped-requires c = record {
  load_value = c.requires;
  bench_value = sym c.has_shape.ensures ∙
      c.if-not-has_shape.false;
}
