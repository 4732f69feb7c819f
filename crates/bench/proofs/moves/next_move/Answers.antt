-- `next_move` checks the load first: its refusal is the move's, and else the move is the rules'.
use mathlib.Core.Path.{sym, ◌∙◌}
use Rattle.bench.proofs.choice.NextLaws.{next_move-good, next_move-refused}
use Rattle.bench.proofs.moves.next_move.Goals as goal

pub returns-in-Ok : goal.returns-in-Ok
returns-in-Ok c =
    let good = sym c.check_load.ensures ∙ c.in-Ok.is in
    c.move_checked.ensures ∙ sym (next_move-good c.args.load c.args.bench good)

pub returns-in-Err : goal.returns-in-Err
returns-in-Err c =
    let bad = sym c.check_load.ensures ∙ c.in-Err.is in
    c.refused.ensures ∙ sym (next_move-refused c.args.load c.args.bench _ bad)
