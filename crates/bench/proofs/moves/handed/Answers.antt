-- `handed` counts the ones of the lamp word, which are the rows that have an open window.
use mathlib.Core.Path.{refl, ap, ◌∙◌}
use lib.Count.{ones}
use Rattle.counting.specs.Lists.{is_marked}
use Rattle.words.proofs.LampLaws.{word_of-ones}
use Rattle.bench.proofs.choice.NextLaws.{moved_by-ext}
use Rattle.bench.proofs.moves.handed.Goals as goal

pub returns : goal.returns
returns c =
    moved_by-ext c.args.outcome c.args.bench c.args.bench _ _ _ _ refl c.lamp_word-lamps.ensures
    (ap ones c.lamp_word-lamps.ensures ∙ word_of-ones (is_marked c.args.board.now.opened) c.args.rows)
