-- `lamp_word` lights one row a turn: at i it has the word of the first i rows, and 2 ^ i for the next row's bit.
use Rattle.std.proofs.Common.{◌≡◌, ◌^◌}
use Rattle.counting.specs.Lists.{is_marked}
use Rattle.words.specs.LampWord.{word_of}
use Rattle.bench.proofs.lamps.lamp_word.Given as goal

abbrev pub invariant-loop-opened : goal.invariant-loop-opened
invariant-loop-opened l =
    (l.place ≡ 2 ^ l.opened-index) × (l.word ≡ word_of (is_marked l.board.opened) l.opened-index)
