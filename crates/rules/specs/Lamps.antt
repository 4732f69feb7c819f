-- "One move of the bench": "a word with one bit per row for the lamps (bit 0 is row 1), saying
-- which windows are open after the move, and the count of those rows". To be read after
-- State. Rests on D15.
use Rattle.std.specs.Prelude.{ℕ}
use Rattle.counting.specs.Sums.{count_to}
use Rattle.words.specs.LampWord.{word_of}
use Rattle.load.specs.View.{View}
use Rattle.rules.specs.State.{State, is_open}

-- the lamp word
unfoldable pub lamp_word : View → State → ℕ
lamp_word L s = word_of (is_open L s) L.rows

-- how many rows have an open window
unfoldable pub lamp_count : View → State → ℕ
lamp_count L s = count_to (is_open L s) L.rows
