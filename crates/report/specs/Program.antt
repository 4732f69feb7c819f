-- "The program": "It reads a load file from standard input", and prints the lines of its load, or
-- `refused` and the number. Rests on D24 and D46.
use Rattle.std.specs.Prelude.{ℕ, List}
use Rattle.lines.specs.declared.Text.{Text}
use Rattle.lines.specs.Calls.{TextOf}
use Rattle.lines.specs.Inputs.{OfEveryInput}

-- answer(file, size): the text of every input whose first bytes were read
abbrev pub Answer : List ℕ → ℕ → Text → Type 0
Answer places size r = OfEveryInput TextOf places size r
