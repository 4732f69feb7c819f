-- "A second program prints place and row at the end of each row line" (document 02, 2026-01), and
-- all other lines as the program does. Rests on D46 and D85.
use Rattle.std.specs.Prelude.{ℕ, List}
use Rattle.lines.specs.declared.Text.{Text}
use Rattle.lines.specs.Calls.{BlamedTextOf}
use Rattle.lines.specs.Inputs.{OfEveryInput}

-- answer(file, size): the text of every input whose first bytes were read
abbrev pub Answer : List ℕ → ℕ → Text → Type 0
Answer places size r = OfEveryInput BlamedTextOf places size r
