-- What each public call's contract says: one relation a call, over what it takes, what it gives,
-- and what the lent bytes hold afterwards. To be read after Lines. Rests on D45 and D85.
use Rattle.std.specs.Prelude.{ℕ, ◌+◌, ◌-◌, ◌*◌, List, ◌++◌, ◌≡◌, length, replicate, Result, Ok}
use Rattle.refusals.specs.declared.Refusal.{Refusal}
use Rattle.refusals.specs.Given.{WritesOut}
use Rattle.load.specs.Load.{most_rows, most_steps}
use Rattle.lines.specs.declared.Text.{Text}
use Rattle.lines.specs.Lines.{printed, printed_blamed}

-- the most bytes of a first line: `load`, four numbers of at most ten digits and `yes`, with a
-- space before each, and a line feed
abbrev pub first_most : ℕ
first_most = 4 + 4 * (1 + 10) + 4 + 1

-- the most bytes of a row line: `row`, three such numbers, one with a sign, two more where it says
-- whom to blame, and a line feed (2026-01)
abbrev pub row_most : ℕ
row_most = 3 + 3 * (1 + 10) + 12 + 2 * (1 + 10) + 1

-- the most bytes of a slot line: `slot`, three such numbers, and a line feed
abbrev pub slot_most : ℕ
slot_most = 4 + 3 * (1 + 10) + 1

-- how many places a text has: enough for the first line, 24 row lines and the lines of 192 slots
abbrev pub text_places : ℕ
text_places = first_most + most_rows * row_most + most_rows * most_steps * slot_most

-- what is printed as a text: its length, its bytes, and 0 in the places past them
abbrev pub text_holding : List ℕ → Text
text_holding bs =
    record { length = length bs; bytes = bs ++ replicate (text_places - length bs) 0 }

-- text_of(bytes): all that the program prints for the file
abbrev pub TextOf : List ℕ → Text → Type 0
TextOf bs r = r ≡ text_holding (printed bs)

-- blamed_text_of(bytes): all that is printed by the program that says whom to blame (2026-01)
abbrev pub BlamedTextOf : List ℕ → Text → Type 0
BlamedTextOf bs r = r ≡ text_holding (printed_blamed bs)

-- print_lines(bytes, out): 9 where the output is too short, and the output as it was; or the length
-- of what the program prints for the file, and that at the output's front
abbrev pub PrintLines : List ℕ → List ℕ → Result ℕ Refusal → List ℕ → Type 0
PrintLines bs out r after = WritesOut (Ok tt) (printed bs) out r after

-- print_blames(bytes, out): the same, with what is printed by the program that says whom to blame
-- (2026-01)
abbrev pub PrintBlames : List ℕ → List ℕ → Result ℕ Refusal → List ℕ → Type 0
PrintBlames bs out r after = WritesOut (Ok tt) (printed_blamed bs) out r after
