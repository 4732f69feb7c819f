-- "The program": the lines that it prints for a load file, as bytes; and those of the program that
-- says whom to blame (document 02, 2026-01): "A second program prints place and row at the end of
-- each row line; the first prints as before." Rests on D24 and D85.
use Rattle.std.specs.Prelude.{ℕ, Bool, true, false, cond, List, [], ◌∷◌, ◌++◌, ℤ, Ok, Err}
use Prim.Native.String.{String}
use Rattle.counting.specs.Lists.{join_to, join_in}
use Rattle.words.specs.Decimal.{text, decimal, signed_decimal}
use Rattle.refusals.specs.declared.Refusal.{Refusal}
use Rattle.refusals.specs.Refusals.{number_of}
use Rattle.load.specs.declared.Row.{Row}
use Rattle.load.specs.declared.Load.{Load}
use Rattle.load.specs.Load.{row_at, shown}
use Rattle.load.specs.View.{View, view_of, steps_in_all}
use Rattle.load_file.specs.Places.{load_in}
use Rattle.load_file.specs.Reading.{file_for_bench}
use Rattle.rules.specs.declared.Blame.{Blame}
use Rattle.rules.specs.declared.Slot.{Slot}
use Rattle.rules.specs.Bound.{bound}
use Rattle.rules.specs.Margins.{margin, verdict}
use Rattle.rules.specs.Blame.{row_blame}
use Rattle.rules.specs.Slots.{last_end}
use Rattle.rules.specs.Run.{schedule}

-- words with a space before each but the first
unfoldable pub spaced : List ℕ → List (List ℕ) → List ℕ
spaced word [] = word
spaced word (next ∷ rest) = word ++ 32 ∷ spaced next rest

-- a line: a first word, the others, and a line feed
abbrev pub line : String → List (List ℕ) → List ℕ
line word others = spaced (text word) others ++ 10 ∷ []

-- the verdict in a word
abbrev pub yes_or_no : Bool → List ℕ
yes_or_no answer = cond answer (text "yes") (text "no")

-- first line: rows, steps, end of the last step (0 if none), bound, verdict
unfoldable pub first_line_of : ℕ → ℕ → ℕ → ℕ → Bool → List ℕ
first_line_of rows steps end bound answer =
    line "load"
    (decimal rows ∷ decimal steps ∷ decimal end ∷ decimal bound ∷ yes_or_no answer ∷ [])

-- the first line of a load with its schedule
unfoldable pub load_line : View → List Slot → List ℕ
load_line L slots =
    first_line_of L.rows (steps_in_all L) (last_end L slots) (bound L) (verdict L)

-- "place and row at the end of each row line", where the program says whom to blame (2026-01)
abbrev pub blame_words : Bool → Blame → List (List ℕ)
blame_words blamed blame =
    cond blamed (decimal blame.place ∷ decimal blame.row ∷ []) []

-- row lines: row, identifier, box, margin, and what follows it (2026-01)
unfoldable pub row_line_of : ℕ → Row → ℤ → List (List ℕ) → List ℕ
row_line_of row fields margin more =
    line "row"
    (decimal row
    ∷ decimal fields.identifier.0
    ∷ decimal fields.box_number.0
    ∷ signed_decimal margin
    ∷ more)

-- the line of a load's row at a place, with whom it blames or without (2026-01)
unfoldable pub row_line : Bool → Load → ℕ → List ℕ
row_line blamed load i =
    row_line_of (shown i) (row_at load i) (margin (view_of load) i)
    (blame_words blamed (row_blame (view_of load) i))

-- slot lines: start, row, step
unfoldable pub slot_line : Slot → List ℕ
slot_line slot =
    line "slot" (decimal slot.start ∷ decimal slot.row ∷ decimal slot.step ∷ [])

-- the lines of a load, row lines as above (2026-01)
unfoldable pub load_lines : Bool → Load → List ℕ
load_lines blamed load =
    let slots = schedule (view_of load) in
    load_line (view_of load) slots
    ++ join_to (row_line blamed load) load.rows
    ++ join_in slot_line slots

-- a refused file: `refused`, a space and the number
unfoldable pub refused_line : Refusal → List ℕ
refused_line refusal = line "refused" (decimal (number_of refusal) ∷ [])

-- what is printed for a file: the lines of its load, or the one line of its refusal (2026-01)
unfoldable pub printed_by : Bool → List ℕ → List ℕ
printed_by blamed bs =
    elim (file_for_bench bs) [
      | (Ok tt) ↦ load_lines blamed (load_in bs)
      | Err refusal ↦ refused_line refusal
    ]

-- what the program prints for a file
abbrev pub printed : List ℕ → List ℕ
printed bs = printed_by false bs

-- what is printed by the program that says whom to blame (2026-01)
abbrev pub printed_blamed : List ℕ → List ℕ
printed_blamed bs = printed_by true bs
