-- "18 malformed line, or a number of over ten digits; 19 a row's box, phase or deadline differs
-- between lines; 20 a dash with no window before it or, found at the next line or the end, a window
-- of one step; in line order, on one line in this order." To be read after Lines. Rests on D87.
use Rattle.std.specs.Prelude.{ℕ, zero, suc, Bool, true, false, not, ◌&&◌, ◌||◌, List, [], ◌∷◌, eqb}
use Rattle.std.specs.Prelude.{ltb}
use Rattle.refusals.specs.declared.Refusal.{Refusal}
use Rattle.refusals.specs.declared.Refusal.TheVariants.{LineMalformed, RowDiffers, WindowDash}
use Rattle.refusals.specs.Checked.{Checked}
use Rattle.refusals.specs.FirstMet.{first_met, first_fault, first_fault_to}
use Rattle.sheet_line.specs.declared.Mark.{Mark}
use Rattle.sheet_line.specs.declared.Mark.TheVariants.{Nothing, Dash, Limit}
use Rattle.sheet_line.specs.declared.Line.{Line}
use Rattle.sheet_line.specs.Line.{is_line}
use Rattle.sheet_line.specs.Calls.{no_line}
use Rattle.sheet.specs.Lines.{line_place, line_from, lines_in}

-- a dash
abbrev pub is_dash : Mark → Bool
is_dash Nothing = false
is_dash Dash = true
is_dash (Limit limit) = false

-- a limit, with which a window begins
abbrev pub is_limit : Mark → Bool
is_limit Nothing = false
is_limit Dash = false
is_limit (Limit limit) = true

-- two lines of one row, by all digits of their identifiers
abbrev pub is_same_row : Line → Line → Bool
is_same_row line other = eqb line.identifier other.identifier

-- box, phase or deadline differs between two lines
abbrev pub row_differs : Line → Line → Bool
row_differs line other =
    not (eqb line.box_number other.box_number)
    || not (eqb line.phase other.phase)
    || not (eqb line.deadline other.deadline)

-- what a line is asked beside the one before it: whether it is a line, and whether it goes on with
-- the row of the line before
unfoldable pub line_tests : Bool → Bool → Line → Line → List (Bool × Refusal)
line_tests is_there goes_on before line =
    (not is_there, LineMalformed)
    ∷ (goes_on && row_differs line before, RowDiffers)
    -- a dash, and no window directly before it in its row
    ∷ (
      is_dash line.mark
          && not (goes_on && (is_limit before.mark || is_dash before.mark)),
      WindowDash,
    )
    -- a window that the line before began, and this one does not go on with
    ∷ (is_limit before.mark && not (goes_on && is_dash line.mark), WindowDash)
    ∷ []

-- the line before line n; before the first there is none
abbrev pub line_before : List ℕ → ℕ → Line
line_before bs zero = no_line
line_before bs (suc n) = line_from bs 0 n

-- line n goes on with the row of the line before: "a new identifier begins a row"
abbrev pub goes_on : List ℕ → ℕ → Bool
goes_on bs n = ltb 0 n && is_same_row (line_from bs 0 n) (line_before bs n)

-- line n of a sheet
unfoldable pub line_fault : List ℕ → ℕ → Checked
line_fault bs n =
    first_met
    (line_tests (is_line bs (line_place bs 0 n)) (goes_on bs n) (line_before bs n)
    (line_from bs 0 n))

-- the end, behind the last line: a window of one step
abbrev pub end_tests : Line → List (Bool × Refusal)
end_tests before = (is_limit before.mark, WindowDash) ∷ []

-- the lines in their order, and the end
unfoldable pub lines_fault : List ℕ → Checked
lines_fault bs =
    first_fault
    (first_fault_to (line_fault bs) (lines_in bs)
    ∷ first_met (end_tests (line_before bs (lines_in bs)))
    ∷ [])
