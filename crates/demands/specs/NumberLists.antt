-- "Numbers given back": the numbers of the table, and which of them go together. Each list stands
-- here once. To be read before Numbers.
use Rattle.std.specs.Prelude.{ℕ, ◌≤◌, true, List, [], ◌∷◌, ◌++◌, ◌≡◌, eqb}
use Rattle.counting.specs.Lists.{any_in}
use Rattle.refusals.specs.Refusals.{last_number}

-- a number is one of the table's
pub record InTable (n : ℕ) : Type 0 where
  pub least : 1 ≤ n
  pub most : n ≤ last_number

-- a number given back is 0, or one of these
abbrev pub OneOf : List ℕ → ℕ → Type 0
OneOf numbers n = any_in (eqb n) (0 ∷ numbers) ≡ true

-- 3: a number out of its range
abbrev pub of_range : List ℕ
of_range = 3 ∷ []

-- 3 and 21: a row's own fields
abbrev pub of_fields : List ℕ
of_fields = of_range ++ 21 ∷ []

-- 3, 21 and 4 to 7: a load in memory, and so "the load's own numbers"
abbrev pub of_load : List ℕ
of_load = of_fields ++ 4 ∷ 5 ∷ 6 ∷ 7 ∷ []

-- the load's own and 22: a load to be written where no class and no head is carried
abbrev pub of_plain : List ℕ
of_plain = of_load ++ 22 ∷ []

-- 1 to 8 and 21: a file, and so "the file's own numbers"
abbrev pub of_file : List ℕ
of_file = 1 ∷ 2 ∷ of_load ++ 8 ∷ []

-- 18 to 20: the lines of a sheet
abbrev pub of_lines : List ℕ
of_lines = 18 ∷ 19 ∷ 20 ∷ []

-- 3, 21, 4, 5, 7 and 18 to 20: a sheet, which is never given 6
abbrev pub of_sheet : List ℕ
of_sheet = of_fields ++ 4 ∷ 5 ∷ 7 ∷ of_lines

-- 12 to 17: slots
abbrev pub of_slots : List ℕ
of_slots = 12 ∷ 13 ∷ 14 ∷ 15 ∷ 16 ∷ 17 ∷ []

-- 17: a row that ends late
abbrev pub of_late_row : List ℕ
of_late_row = 17 ∷ []

-- 3, 6 and 7: a window, and the parts of a row
abbrev pub of_window : List ℕ
of_window = 3 ∷ 6 ∷ 7 ∷ []

-- 10 and 11: a state
abbrev pub of_state : List ℕ
of_state = 10 ∷ 11 ∷ []

-- 9: an output that is too short
abbrev pub of_output : List ℕ
of_output = 9 ∷ []

-- the file's own and 9: a call for C
abbrev pub of_c : List ℕ
of_c = of_file ++ of_output

-- the load's own and 9: a load that is written
abbrev pub of_writing : List ℕ
of_writing = of_load ++ of_output

-- the load's own, 22 and 9: a load that is written as version 1 or as a sheet
abbrev pub of_plain_writing : List ℕ
of_plain_writing = of_plain ++ of_output

-- 3 and 9: slots that are written
abbrev pub of_slot_writing : List ℕ
of_slot_writing = of_range ++ of_output

-- the load's own, then 12 to 17: a schedule that is checked
abbrev pub of_schedule : List ℕ
of_schedule = of_load ++ of_slots

-- the load's own, 10 and 11: a move
abbrev pub of_move : List ℕ
of_move = of_load ++ of_state
