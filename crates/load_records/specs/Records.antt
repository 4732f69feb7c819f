-- "Load file", the table: the mark that opens each record, how long the record is, and the bytes of
-- each record, in version 1 and in version 2 (2026-05). Rests on D92.
use Rattle.std.specs.Prelude.{ℕ, ◌+◌, ◌*◌, Bool, cond, ◌||◌, List, [], ◌∷◌, ◌++◌, eqb}
use Rattle.words.specs.LittleEndian.{little_endian}
use Rattle.load.specs.declared.Step.{Step}
use Rattle.load.specs.declared.Window.{Window}
use Rattle.load.specs.declared.Row.{Row}
use Rattle.load.specs.Load.{most_rows, most_steps, most_windows}

-- a mark of two bytes, and how many bytes its record has, the mark counted
pub record Kind : Type 0 where
  pub mark₁ : ℕ
  pub mark₂ : ℕ
  pub size : ℕ

-- the versions that there are
abbrev pub is_version : ℕ → Bool
is_version v = eqb v 1 || eqb v 2

-- "Version 2 of the load file carries class and head"
abbrev pub carries : ℕ → Bool
carries v = eqb v 2

-- the version that carries the most
abbrev pub newest : ℕ
newest = 2

-- 4C 44, version (1), row count (1)
abbrev pub header_kind : Kind
header_kind = record { mark₁ = 0x4C; mark₂ = 0x44; size = 4 }

-- 52 57, identifier (4), box (4), phase (4), deadline (4), steps (1), windows (1); in version 2
-- class (1) and head (1) "after the row's window count"
abbrev pub row_kind : ℕ → Kind
row_kind v = record { mark₁ = 0x52; mark₂ = 0x57; size = cond (carries v) 22 20 }

-- 53 54, cost (2), wait (2)
abbrev pub step_kind : Kind
step_kind = record { mark₁ = 0x53; mark₂ = 0x54; size = 6 }

-- 57 4E, first (1), last (1), limit (2)
abbrev pub window_kind : Kind
window_kind = record { mark₁ = 0x57; mark₂ = 0x4E; size = 6 }

-- 45 4E, steps in the whole load (2)
abbrev pub end_kind : Kind
end_kind = record { mark₁ = 0x45; mark₂ = 0x4E; size = 4 }

-- the most bytes that a row has with its steps and its windows
abbrev pub most_row_bytes : ℕ
most_row_bytes = (row_kind newest).size + most_steps * step_kind.size
    + most_windows * window_kind.size

-- the most bytes that a load file has: 4 + 24 x (22 + 8 x 6 + 4 x 6) + 4
abbrev pub most_file_bytes : ℕ
most_file_bytes = header_kind.size + most_rows * most_row_bytes + end_kind.size

-- a record: its mark, then its fields
abbrev pub record_of : Kind → List ℕ → List ℕ
record_of kind fields = kind.mark₁ ∷ kind.mark₂ ∷ fields

-- the header of a file of a version, with so many rows
abbrev pub header_record : ℕ → ℕ → List ℕ
header_record v rows = record_of header_kind (v ∷ rows ∷ [])

-- the class and the head of a row, where the version carries them
abbrev pub class_and_head : ℕ → Row → List ℕ
class_and_head v row = cond (carries v) (row.class ∷ row.head ∷ []) []

-- a row's own record
abbrev pub row_record : ℕ → Row → List ℕ
row_record v row =
    record_of (row_kind v)
    (little_endian 4 row.identifier.0
    ++ little_endian 4 row.box_number.0
    ++ little_endian 4 row.phase
    ++ little_endian 4 row.deadline
    ++ row.steps ∷ row.windows ∷ class_and_head v row)

-- a step's record
abbrev pub step_record : Step → List ℕ
step_record s = record_of step_kind (little_endian 2 s.cost ++ little_endian 2 s.wait)

-- a window's record
abbrev pub window_record : Window → List ℕ
window_record w = record_of window_kind (w.first ∷ w.last ∷ little_endian 2 w.limit)

-- the end record of a load of so many steps
abbrev pub end_record : ℕ → List ℕ
end_record steps = record_of end_kind (little_endian 2 steps)
