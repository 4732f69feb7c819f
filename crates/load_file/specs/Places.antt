-- "Load file", as it is read: where each record stands, and the load that the bytes spell, in the
-- version that they name. To be read after Records. Rests on D32 and D92.
use Rattle.std.specs.Prelude.{ℕ, zero, suc, ◌+◌, ◌*◌, cond, List}
use Rattle.counting.specs.Lists.{filled}
use Rattle.words.specs.LittleEndian.{byte_at, number_at}
use Rattle.load.specs.declared.Step.{Step}
use Rattle.load.specs.declared.Window.{Window}
use Rattle.load.specs.declared.Row.{Row}
use Rattle.load.specs.declared.Load.{Load}
use Rattle.load.specs.Load.{most_rows, most_steps, most_windows, only_head, no_step, no_window}
use Rattle.load.specs.Load.{zero_row}
use Rattle.load_records.specs.Records.{carries, header_kind, row_kind, step_kind, window_kind}

-- the version that the header names
abbrev pub version_said : List ℕ → ℕ
version_said bs = byte_at bs 2

-- the step that the record at a place spells
abbrev pub step_in : List ℕ → ℕ → Step
step_in bs at = record { cost = number_at 2 bs (at + 2); wait = number_at 2 bs (at + 4) }

-- the window that the record at a place spells
abbrev pub window_in : List ℕ → ℕ → Window
window_in bs at =
    record {
      first = byte_at bs (at + 2);
      last =
          byte_at bs (at + 3);
      limit = number_at 2 bs (at + 4);
    }

-- how many steps the row record at a place announces
abbrev pub steps_said : List ℕ → ℕ → ℕ
steps_said bs at = byte_at bs (at + 18)

-- how many windows the row record at a place announces
abbrev pub windows_said : List ℕ → ℕ → ℕ
windows_said bs at = byte_at bs (at + 19)

-- where step record j of the row at a place stands: behind the row's own record
abbrev pub step_place : List ℕ → ℕ → ℕ → ℕ
step_place bs at j = at + (row_kind (version_said bs)).size + step_kind.size * j

-- where window record k stands: behind the steps
abbrev pub window_place : List ℕ → ℕ → ℕ → ℕ
window_place bs at k = step_place bs at (steps_said bs at) + window_kind.size * k

-- the class of the row at a place: "Version 1 files .. go on being read, as class 0 and head 1"
abbrev pub class_said : List ℕ → ℕ → ℕ
class_said bs at = cond (carries (version_said bs)) (byte_at bs (at + 20)) 0

-- its head
abbrev pub head_said : List ℕ → ℕ → ℕ
head_said bs at = cond (carries (version_said bs)) (byte_at bs (at + 21)) only_head

-- the row whose own record stands at a place, with these steps and windows
unfoldable pub row_with : List ℕ → ℕ → List Step → List Window → Row
row_with bs at step window =
    record {
      identifier = record { 0 = number_at 4 bs (at + 2) };
      box_number = record { 0 = number_at 4 bs (at + 6) };
      phase = number_at 4 bs (at + 10);
      deadline = number_at 4 bs (at + 14);
      steps = steps_said bs at;
      windows = windows_said bs at;
      class = class_said bs at;
      head = head_said bs at;
      step = step;
      window = window;
    }

-- the row whose record stands at a place, with its steps and windows; unused places are zero
unfoldable pub row_from : List ℕ → ℕ → Row
row_from bs at =
    row_with bs at
    (filled (λ j. step_in bs (step_place bs at j)) (steps_said bs at) most_steps no_step)
    (filled (λ k. window_in bs (window_place bs at k)) (windows_said bs at) most_windows no_window)

-- where the record behind the row at a place stands
abbrev pub place_behind : List ℕ → ℕ → ℕ
place_behind bs at = window_place bs at (windows_said bs at)

-- where row i stands: the first behind the header, each other behind the one before
unfoldable pub row_place : List ℕ → ℕ → ℕ
row_place bs zero = header_kind.size
row_place bs (suc i) = place_behind bs (row_place bs i)

-- how many rows the header announces
abbrev pub rows_said : List ℕ → ℕ
rows_said bs = byte_at bs 3

-- the load that the bytes spell; unused places are zero
unfoldable pub load_in : List ℕ → Load
load_in bs =
    record {
      rows = rows_said bs;
      row = filled (λ i. row_from bs (row_place bs i)) (rows_said bs) most_rows zero_row;
    }
