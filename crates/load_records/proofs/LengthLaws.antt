-- How many bytes the records have, a row with its steps and windows, and a file: to the byte, and at most
-- `most_file_bytes` for a load that passes its check.
use Prim.Native.Nat.{ℕ, ◌+◌, ◌*◌, ◌≤◌, ◌<◌}
use mathlib.Core.Bool.{Bool, true, false, cond}
use mathlib.Core.List.{List, [], ◌∷◌, ◌++◌}
use mathlib.Core.Path.{◌≡◌, refl, ap, ◌∙◌}
use native.Mathlib.Omega.{arith}
use lib.ListN.{length, take, length-append}
use Rattle.counting.specs.Sums.{sum_to}
use Rattle.counting.specs.Lists.{join_to}
use Rattle.counting.proofs.sums.SumLaws.{sum_to-ext, sum_to-le}
use Rattle.counting.proofs.lists.ListLaws.{join_to-length, join_to-length-same}
use Rattle.words.specs.LittleEndian.{little_endian}
use Rattle.words.proofs.LittleEndianLaws.{little_endian-length}
use Rattle.std.specs.Prelude.{Ok}
use Rattle.load.specs.declared.Step.{Step}
use Rattle.load.specs.declared.Window.{Window}
use Rattle.load.specs.declared.Row.{Row}
use Rattle.load.specs.declared.Load.{Load}
use Rattle.load.specs.Load.{row_at, step_at, window_at}
use Rattle.load.specs.Check.{check_load}
use Rattle.load.proofs.CheckLaws.{check_load-good, fields-steps-le, fields-windows-le}
use Rattle.load_records.specs.Records.{
  carries,
  newest,
  row_kind,
  step_kind,
  window_kind,
  end_kind,
  most_row_bytes,
  most_file_bytes,
  record_of,
  row_record,
  step_record,
  window_record,
  end_record,
}
use Rattle.load_records.specs.Writing.{row_bytes, load_bytes}

-- a row's own record has 20 bytes, and 22 where class and head are carried
pub row_kind-least : (v : ℕ) → 20 ≤ (row_kind v).size
row_kind-least v = go (carries v)
  where
    go : (b : Bool) → 20 ≤ cond b 22 20
    go true = omega arith
    go false = omega arith

pub row_kind-most : (v : ℕ) → (row_kind v).size ≤ (row_kind newest).size
row_kind-most v = go (carries v)
  where
    go : (b : Bool) → cond b 22 20 ≤ 22
    go true = omega arith
    go false = omega arith

pub row_record-length : (v : ℕ) (row : Row) → length (row_record v row) ≡ (row_kind v).size
row_record-length v row = go (carries v)
  where
    go : (b : Bool)
        → length
        (record_of (row_kind v)
        (little_endian 4 row.identifier.0
        ++ little_endian 4 row.box_number.0
        ++ little_endian 4 row.phase
        ++ little_endian 4 row.deadline
        ++ row.steps ∷ row.windows ∷ cond b (row.class ∷ row.head ∷ []) []))
        ≡ cond b 22 20
    go true = simp (length-append, little_endian-length)
    go false = simp (length-append, little_endian-length)

-- version 1 has the front of what the newest version has
pub row_record-front : (v : ℕ) (row : Row) → take (row_kind v).size (row_record newest row) ≡ row_record v row
unfolding little_endian
row_record-front v row = go (carries v)
  where
    go : (b : Bool)
        → take (cond b 22 20) (row_record newest row)
        ≡ record_of (row_kind v)
        (little_endian 4 row.identifier.0
        ++ little_endian 4 row.box_number.0
        ++ little_endian 4 row.phase
        ++ little_endian 4 row.deadline
        ++ row.steps ∷ row.windows ∷ cond b (row.class ∷ row.head ∷ []) [])
    go true = refl
    go false = refl

pub step_record-length : (s : Step) → length (step_record s) ≡ step_kind.size
step_record-length s = simp (length-append, little_endian-length)

pub window_record-length : (w : Window) → length (window_record w) ≡ window_kind.size
window_record-length w = simp little_endian-length

pub end_record-length : (n : ℕ) → length (end_record n) ≡ end_kind.size
end_record-length n = simp little_endian-length

-- the bytes of a row with so many steps and windows
abbrev pub row_size : ℕ → Row → ℕ
row_size v row = (row_kind v).size + step_kind.size * row.steps + window_kind.size * row.windows

-- the step records of a row
unfoldable pub steps_bytes : Row → List ℕ
steps_bytes row = join_to (λ j. step_record (step_at row j)) row.steps

-- the window records of a row
unfoldable pub windows_bytes : Row → List ℕ
windows_bytes row = join_to (λ k. window_record (window_at row k)) row.windows

steps_bytes-length : (row : Row) → length (steps_bytes row) ≡ row.steps * 6
unfolding steps_bytes
steps_bytes-length row = join_to-length-same _ 6 row.steps (λ j. step_record-length (step_at row j))

windows_bytes-length : (row : Row) → length (windows_bytes row) ≡ row.windows * 6
unfolding windows_bytes
windows_bytes-length row = join_to-length-same _ 6 row.windows (λ k. window_record-length (window_at row k))

pub row_bytes-parts : (v : ℕ) (row : Row) → row_bytes v row ≡ row_record v row ++ steps_bytes row ++ windows_bytes row
unfolding row_bytes steps_bytes windows_bytes
row_bytes-parts v row = refl

pub front_length : (v : ℕ) (row : Row)
    → length (row_record v row ++ steps_bytes row) ≡ (row_kind v).size + row.steps * 6
front_length v row =
    omega (arith, length-append (row_record v row) (steps_bytes row), row_record-length v row, steps_bytes-length row)

pub row_bytes-length : (v : ℕ) (row : Row) → length (row_bytes v row) ≡ row_size v row
row_bytes-length v row =
    let front : List ℕ = row_record v row ++ steps_bytes row in
    ap length (row_bytes-parts v row)
    ∙ omega (arith, length-append front (windows_bytes row), front_length v row, windows_bytes-length row)

-- the file of a load: its length, to the byte
pub load_bytes-length : (v : ℕ) (load : Load)
    → length (load_bytes v load) ≡ 8 + sum_to (λ i. row_size v (row_at load i)) load.rows
unfolding load_bytes
load_bytes-length v load =
    simp (length-append, end_record-length, join_to-length)
    (omega (arith, sum_to-ext _ _ load.rows (λ i l. row_bytes-length v (row_at load i))))

-- a load whose check refuses nothing has at most 24 rows of at most 8 steps and 4 windows
pub load_bytes-length-le : (v : ℕ) (load : Load) → load.rows ≤ 24
    → ((i : ℕ) → i < load.rows → ((row_at load i).steps ≤ 8) × ((row_at load i).windows ≤ 4))
    → length (load_bytes v load) ≤ most_file_bytes
load_bytes-length-le v load few small =
    let row-le : (i : ℕ) → i < load.rows → row_size v (row_at load i) ≤ most_row_bytes =
    λ i l. omega (arith, (small i l).0, (small i l).1, row_kind-most v) in
    let sum-le : sum_to (λ i. row_size v (row_at load i)) load.rows ≤ load.rows * most_row_bytes =
    sum_to-le (λ i. row_size v (row_at load i)) load.rows most_row_bytes row-le in
    omega (arith, load_bytes-length v load)

-- the longest file: 24 rows of 8 steps and 4 windows
pub load_bytes-le : (v : ℕ) (load : Load) → check_load load ≡ Ok tt → length (load_bytes v load) ≤ most_file_bytes
load_bytes-le v load h =
    let g = check_load-good load h in
    load_bytes-length-le v load g.few-rows
    (λ i l. (
      fields-steps-le (row_at load i) (g.each-row-good i l).fields-good,
      fields-windows-le (row_at load i) (g.each-row-good i l).fields-good,
    ))
