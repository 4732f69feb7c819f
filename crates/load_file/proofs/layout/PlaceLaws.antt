-- Where the parts of a row and of a file stand: a row's bytes stand at a place exactly when
-- its own record, its steps and its windows stand at theirs.
use Prim.Native.Nat.{ℕ, suc, ◌+◌, ◌*◌, ◌<◌}
use mathlib.Core.List.{List, ◌++◌}
use mathlib.Core.Path.{◌≡◌, refl, ap, sym, ◌∙◌}
use native.Mathlib.Omega.{arith}
use lib.ListN.{length, length-append}
use Rattle.counting.specs.Lists.{join_to}
use Rattle.counting.proofs.lists.PieceLaws.{
  Stands,
  append-stands,
  stands-first,
  stands-second,
  stands-joined,
  joined-place,
  whole-stands,
  stands-whole,
  joined-stands,
}
use Rattle.load.specs.declared.Row.{Row}
use Rattle.load.specs.declared.Load.{Load}
use Rattle.load.specs.Load.{row_at, step_at, window_at}
use Rattle.load.specs.View.{view_of, steps_in_all}
use Rattle.load_records.specs.Records.{
  header_record,
  row_record,
  step_record,
  window_record,
  end_record,
}
use Rattle.load_records.specs.Writing.{row_bytes, load_bytes}
use Rattle.load_records.proofs.LengthLaws.{
  row_record-length,
  step_record-length,
  window_record-length,
  end_record-length,
  steps_bytes,
  windows_bytes,
  row_bytes-parts,
  front_length,
  row_bytes-length,
}
use Rattle.load_file.specs.Places.{version_said, step_place, steps_said, windows_said, place_behind, row_place}

module _ (bs : List ℕ) (at : ℕ) (row : Row) where
  -- where a window record stands, behind the row's steps
  abbrev behind_steps : ℕ → ℕ
  behind_steps k = step_place bs at row.steps + 6 * k

  -- the parts of a row, each at its place
  pub record RowStands : Type 0 where
    pub own : Stands (row_record (version_said bs) row) bs at
    pub each_step : (j : ℕ) → j < row.steps → Stands (step_record (step_at row j)) bs (step_place bs at j)
    pub each-window : (k : ℕ) → k < row.windows
        → Stands (window_record (window_at row k)) bs (step_place bs at row.steps + 6 * k)

  step-behind : (j : ℕ) → step_place bs at (suc j) ≡ step_place bs at j + length (step_record (step_at row j))
  step-behind j = rw step_record-length (omega arith)

  window-behind : (k : ℕ) → behind_steps (suc k) ≡ behind_steps k + length (window_record (window_at row k))
  window-behind k = rw window_record-length (omega arith)

  steps-place : step_place bs at 0 ≡ at + length (row_record (version_said bs) row)
  steps-place = rw (row_record-length (version_said bs) row) (omega arith)

  windows-place : behind_steps 0 ≡ at + length (row_record (version_said bs) row ++ steps_bytes row)
  windows-place = rw (front_length (version_said bs) row) (omega arith)

  pub row-parts : Stands (row_bytes (version_said bs) row) bs at → RowStands
  unfolding steps_bytes windows_bytes
  row-parts h =
      let front : List ℕ = row_record (version_said bs) row ++ steps_bytes row in
      let whole : Stands (front ++ windows_bytes row) bs at = rw row_bytes-parts at h in
      let front-stands : Stands front bs at = stands-first front (windows_bytes row) bs at whole in
      let steps-stand : Stands (steps_bytes row) bs (step_place bs at 0) =
      stands-second (row_record (version_said bs) row) (steps_bytes row) bs at (step_place bs at 0) steps-place
      front-stands in
      let windows-stand : Stands (windows_bytes row) bs (behind_steps 0) =
      stands-second front (windows_bytes row) bs at (behind_steps 0) windows-place whole in
      record {
        own = stands-first (row_record (version_said bs) row) (steps_bytes row) bs at front-stands;
        each_step =
            (stands-joined (λ j. step_record (step_at row j)) (step_place bs at) bs row.steps (λ j l s. step-behind j)
            steps-stand
            ).each;
        each-window =
            (stands-joined (λ k. window_record (window_at row k)) behind_steps bs row.windows (λ k l s. window-behind k)
            windows-stand
            ).each;
      }

  pub parts-row : RowStands → Stands (row_bytes (version_said bs) row) bs at
  unfolding steps_bytes windows_bytes
  parts-row r =
      rw row_bytes-parts
      (append-stands (row_record (version_said bs) row ++ steps_bytes row) (windows_bytes row) bs at (behind_steps 0)
      windows-place
      (append-stands (row_record (version_said bs) row) (steps_bytes row) bs at (step_place bs at 0) steps-place r.own
      (joined-stands (λ j. step_record (step_at row j)) (step_place bs at) bs row.steps (λ j l. step-behind j)
      r.each_step))
      (joined-stands (λ k. window_record (window_at row k)) behind_steps bs row.windows (λ k l. window-behind k)
      r.each-window))

-- the next row stands behind a row's bytes, where the counts that are read are the row's
pub row-behind : (bs : List ℕ) (at : ℕ) (row : Row) → steps_said bs at ≡ row.steps → windows_said bs at ≡ row.windows
    → place_behind bs at ≡ at + length (row_bytes (version_said bs) row)
row-behind bs at row p q = rw (row_bytes-length (version_said bs) row) (omega arith)

module _ (bs : List ℕ) (load : Load) where
  -- the parts of a file, each at its place, and nothing more
  pub record FileStands : Type 0 where
    pub header : Stands (header_record (version_said bs) load.rows) bs 0
    pub each_row : (i : ℕ) → i < load.rows → Stands (row_bytes (version_said bs) (row_at load i)) bs (row_place bs i)
    pub end : Stands (end_record (steps_in_all (view_of load))) bs (row_place bs load.rows)
    pub no_more : length bs ≡ row_place bs load.rows + 4

  rows_bytes : List ℕ
  rows_bytes = join_to (λ i. row_bytes (version_said bs) (row_at load i)) load.rows

  load_bytes-parts : load_bytes (version_said bs) load
      ≡ header_record (version_said bs) load.rows ++ rows_bytes ++ end_record (steps_in_all (view_of load))
  unfolding load_bytes rows_bytes
  load_bytes-parts = refl

  end-place : row_place bs load.rows ≡ row_place bs 0 + length rows_bytes
      → row_place bs load.rows ≡ 0 + length (header_record (version_said bs) load.rows ++ rows_bytes)
  unfolding row_place
  end-place e = rw length-append (omega arith)

  pub file-parts : ((i : ℕ) → i < load.rows → Stands (row_bytes (version_said bs) (row_at load i)) bs (row_place bs i)
      → row_place bs (suc i) ≡ row_place bs i + length (row_bytes (version_said bs) (row_at load i)))
      → bs ≡ load_bytes (version_said bs) load → FileStands
  unfolding rows_bytes row_place
  file-parts behind e =
      let head : List ℕ = header_record (version_said bs) load.rows in
      let tail : List ℕ = end_record (steps_in_all (view_of load)) in
      let whole : Stands (head ++ rows_bytes ++ tail) bs 0 = whole-stands _ bs (e ∙ load_bytes-parts) in
      let front : Stands (head ++ rows_bytes) bs 0 = stands-first (head ++ rows_bytes) tail bs 0 whole in
      let rows-stand : Stands rows_bytes bs (row_place bs 0) = stands-second head rows_bytes bs 0 4 refl front in
      let joined =
      stands-joined (λ i. row_bytes (version_said bs) (row_at load i)) (row_place bs) bs load.rows behind
      rows-stand in
      let at-end = end-place joined.place_is in
      record {
        header = stands-first head rows_bytes bs 0 front;
        each_row = joined.each;
        end = stands-second (head ++ rows_bytes) tail bs 0 (row_place bs load.rows) at-end whole;
        no_more =
            ap length (e ∙ load_bytes-parts)
            ∙ length-append (head ++ rows_bytes) tail
            ∙ omega (arith, end_record-length (steps_in_all (view_of load)));
      }

  pub parts-file : ((i : ℕ) → i < load.rows
      → row_place bs (suc i) ≡ row_place bs i + length (row_bytes (version_said bs) (row_at load i)))
      → FileStands → bs ≡ load_bytes (version_said bs) load
  unfolding rows_bytes row_place
  parts-file behind f =
      let head : List ℕ = header_record (version_said bs) load.rows in
      let tail : List ℕ = end_record (steps_in_all (view_of load)) in
      let at-end =
      end-place (joined-place (λ i. row_bytes (version_said bs) (row_at load i)) (row_place bs) load.rows behind) in
      stands-whole (head ++ rows_bytes ++ tail) bs
      (omega (
        arith,
        f.no_more,
        length-append (head ++ rows_bytes) tail,
        end_record-length (steps_in_all (view_of load)),
      ))
      (append-stands (head ++ rows_bytes) tail bs 0 (row_place bs load.rows) at-end
      (append-stands head rows_bytes bs 0 4 refl f.header
      (joined-stands (λ i. row_bytes (version_said bs) (row_at load i)) (row_place bs) bs load.rows behind
      f.each_row))
      f.end)
      ∙ sym load_bytes-parts
