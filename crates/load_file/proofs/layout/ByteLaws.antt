-- What is written is bytes: every member of the file of a load held in memory is below 256.
use Prim.Native.Nat.{ℕ, ◌≤◌, ◌<◌}
use mathlib.Core.Bool.{Bool, true, false, cond}
use mathlib.Core.List.{List, [], ◌∷◌}
use native.Mathlib.Omega.{arith}
use Rattle.words.specs.LittleEndian.{Bytes}
use Rattle.words.proofs.ByteLaws.{Piece, none, one_then, then, joined, number}
use Rattle.load.specs.declared.Row.{Row}
use Rattle.load.specs.declared.Load.{Load}
use Rattle.load.specs.Load.{most_windows, row_at, step_at, window_at}
use Rattle.load.specs.View.{view_of, steps_in_all}
use Rattle.load.proofs.CheckLaws.{LoadGood, fields-windows-le}
use Rattle.load_records.specs.Records.{
  carries,
  header_record,
  row_record,
  step_record,
  window_record,
  end_record,
}
use Rattle.load_records.specs.Writing.{row_bytes, load_bytes}
use Rattle.load_file.specs.RoundTrip.{HeldRow, Held}

-- two bytes and a piece: a mark and its fields, or two counts
two_then : {a c : ℕ} {bs : List ℕ} → a < 256 → c < 256 → Piece bs → Piece (a ∷ c ∷ bs)
two_then l m p = one_then l (one_then m p)

-- a row, with its steps and windows
module _ (v : ℕ) (row : Row) (held : HeldRow row) where
  class-piece : (b : Bool) → Piece (cond b (row.class ∷ row.head ∷ []) [])
  class-piece true = two_then (omega (arith, held.class-fits)) (omega (arith, held.head-fits)) none
  class-piece false = none

  own-piece : Piece (row_record v row)
  own-piece =
      two_then (omega arith) (omega arith)
      (then (then (then (then (number _ _) (number _ _)) (number _ _)) (number _ _))
      (two_then (omega (arith, held.steps-fit)) (omega (arith, held.windows-fit)) (class-piece (carries v))))

  step-piece : (j : ℕ) → Piece (step_record (step_at row j))
  step-piece j = two_then (omega arith) (omega arith) (then (number _ _) (number _ _))

  window-piece : (k : ℕ) → k < most_windows → Piece (window_record (window_at row k))
  window-piece k l =
      let w = held.each-window k l in
      two_then (omega arith) (omega arith)
      (two_then (omega (arith, w.first_fits)) (omega (arith, w.last_fits)) (number _ _))

  row-piece : row.windows ≤ most_windows → Piece (row_bytes v row)
  unfolding row_bytes
  row-piece few =
      then
      (then own-piece (joined (λ j. step_record (step_at row j)) row.steps (λ j l. step-piece j)))
      (joined (λ k. window_record (window_at row k)) row.windows (λ k l. window-piece k (omega arith)))

-- the file of a load that the check passes
pub load_bytes-bytes : (v : ℕ) → v < 256 → (load : Load) → Held load → LoadGood load → Bytes (load_bytes v load)
unfolding load_bytes
load_bytes-bytes v small load held good =
    let fits : load.rows < 256 = held.rows_fit in
    let header : Piece (header_record v load.rows) =
    two_then (omega arith) (omega arith) (two_then small (omega (arith, fits)) none) in
    let end : Piece (end_record (steps_in_all (view_of load))) =
    two_then (omega arith) (omega arith) (number _ _) in
    let row : (i : ℕ) → i < load.rows → Piece (row_bytes v (row_at load i)) =
    λ i l.
    row-piece v (row_at load i) (held.each_row i (omega (arith, good.few-rows)))
    (fields-windows-le (row_at load i) (good.each-row-good i l).fields-good) in
    (then (then header (joined (λ i. row_bytes v (row_at load i)) load.rows row)) end).bytes
