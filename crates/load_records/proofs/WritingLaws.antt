-- What writing a load needs: the facts that the check leaves, how long the rows are so far, and that the header, the
-- rows and the end record, written one behind the other, are the file.
use Prim.Native.Nat.{ℕ, ◌+◌, ◌*◌, ◌≤◌, ◌<◌}
use mathlib.Core.Bool.{Bool, true, false, cond}
use mathlib.Core.List.{List, ◌++◌}
use mathlib.Core.Path.{◌≡◌, ap, ◌∙◌}
use native.Mathlib.Omega.{arith}
use lib.ListN.{length, get_or, take, length-append, length-take}
use lib.Seq.{sets, get_or-take}
use Rattle.counting.specs.Lists.{join_to}
use Rattle.counting.proofs.sums.SumLaws.{sum_to-le}
use Rattle.counting.proofs.lists.ListLaws.{join_to-zero, join_to-next, join_to-length}
use Rattle.words.proofs.OverwriteLaws.{sets_more}
use Rattle.std.specs.Prelude.{Ok}
use Rattle.load.specs.declared.Load.{Load}
use Rattle.load.specs.Load.{most_rows, most_steps, most_windows, no_row, row_at}
use Rattle.load.specs.View.{view_of, steps_in_all}
use Rattle.load.specs.Check.{check_load}
use Rattle.load.specs.Plain.{check_plain}
use Rattle.load.proofs.CheckLaws.{check_load-good, fields-steps-le, fields-windows-le}
use Rattle.load.proofs.PlainLaws.{check_plain-good}
use Rattle.load_records.specs.Records.{carries, most_row_bytes, header_record, end_record}
use Rattle.load_records.specs.Writing.{row_bytes, counted_row, load_bytes, write_fault}
use Rattle.load_records.proofs.LengthLaws.{row_kind-most, end_record-length, row_bytes-length}
use Rattle.load_records.proofs.RowLaws.{counted_row-same}

-- the bytes of the first n rows in a version
abbrev pub rows_bytes : ℕ → Load → ℕ → List ℕ
rows_bytes v load n = join_to (λ i. row_bytes v (row_at load i)) n

pub rows_bytes-length-zero : (v : ℕ) (load : Load) → length (rows_bytes v load 0) ≡ 0
rows_bytes-length-zero v load = ap length (join_to-zero (λ i. row_bytes v (row_at load i)))

pub rows_bytes-length-next : (v : ℕ) (load : Load) (n : ℕ)
    → length (rows_bytes v load (n + 1)) ≡ length (rows_bytes v load n) + length (row_bytes v (row_at load n))
rows_bytes-length-next v load n =
    ap length (join_to-next (λ i. row_bytes v (row_at load i)) n)
    ∙ length-append (rows_bytes v load n) (row_bytes v (row_at load n))

-- the header and the end record have four bytes each
pub load_bytes-length-rows : (v : ℕ) (load : Load)
    → length (load_bytes v load) ≡ 8 + length (rows_bytes v load load.rows)
unfolding load_bytes
load_bytes-length-rows v load = simp (length-append, end_record-length) (omega arith)

-- the rows that count, one a turn: the next one is below their count, and stands at its place
pub next-counts : (load : Load) (i : ℕ) → i < length (take load.rows load.row) → i < load.rows
next-counts load i h = omega (arith, length-take load.rows load.row)

pub next-is : (load : Load) (i : ℕ) → i < length (take load.rows load.row)
    → get_or (take load.rows load.row) i no_row ≡ row_at load i
next-is load i h = get_or-take load.rows load.row i no_row (next-counts load i h)

-- and behind the last they are all
pub all-counted : (load : Load) (i : ℕ) → load.rows ≤ length load.row → i ≤ length (take load.rows load.row)
    → length (take load.rows load.row) ≤ i → i ≡ load.rows
all-counted load i all below above = omega (arith, length-take load.rows load.row)

-- what the check of a load leaves to its writing
module _ (load : Load) (good : check_load load ≡ Ok tt) where
  pub rows-le : load.rows ≤ most_rows
  rows-le = (check_load-good load good).few-rows

  module _ (i : ℕ) (l : i < load.rows) where
    steps-le : (row_at load i).steps ≤ most_steps
    steps-le = fields-steps-le (row_at load i) ((check_load-good load good).each-row-good i l).fields-good

    windows-le : (row_at load i).windows ≤ most_windows
    windows-le = fields-windows-le (row_at load i) ((check_load-good load good).each-row-good i l).fields-good

    -- its row is written as it is
    pub counted_same : counted_row (row_at load i) ≡ row_at load i
    counted_same = counted_row-same (row_at load i) steps-le windows-le

    pub row_bytes-length-le : (v : ℕ) → length (row_bytes v (row_at load i)) ≤ most_row_bytes
    row_bytes-length-le v = omega (arith, row_bytes-length v (row_at load i), row_kind-most v, steps-le, windows-le)

  pub rows_bytes-length-le : (v n : ℕ) → n ≤ load.rows → length (rows_bytes v load n) ≤ n * most_row_bytes
  rows_bytes-length-le v n h =
      rw join_to-length
      (sum_to-le (λ i. length (row_bytes v (row_at load i))) n most_row_bytes
      (λ i l. row_bytes-length-le i (omega arith) v))

-- the header, the rows and the end record, written one behind the other
pub load-written : (v : ℕ) (load : Load) (out after-header after-rows after : List ℕ) (at : ℕ)
    → after-header ≡ sets out 0 (header_record v load.rows)
    → after-rows ≡ sets after-header 4 (rows_bytes v load load.rows)
    → at ≡ 4 + length (rows_bytes v load load.rows)
    → after ≡ sets after-rows at (end_record (steps_in_all (view_of load)))
    → after ≡ sets out 0 (load_bytes v load)
unfolding load_bytes
load-written v load out after-header after-rows after at p q e r =
    let rows : List ℕ = rows_bytes v load load.rows in
    let header : List ℕ = header_record v load.rows in
    let front-written : after-rows ≡ sets out 0 (header ++ rows) =
    sets_more out after-header after-rows 0 4 header rows (omega arith) p q in
    sets_more out after-rows after 0 at (header ++ rows) (end_record (steps_in_all (view_of load))) (omega arith)
    front-written r

-- what is to be written passes its check, in either version
pub written-good : (v : ℕ) (load : Load) → write_fault v load ≡ Ok tt → check_load load ≡ Ok tt
written-good v load h = go (carries v) h
  where
    go : (b : Bool) → cond b (check_load load) (check_plain load) ≡ Ok tt → check_load load ≡ Ok tt
    go true e = e
    go false e = (check_plain-good load e).load-good
