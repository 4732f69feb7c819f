-- The rows of a sheet, kept one behind the other: what is known when so many of them are, that it holds at the start
-- and behind one row more, and what the reading gives at the end.
use Prim.Native.Nat.{ℕ, ◌+◌, ◌≤◌, ◌<◌}
use mathlib.Core.List.{List}
use mathlib.Core.Path.{◌≡◌, sym, ap, ◌∙◌}
use native.Mathlib.Decide.{dec_lt}
use native.Mathlib.Numerals.{add-one}
use native.Mathlib.Omega.{arith}
use borrow.Author.Tests.{lt-ltb}
use lib.ListN.{length, set, replicate}
use Rattle.counting.specs.Lists.{filled}
use Rattle.counting.proofs.lists.ListLaws.{filled_none, filled-stored}
use Rattle.refusals.specs.declared.Refusal.{Refusal}
use Rattle.refusals.specs.declared.Refusal.TheVariants.{OutOfRange}
use Rattle.std.specs.Prelude.{Ok, Err}
use Rattle.refusals.proofs.FirstMetLaws.{and_then-last}
use Rattle.load.specs.declared.Row.{Row}
use Rattle.load.specs.declared.Load.{Load}
use Rattle.load.specs.Load.{most_rows, zero_row}
use Rattle.load.specs.Check.{check_load}
use Rattle.sheet.specs.Lines.{line_place}
use Rattle.sheet.specs.LineFaults.{lines_fault}
use Rattle.sheet.specs.SheetRows.{steps_from, row_place, rows_in, load_in_sheet}
use Rattle.sheet.specs.Reading.{sheet_fault, read_sheet}
use Rattle.sheet.specs.inner.Narrow.{kept_from, kept_load}
use Rattle.sheet.specs.inner.Walk.{RowStands}
use Rattle.sheet.proofs.trip.PlaceLaws.{
  lines_in-lt,
  row_line,
  row_line-place,
  row_place-zero,
  row_place-next,
  rows_in-before,
  rows_in-end,
}
use Rattle.sheet.proofs.trip.RowWalk.{each_line, read-row_lines}
use Rattle.sheet.proofs.narrow.SheetKept.{kept-check, kept-good}

-- row i of a sheet whose lines 18 to 20 do not refuse
pub row-there : (bs : List ℕ) → lines_fault bs ≡ Ok tt → (i : ℕ) → i < rows_in bs → RowStands bs (row_place bs i)
row-there bs good i l =
    record {
      inside = rows_in-before bs i l;
      are-lines = λ n h.
          let e = row_line-place bs i n in
          rw e (each_line bs good (row_line bs i + n) (lines_in-lt bs (row_line bs i + n) (rw e at h)));
      row-lines = read-row_lines bs good i l;
    }

-- so many rows are kept, and the next begins at a place
pub record RowsKept (bs : List ℕ) (row : List Row) (rows next : ℕ) : Type 0 where
  pub rows-le : rows ≤ rows_in bs
  pub next-is : next ≡ row_place bs rows
  pub rows_are : row ≡ filled (λ i. kept_from bs (row_place bs i)) rows most_rows zero_row

pub rows_none : (bs : List ℕ) (zeros : Row) → zeros ≡ zero_row → RowsKept bs (replicate most_rows zeros) 0 0
rows_none bs zeros e =
    record {
      rows-le = omega arith;
      next-is = sym (row_place-zero bs);
      rows_are =
          ap (replicate most_rows) e ∙ sym (filled_none (λ i. kept_from bs (row_place bs i)) most_rows zero_row);
    }

module _ {bs : List ℕ} {row : List Row} {rows next : ℕ} (so_far : RowsKept bs row rows next) where
  -- one row more
  module _ (l : next < length bs) where
    pub rows-lt : rows < rows_in bs
    rows-lt =
        elim (dec_lt rows (rows_in bs)) [
          | yes h ↦ h
          | no h ↦
              let e : rows ≡ rows_in bs = omega (arith, so_far.rows-le) in
              absurd (omega (arith, ap (row_place bs) e, so_far.next-is, rows_in-end bs))
        ]

    pub row-stands-next : lines_fault bs ≡ Ok tt → RowStands bs next
    row-stands-next good = rw so_far.next-is (row-there bs good rows rows-lt)

    pub rows_next : (kept : Row) (behind : ℕ) → kept ≡ kept_from bs next → behind
        ≡ line_place bs next (steps_from bs next)
        → rows < most_rows → RowsKept bs (set row rows kept) (rows + 1) behind
    rows_next kept behind e q few =
        record {
          rows-le = omega (arith, rows-lt);
          next-is =
              q
              ∙ ap (λ at. line_place bs at (steps_from bs at)) so_far.next-is
              ∙ sym (row_place-next bs rows)
              ∙ ap (row_place bs) (sym (add-one rows));
          rows_are =
              filled-stored (λ i. kept_from bs (row_place bs i)) rows most_rows zero_row kept row so_far.rows_are
              (e ∙ ap (kept_from bs) so_far.next-is)
              few;
        }

  -- the sheet has ended: each of its rows is kept
  module _ (h : length bs ≤ next) where
    pub rows-ended : rows ≡ rows_in bs
    rows-ended =
        elim (dec_lt rows (rows_in bs)) [
          | yes l ↦ absurd (omega (arith, rows_in-before bs rows l, so_far.next-is))
          | no l ↦ omega (arith, so_far.rows-le)
        ]

    pub kept-load : record { rows = rows; row = row } ≡ kept_load bs
    unfolding kept_load
    kept-load = λ i. record {
      rows = rows-ended i;
      row =
          (so_far.rows_are
          ∙ ap (λ n. filled (λ i. kept_from bs (row_place bs i)) n most_rows zero_row) rows-ended) i;
    }

module _ (bs : List ℕ) where
  read_sheet-refused : (refusal : Refusal) → sheet_fault bs ≡ Err refusal → read_sheet bs ≡ Err refusal
  unfolding read_sheet
  read_sheet-refused refusal h = rw h

  -- a line is refused
  pub lines-refused : (refusal : Refusal) → lines_fault bs ≡ Err refusal → read_sheet bs ≡ Err refusal
  unfolding sheet_fault
  lines-refused refusal h = read_sheet-refused refusal (rw h)

  -- or none
  module _ (good : lines_fault bs ≡ Ok tt) where
    by-load : sheet_fault bs ≡ check_load (load_in_sheet bs)
    unfolding sheet_fault
    by-load = rw good (and_then-last (check_load (load_in_sheet bs)))

    -- too many rows come first
    pub rows-refused : most_rows < rows_in bs → read_sheet bs ≡ Err OutOfRange
    unfolding check_load load_in_sheet
    rows-refused l = read_sheet-refused OutOfRange (by-load ∙ rw (lt-ltb most_rows (rows_in bs) l))

    module _ (load : Load) (e : load ≡ kept_load bs) where
      found : check_load load ≡ check_load (load_in_sheet bs)
      found = ap check_load e ∙ kept-check bs

      pub load-refused : (refusal : Refusal) → check_load load ≡ Err refusal → read_sheet bs ≡ Err refusal
      load-refused refusal r = read_sheet-refused refusal (by-load ∙ sym found ∙ r)

      pub load-good : check_load load ≡ Ok tt → Ok load ≡ read_sheet bs
      unfolding read_sheet
      load-good r =
          let passed : check_load (load_in_sheet bs) ≡ (Ok tt) = sym found ∙ r in
          let answer : sheet_fault bs ≡ (Ok tt) = by-load ∙ passed in
          rw (answer, e ∙ kept-good bs passed)
