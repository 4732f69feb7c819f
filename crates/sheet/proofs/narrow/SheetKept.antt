-- The load that a sheet spells, and the load that is kept of it: the check finds the same of both, and where it finds
-- nothing they are one. A sheet's rows have nothing behind their last step and their last window, so that each is kept
-- as LoadKept asks, also where a sheet has more rows than a load.
use Prim.Native.Nat.{ℕ, ◌+◌, ◌-◌, ◌≤◌, ◌<◌}
use mathlib.Core.Bool.{Bool, true, false, cond}
use mathlib.Core.List.{List, ◌++◌}
use mathlib.Core.Path.{◌≡◌, refl, ap, sym, ◌∙◌}
use native.Mathlib.Decide.{dec_lt}
use native.Mathlib.Omega.{arith}
use borrow.Author.Tests.{leb-false}
use lib.Dec.{leb}
use lib.ListN.{length, get_or, replicate, length-replicate, get_or-replicate, get_or-eq_default}
use lib.Seq.{get_or-append-add}
use Rattle.counting.specs.Lists.{list_to}
use Rattle.counting.proofs.lists.ListLaws.{list_to-length, filled-ext, get_or-filled, get_or-unfilled}
use Rattle.std.specs.Prelude.{Ok}
use Rattle.load.specs.declared.Step.{Step}
use Rattle.load.specs.Load.{most_rows, most_steps, most_windows, no_step, no_window, no_row, zero_row, row_at}
use Rattle.load.specs.Check.{check_load}
use Rattle.sheet_line.specs.declared.Line.{Line}
use Rattle.sheet.specs.Lines.{line_from}
use Rattle.sheet.specs.SheetRows.{steps_from, windows_of, row_of, row_from, row_place, rows_in, load_in_sheet}
use Rattle.sheet.specs.inner.Narrow.{narrow_row, kept_row, kept_from, kept_load}
use Rattle.sheet.proofs.narrow.RowCut.{Unused}
use Rattle.sheet.proofs.narrow.LoadKept.{Kept, cut, long, narrow-check, narrow_good}

-- behind a list that is filled up with what is read past its end
get_or-behind : {A : Type 0} (l : List A) (n j : ℕ) (d : A) → length l ≤ j → get_or (l ++ replicate n d) j d ≡ d
get_or-behind l n j d h =
    let e : length l + (j - length l) ≡ j = omega arith in
    ap (λ k. get_or (l ++ replicate n d) k d) (sym e)
    ∙ get_or-append-add l (replicate n d) (j - length l) d
    ∙ elim (dec_lt (j - length l) n) [
      | yes b ↦ get_or-replicate n (j - length l) d d b
      | no b ↦ get_or-eq_default (replicate n d) d {n = j - length l} (rw length-replicate (omega arith))
    ]

module _ (line : ℕ → Line) (steps : ℕ) where
  pub row_of-unused : Unused (row_of line steps)
  unfolding row_of
  row_of-unused =
      let taken : List Step = list_to (λ j. record { cost = (line j).cost; wait = (line j).wait }) steps in
      let windows = windows_of (λ j. (line j).mark) steps in
      record {
        no_step_behind = λ j l. get_or-behind taken (most_steps - steps) j no_step (rw list_to-length l);
        no-window = λ k l. get_or-behind windows (most_windows - length windows) k no_window l;
      }

  pub kept_row-kept : Kept (row_of line steps) (kept_row line steps)
  unfolding kept_row row_of
  kept_row-kept = go (leb steps most_steps) refl
    where
      go : (b : Bool) → leb steps most_steps ≡ b
          → Kept (row_of line steps) (cond b (narrow_row (row_of line steps)) zero_row)
      go true e = cut row_of-unused refl
      go false e = long (leb-false steps most_steps e) refl

module _ (bs : List ℕ) where
  pub row_at-sheet : (i : ℕ) → i < rows_in bs → row_at (load_in_sheet bs) i ≡ row_from bs (row_place bs i)
  unfolding load_in_sheet
  row_at-sheet i l = get_or-filled (λ i. row_from bs (row_place bs i)) (rows_in bs) most_rows i zero_row no_row l

  row_at-kept : (i : ℕ) → i < rows_in bs → row_at (kept_load bs) i ≡ kept_from bs (row_place bs i)
  unfolding kept_load
  row_at-kept i l = get_or-filled (λ i. kept_from bs (row_place bs i)) (rows_in bs) most_rows i zero_row no_row l

  each-kept : (i : ℕ) → i < (load_in_sheet bs).rows → Kept (row_at (load_in_sheet bs) i) (row_at (kept_load bs) i)
  unfolding load_in_sheet
  each-kept i l =
      let at = row_place bs i in
      rw (row_at-sheet i l, row_at-kept i l) (kept_row-kept (line_from bs at) (steps_from bs at))

  unused-kept : (i : ℕ) → (load_in_sheet bs).rows ≤ i → i < most_rows → row_at (kept_load bs) i
      ≡ row_at (load_in_sheet bs) i
  unfolding load_in_sheet kept_load
  unused-kept i h l =
      get_or-unfilled (λ i. kept_from bs (row_place bs i)) (rows_in bs) most_rows i zero_row no_row h l
      ∙ sym (get_or-unfilled (λ i. row_from bs (row_place bs i)) (rows_in bs) most_rows i zero_row no_row h l)

  pub kept-check : check_load (kept_load bs) ≡ check_load (load_in_sheet bs)
  unfolding load_in_sheet kept_load
  kept-check = narrow-check (load_in_sheet bs) (kept_load bs) refl each-kept unused-kept

  pub kept-good : check_load (load_in_sheet bs) ≡ Ok tt → kept_load bs ≡ load_in_sheet bs
  unfolding load_in_sheet kept_load
  kept-good good =
      ap (λ l. record { rows = rows_in bs; row = l })
      (filled-ext (λ i. kept_from bs (row_place bs i)) (λ i. row_from bs (row_place bs i))
      (rows_in bs) most_rows zero_row
      (λ i l.
      sym (row_at-kept i l)
      ∙ narrow_good (load_in_sheet bs) (kept_load bs) each-kept good i l
      ∙ row_at-sheet i l))
