-- "The bound and the margins": worked cases. The answers come from document 01 by hand and from the
-- second program; on each the nearest wrong rule gives another. To be read after Margins; loads are
-- written as in load's Notation.
use Rattle.std.specs.Prelude.{ℕ, true, false, List, [], ◌∷◌, map, ◌≡◌, ℤ, pos, negsuc}
use Rattle.counting.specs.Lists.{list_to}
use Rattle.load.specs.declared.Row.{Row}
use Rattle.load.specs.Load.{most_rows}
use Rattle.load.specs.View.{View, view_of}
use Rattle.load.specs.Notation.{◌w◌, window, padded, row_by, row, load_of}
use Rattle.rules.specs.Cut.{cut}
use Rattle.rules.specs.Bound.{bound}
use Rattle.rules.specs.Margins.{row_bound, margins, margin_bytes, verdict}

-- the view of a load of some rows
abbrev pub rows_seen : List Row → View
rows_seen rows = view_of (load_of rows)

-- the bound of a load of some rows
abbrev pub bound_of : List Row → ℕ
bound_of rows = bound (rows_seen rows)

-- the row bounds of a load of some rows
abbrev pub row_bounds_of : List Row → List ℕ
row_bounds_of rows = list_to (row_bound (rows_seen rows)) (rows_seen rows).rows

-- the bound
pub record WorkedBound : Type 0 where
  -- "add the r smallest" of the 2r costs, 1 + 1 + 2, and not the smaller of each pair, 1 + 2 + 2
  pub r-smallest :
      bound_of
      (row 1 (1 w 9 ∷ 1 w 0 ∷ []) []
      ∷ row 2 (1 w 8 ∷ 1 w 0 ∷ []) []
      ∷ row 3 (2 w 0 ∷ 6 w 0 ∷ []) []
      ∷ row 4 (6 w 0 ∷ 2 w 0 ∷ []) []
      ∷ []) ≡ 25
  -- "whose steps j and j+1 both exist": row 2 gives nothing, so that r is 1 and the sum 4, the
  -- smallest and not the first; and it has no step more, where the load is cut at 2
  pub both-exist :
      row_bounds_of
      (row 1 (1 w 9 ∷ 1 w 0 ∷ []) [] ∷ row 2 (2 w 0 ∷ []) [] ∷ row 3 (5 w 0 ∷ 4 w 0 ∷ []) [] ∷ [])
      ≡ 18 ∷ 8 ∷ 18 ∷ []
  -- "the other rows": the row itself gives nothing
  pub other-rows : bound_of (row 1 (3 w 9 ∷ 1 w 0 ∷ []) [] ∷ []) ≡ 13
  -- "and are free": row 2 gives nothing at place 2, whose first step is embedded
  pub first-free :
      bound_of
      (row 1 (1 w 0 ∷ 1 w 9 ∷ 1 w 0 ∷ []) []
      ∷ row 2 (2 w 0 ∷ 2 w 0 ∷ 3 w 0 ∷ []) (window 1 2 4 ∷ [])
      ∷ []) ≡ 19
  -- "and are free": row 2 gives nothing at place 1, whose second step is embedded
  pub second-free :
      bound_of (row 1 (1 w 9 ∷ 1 w 0 ∷ []) [] ∷ row 2 (2 w 0 ∷ 2 w 0 ∷ []) (window 1 2 4 ∷ []) ∷ [])
      ≡ 15
  -- "rows i whose wait after step j is free": it is, though step j is embedded
  pub wait-free : bound_of (row 1 (1 w 0 ∷ 1 w 5 ∷ 1 w 0 ∷ []) (window 1 2 2 ∷ []) ∷ []) ≡ 8
  -- "the largest W", 7 and not 7 + 6; "or 0 if that is negative": 2 less 3 at place 2
  pub largest :
      bound_of
      (row 1 (1 w 8 ∷ 1 w 2 ∷ 3 w 0 ∷ []) [] ∷ row 2 (1 w 7 ∷ 3 w 0 ∷ 4 w 0 ∷ []) [] ∷ []) ≡ 20
  -- "for each place j": the seventh too
  pub each-place :
      bound_of
      (row 1 (1 w 1 ∷ 1 w 1 ∷ 1 w 1 ∷ 1 w 1 ∷ 1 w 1 ∷ 1 w 1 ∷ 1 w 1 ∷ 1 w 0 ∷ []) [] ∷ []) ≡ 15
  -- "the largest phase", 7 and not 4 + 7 + 5; "all embedded waits", 3
  pub phase-and-embedded :
      bound_of
      (row_by 1 4 99 (1 w 3 ∷ 2 w 0 ∷ []) (window 1 2 6 ∷ [])
      ∷ row_by 2 7 99 (2 w 0 ∷ []) []
      ∷ row_by 3 5 99 (1 w 0 ∷ []) []
      ∷ []) ≡ 16
  -- "and then any embedded steps that follow directly": cut at 1, row 2 keeps steps 1 to 3, not
  -- step 1 alone and not steps 4 and 5; "all, if it has fewer": at 5 row 1 keeps its step
  pub followers-kept :
      row_bounds_of
      (row 1 (1 w 0 ∷ []) []
      ∷ row 2 (1 w 4 ∷ 1 w 0 ∷ 1 w 6 ∷ 2 w 1 ∷ 3 w 0 ∷ []) (window 1 3 7 ∷ window 4 5 6 ∷ [])
      ∷ []) ≡ 8 ∷ 20 ∷ []
  -- "The wait after a row's last kept step is dropped": 6 is there for row 2 alone
  pub last-wait : row_bounds_of (row 1 (1 w 0 ∷ []) [] ∷ row 2 (1 w 6 ∷ 2 w 0 ∷ []) [] ∷ [])
      ≡ 2 ∷ 10 ∷ []
  pub wait-dropped :
      (cut (rows_seen (row 1 (1 w 0 ∷ []) [] ∷ row 2 (1 w 6 ∷ 2 w 0 ∷ []) [] ∷ [])) 1).wait 1 0 ≡ 0

-- two rows of phases 0 and 1, with row bounds 3 and 11, and deadlines
abbrev pub due_at : ℕ → ℕ → View
due_at first second =
    rows_seen (row_by 1 0 first (1 w 0 ∷ []) [] ∷ row_by 2 1 second (1 w 6 ∷ 2 w 0 ∷ []) [] ∷ [])

-- all margins, those of two rows given
abbrev pub margins_from : ℤ → ℤ → List ℤ
margins_from first second = padded most_rows (pos 0) (first ∷ second ∷ [])

-- margins and verdict
pub record WorkedMargins : Type 0 where
  -- "its deadline less its row bound", not less the bound; "those of rows not there are 0"
  pub exact : margins (due_at 3 11) ≡ margins_from (pos 0) (pos 0)
  pub missing : margins (due_at 2 10) ≡ margins_from (negsuc 0) (negsuc 0)
  -- "yes when no margin is negative": at 0 and 0, and not at 0 and -1 or -1 and 0
  pub judged : map verdict (due_at 3 11 ∷ due_at 3 10 ∷ due_at 2 11 ∷ []) ≡ true
      ∷ false ∷ false ∷ []
  -- "4 to a row, little-endian two's complement": 300 and -1, and zeros up to 96 bytes
  pub spelled : margin_bytes (due_at 303 10)
      ≡ padded 96 0 (44 ∷ 1 ∷ 0 ∷ 0 ∷ 255 ∷ 255 ∷ 255 ∷ 255 ∷ [])
