-- "See which wait holds the rack up" (document 02, 2026-01): "The largest W at a place shall come
-- with its row", "for each row the place and row with the largest W of its cut load". Rows and
-- places count from 1. To be read after Margins. Rests on D84.
use Rattle.std.specs.Prelude.{ℕ, ◌-◌, cond, List, eqb, ltb}
use Rattle.counting.specs.Lists.{list_to}
use Rattle.counting.specs.Searches.{first_largest}
use Rattle.load.specs.Load.{most_rows}
use Rattle.load.specs.View.{View}
use Rattle.rules.specs.declared.LargestW.{LargestW}
use Rattle.rules.specs.declared.Blame.{Blame}
use Rattle.rules.specs.Cut.{cut}
use Rattle.rules.specs.Bound.{wait_left, largest_w, most_places, smallest_costs}

-- no W, and nobody's
abbrev pub none_left : LargestW
none_left = record { left = 0; row = 0 }

-- no place and no row
abbrev pub nobody : Blame
nobody = record { place = 0; row = 0 }

-- the row of the largest W at place j: "the lowest row where several are equal, and 0 where no row
-- has a free wait there or the largest W is 0"
abbrev pub worst_row : (View → ℕ → ℕ → ℕ) → View → ℕ → ℕ
worst_row gives L j = first_largest (wait_left gives L j) L.rows

-- the largest W at place j, with its row
abbrev pub largest_at : (View → ℕ → ℕ → ℕ) → View → ℕ → LargestW
largest_at gives L j = record { left = largest_w gives L j; row = worst_row gives L j }

-- of the largest W's of the first n places, the place of the largest: "lowest place first", and 0
-- if all are 0
abbrev pub worst_place : (ℕ → LargestW) → ℕ → ℕ
worst_place places n = first_largest (λ j. (places j).left) n

-- the row of a place, and 0 of none
abbrev pub row_of_place : (ℕ → LargestW) → ℕ → ℕ
row_of_place places place = cond (eqb place 0) 0 (places (place - 1)).row

-- the place and row with the largest W among the first n places: "0 and 0 if all are 0"
unfoldable pub blame_among : (ℕ → LargestW) → ℕ → Blame
blame_among places n =
    record { place = worst_place places n; row = row_of_place places (worst_place places n) }

-- the largest W of each place, nothing cut
unfoldable pub place_waits : View → List LargestW
place_waits L = list_to (largest_at smallest_costs L) most_places

-- whom row i's bound is blamed on: the place and row with the largest W of its cut load
unfoldable pub row_blame : View → ℕ → Blame
row_blame L i = blame_among (largest_at smallest_costs (cut L (L.steps i))) most_places

-- that of a row at a place of the list: rows not there blame nobody
abbrev pub blame_at : View → ℕ → Blame
blame_at L i = cond (ltb i L.rows) (row_blame L i) nobody

-- all blames
unfoldable pub blames : View → List Blame
blames L = list_to (blame_at L) most_rows
