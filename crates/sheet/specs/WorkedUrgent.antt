-- "22 a class not 0 or a head not 1, written .. as a sheet, after 3 to 7 and before 9", and "sheets
-- go on being read, as class 0 and head 1": request 2026-05, worked on load B. The answers are the
-- request's, taken by hand. To be read after WorkedSheets. Rests on D92.
use Rattle.std.specs.Prelude.{ℕ, [], ◌∷◌, map, ◌≡◌, replicate, Ok, Err}
use Rattle.refusals.specs.declared.Refusal.{Refusal}
use Rattle.refusals.specs.declared.Refusal.TheVariants.{OutOfRange, LimitBelowChain, NotCarried}
use Rattle.load.specs.declared.Row.{Row}
use Rattle.load.specs.declared.Load.{Load}
use Rattle.load.specs.Load.{row_at}
use Rattle.load.specs.Notation.{◌w◌, window, classed, row, load_of}
use Rattle.sheet.specs.SheetRows.{load_in_sheet}
use Rattle.sheet.specs.Calls.{ReadSheet, WriteSheet}
use Rattle.sheet.specs.WorkedSheets.{sheet_of, load_b, lines_b}

-- load B, whose first row has a class and a head, and whose last row is another
abbrev pub urgent_b : ℕ → ℕ → Row → Load
urgent_b class head last =
    load_of (classed class head (row_at load_b 0) ∷ row_at load_b 1 ∷ last ∷ [])

-- a load is refused that is to be written into so much room, and the output stays
abbrev pub RefusedWith : Load → Refusal → ℕ → Type 0
RefusedWith load refusal room =
    WriteSheet load (replicate room 7) (Err refusal) (replicate room 7)

-- sheets that carry no class and no head
pub record WorkedUrgent : Type 0 where
  -- class 0 and head 1: B is written
  pub plain :
      WriteSheet
      (urgent_b 0 1 (row_at load_b 2))
      (replicate 124 7)
      (Ok 124)
      (sheet_of lines_b)
  -- class 3 in the first row, with room, with one byte too few and with none: 22 comes before 9
  pub with-room : RefusedWith (urgent_b 3 1 (row_at load_b 2)) NotCarried 124
  pub room-less : RefusedWith (urgent_b 3 1 (row_at load_b 2)) NotCarried 123
  pub no_room : RefusedWith (urgent_b 3 1 (row_at load_b 2)) NotCarried 0
  -- class 1 in the last row alone
  pub last_row : RefusedWith (urgent_b 0 1 (classed 1 1 (row_at load_b 2))) NotCarried 124
  -- class 4, and head 2, are 3
  pub class-four : RefusedWith (urgent_b 4 1 (row_at load_b 2)) OutOfRange 124
  pub head-two : RefusedWith (urgent_b 0 2 (row_at load_b 2)) OutOfRange 0
  -- class 3 in the first row, and in the last a limit below its chain: 7 comes before 22
  pub own_first :
      RefusedWith
      (urgent_b 3 1 (row 3 (2 w 1 ∷ 1 w 0 ∷ []) (window 1 2 3 ∷ [])))
      LimitBelowChain
      124
  -- B's sheet is read, as class 0 and head 1 in each of its three rows; an unused row has zeros
  pub read : ReadSheet (sheet_of lines_b) (Ok (load_in_sheet (sheet_of lines_b)))
  pub read-classes :
      map (λ i. (row_at (load_in_sheet (sheet_of lines_b)) i).class) (0 ∷ 1 ∷ 2 ∷ 3 ∷ [])
      ≡ 0 ∷ 0 ∷ 0 ∷ 0 ∷ []
  pub read-heads :
      map (λ i. (row_at (load_in_sheet (sheet_of lines_b)) i).head) (0 ∷ 1 ∷ 2 ∷ 3 ∷ [])
      ≡ 1 ∷ 1 ∷ 1 ∷ 0 ∷ []
