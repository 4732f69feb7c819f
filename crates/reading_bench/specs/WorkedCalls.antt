-- "It lends a load file's bytes and gets the bound, margins, verdict or schedule file": worked
-- cases of the calls for C, byte by byte. Every byte lent is 165, so that one left as it was is
-- seen. The answers come from document 01 by hand and from the second program. To be read after
-- Calls.
use Rattle.std.specs.Prelude.{ℕ, List, [], ◌∷◌, ◌++◌, replicate}
use Rattle.reading_bench.specs.Calls.{
  BenchBound,
  BenchVerdict,
  BenchMargins,
  BenchSchedule,
}

-- a load file: one row, 101 in box 201, whose one step costs 300; its deadline is 256 and so many
abbrev pub file : ℕ → List ℕ
file more =
    (76 ∷ 68 ∷ 1 ∷ 1 ∷ [])
    ++ (82 ∷ 87 ∷ 101 ∷ 0 ∷ 0 ∷ 0 ∷ 201 ∷ 0 ∷ 0 ∷ 0 ∷ [])
    ++ (0 ∷ 0 ∷ 0 ∷ 0 ∷ more ∷ 1 ∷ 0 ∷ 0 ∷ 1 ∷ 0 ∷ [])
    ++ (83 ∷ 84 ∷ 44 ∷ 1 ∷ 0 ∷ 0 ∷ [])
    ++ (69 ∷ 78 ∷ 1 ∷ 0 ∷ [])

-- so many bytes lent
abbrev pub lent : ℕ → List ℕ
lent n = replicate n 165

-- the calls for C
pub record WorkedCalls : Type 0 where
  -- the bound is 4 bytes, little-endian: 300, "output beyond what is written stays"
  pub bound-bytes : BenchBound (file 44) (lent 6) 0 (44 ∷ 1 ∷ 0 ∷ 0 ∷ 165 ∷ 165 ∷ [])
  -- room for the answer is enough; with a byte less "the lent output is too short", and stays
  pub bound-room : BenchBound (file 44) (lent 4) 0 (44 ∷ 1 ∷ 0 ∷ 0 ∷ [])
  pub bound-short : BenchBound (file 44) (lent 3) 9 (lent 3)
  -- the verdict is one byte: 1 for yes, at margin 0, and 0 for no, at -1
  pub verdict-yes : BenchVerdict (file 44) (lent 2) 0 (1 ∷ 165 ∷ [])
  pub verdict-no : BenchVerdict (file 43) (lent 2) 0 (0 ∷ 165 ∷ [])
  pub verdict-room : BenchVerdict (file 44) (lent 1) 0 (1 ∷ [])
  pub verdict-short : BenchVerdict (file 44) [] 9 []
  -- the margins are 96 bytes: -1, and 0 for the rows not there
  pub margin-bytes :
      BenchMargins (file 43) (lent 98) 0
      (255 ∷ 255 ∷ 255 ∷ 255 ∷ (replicate 92 0 ++ 165 ∷ 165 ∷ []))
  pub margin-room : BenchMargins (file 44) (lent 96) 0 (replicate 96 0)
  pub margin-short : BenchMargins (file 44) (lent 95) 9 (lent 95)
  -- the schedule file of one slot is 12 bytes: row 1, step 1, start 0
  pub schedule-bytes :
      BenchSchedule (file 44) (lent 14) 0
      ((83 ∷ 67 ∷ 1 ∷ 0 ∷ 83 ∷ 76 ∷ 1 ∷ 1 ∷ 0 ∷ 0 ∷ 0 ∷ 0 ∷ []) ++ lent 2)
  pub schedule-room :
      BenchSchedule (file 44) (lent 12) 0
      (83 ∷ 67 ∷ 1 ∷ 0 ∷ 83 ∷ 76 ∷ 1 ∷ 1 ∷ 0 ∷ 0 ∷ 0 ∷ 0 ∷ [])
  pub schedule-short : BenchSchedule (file 44) (lent 11) 9 (lent 11)
  -- 9 comes last: a byte follows the file, and there is no room; with room, nothing is written
  pub file-first : BenchBound (file 44 ++ 0 ∷ []) [] 8 []
  pub refused-alone : BenchVerdict (file 44 ++ 0 ∷ []) (lent 2) 8 (lent 2)
