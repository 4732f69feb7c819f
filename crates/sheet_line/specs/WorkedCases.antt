-- "Route sheets as text", worked by hand: the lines of a row's steps, and what is read where a line
-- stands and where the nearest wrong one does. To be read after Calls.
use Rattle.std.specs.Prelude.{ℕ, Some, None, List, [], ◌∷◌, ◌++◌, replicate}
use Prim.Native.String.{String}
use Rattle.words.specs.Decimal.{text}
use Rattle.load.specs.declared.Row.{Row}
use Rattle.load.specs.Notation.{◌w◌, window, row_placed, row}
use Rattle.sheet_line.specs.declared.Mark.{Mark}
use Rattle.sheet_line.specs.declared.Mark.TheVariants.{Nothing, Dash, Limit}
use Rattle.sheet_line.specs.declared.Line.{Line}
use Rattle.sheet_line.specs.Calls.{LineAt, LineOf}

-- a row of three steps, and a window over the first two, of ticks 2, 4, 2 and a limit of 8
abbrev pub windowed : Row
windowed = row 1 (2 w 4 ∷ 2 w 0 ∷ 3 w 0 ∷ []) (window 1 2 8 ∷ [])

-- a row that its check refuses: two windows that share step 2, a third place that is not counted,
-- and a limit of 0
abbrev pub unchecked : Row
unchecked =
    row_placed 101 201 0 1000000 5 2 (replicate 5 (1 w 0))
    (window 1 2 0 ∷ window 2 3 9 ∷ window 4 5 7 ∷ [])

-- a row of the largest numbers that memory holds
abbrev pub largest : Row
largest =
    row_placed 4294967295 4294967295 4294967295 4294967295 255 255
    (replicate 8 (65535 w 65535))
    (replicate 4 (window 1 255 65535))

-- a text, and CR LF
abbrev pub ended : String → List ℕ
ended s = text s ++ 13 ∷ 10 ∷ []

-- a line of row 101
abbrev pub line_of101 : ℕ → ℕ → Mark → Line
line_of101 cost wait mark =
    record {
      identifier = 101;
      box_number = 201;
      phase = 0;
      deadline = 1000000;
      cost = cost;
      wait = wait;
      mark = mark;
    }

-- a line stands at a place
abbrev pub Reads : List ℕ → ℕ → Line → ℕ → Type 0
Reads bs at line next = LineAt bs at (Some (record { line = line; next = next }))

-- none does
abbrev pub ReadsNone : List ℕ → ℕ → Type 0
ReadsNone bs at = LineAt bs at None

-- one line, both ways
pub record WorkedCases : Type 0 where
  -- the limit on the window's first step, a dash on its other
  pub of-first :
      LineOf windowed 0
      (record { length = 25; bytes = ended "101,201,0,1000000,2,4,8" ++ replicate 38 0 })
  pub of_other :
      LineOf windowed 1
      (record { length = 25; bytes = ended "101,201,0,1000000,2,0,-" ++ replicate 38 0 })
  -- nothing on a step in no window, and a step of zeros past the last place
  pub of_plain :
      LineOf windowed 2
      (record { length = 24; bytes = ended "101,201,0,1000000,3,0," ++ replicate 39 0 })
  pub of-past :
      LineOf windowed 8
      (record { length = 24; bytes = ended "101,201,0,1000000,0,0," ++ replicate 39 0 })
  -- of an unchecked row: a limit of 0 is written, the first window that a step is in decides, and
  -- what is not counted is no window
  pub of_zero :
      LineOf unchecked 0
      (record { length = 25; bytes = ended "101,201,0,1000000,1,0,0" ++ replicate 38 0 })
  pub of-shared :
      LineOf unchecked 1
      (record { length = 25; bytes = ended "101,201,0,1000000,1,0,-" ++ replicate 38 0 })
  pub of-uncounted :
      LineOf unchecked 3
      (record { length = 24; bytes = ended "101,201,0,1000000,1,0," ++ replicate 39 0 })
  -- the longest line
  pub of-largest :
      LineOf largest 0
      (record {
        length = 63;
        bytes = ended "4294967295,4294967295,4294967295,4294967295,65535,65535,65535";
      })
  -- each of the three marks is read
  pub first : Reads (ended "101,201,0,1000000,2,4,8") 0 (line_of101 2 4 (Limit 8)) 25
  pub other : Reads (ended "101,201,0,1000000,2,0,-") 0 (line_of101 2 0 Dash) 25
  pub unmarked : Reads (ended "101,201,0,1000000,2,0,") 0 (line_of101 2 0 Nothing) 24
  -- in the middle, from the place behind the line before; from a digit further on another is read
  pub middle :
      Reads (ended "101,201,0,1000000,2,4,8" ++ ended "101,201,0,1000000,2,0,-" ++ 7 ∷ []) 25
      (line_of101 2 0 Dash) 50
  pub inside : Reads (ended "1101,201,0,1000000,2,4,8") 1 (line_of101 2 4 (Limit 8)) 26
  -- nothing at the end
  pub past : ReadsNone (ended "101,201,0,1000000,2,4,8") 25
  -- a zero at the front; eleven digits
  pub leading-zero : ReadsNone (ended "0101,201,0,1000000,2,4,8") 0
  pub zero-limit : ReadsNone (ended "101,201,0,1000000,2,4,08") 0
  pub eleven-digits : ReadsNone (ended "10000000000,201,0,1000000,2,4,8") 0
  -- LF alone, CR alone, no end
  pub feed-alone : ReadsNone (text "101,201,0,1000000,2,4,8" ++ 10 ∷ []) 0
  pub return_alone : ReadsNone (text "101,201,0,1000000,2,4,8" ++ 13 ∷ []) 0
  pub no_end : ReadsNone (text "101,201,0,1000000,2,4,8") 0
  -- six and eight fields; an empty one; another sign than a comma; a blank
  pub six-fields : ReadsNone (ended "101,201,0,1000000,2,4") 0
  pub eight-fields : ReadsNone (ended "101,201,0,1000000,2,4,8,9") 0
  pub empty-field : ReadsNone (ended "101,201,,1000000,2,4,8") 0
  pub semicolon : ReadsNone (ended "101;201;0;1000000;2;4;8") 0
  pub blank : ReadsNone (ended "101,201,0,1000000,2,4, 8") 0
