-- What is written is bytes: every member of a sheet is a digit, a comma, a dash, CR or LF.
use Prim.Native.Nat.{ℕ}
use native.Mathlib.Omega.{arith}
use Rattle.words.specs.LittleEndian.{Bytes}
use Rattle.words.proofs.ByteLaws.{Piece, none, one_then, then, joined, digits}
use Rattle.load.specs.declared.Load.{Load}
use Rattle.load.specs.Load.{row_at}
use Rattle.sheet_line.specs.declared.Mark.{Mark}
use Rattle.sheet_line.specs.declared.Mark.TheVariants.{Nothing, Dash, Limit}
use Rattle.sheet_line.specs.declared.Line.{Line}
use Rattle.sheet_line.specs.LineText.{line_of, mark_bytes, field_bytes, line_bytes}
use Rattle.sheet.specs.Writing.{row_lines, sheet_bytes}

field : (n : ℕ) → Piece (field_bytes n)
field n = then (digits 10 n) (one_then (omega arith) none)

mark : (m : Mark) → Piece (mark_bytes m)
unfolding mark_bytes
mark Nothing = none
mark Dash = one_then (omega arith) none
mark (Limit limit) = digits 10 limit

line : (l : Line) → Piece (line_bytes l)
unfolding line_bytes
line l =
    then
    (then
    (then
    (then
    (then
    (then
    (then (field l.identifier) (field l.box_number))
    (field l.phase))
    (field l.deadline))
    (field l.cost))
    (field l.wait))
    (mark l.mark))
    (one_then (omega arith) (one_then (omega arith) none))

pub sheet_bytes-bytes : (load : Load) → Bytes (sheet_bytes load)
unfolding sheet_bytes row_lines
sheet_bytes-bytes load =
    (joined (λ i. row_lines (row_at load i)) load.rows (λ i l. row i)).bytes
  where
    row : (i : ℕ) → Piece (row_lines (row_at load i))
    row i =
        joined (λ j. line_bytes (line_of (row_at load i) j)) (row_at load i).steps
        (λ j l. line (line_of (row_at load i) j))
