-- A text with bytes put behind it, as line_of puts one together.
use Rattle.std.specs.Prelude.{ℕ, ◌+◌, ◌≤◌, List, ◌≡◌, length}
use Rattle.std.proofs.lemmas.List.Edits.{sets}
use Rattle.load.specs.declared.Row.{Row}
use Rattle.load.specs.View.{row_windows}
use Rattle.sheet_line.specs.declared.LineText.{LineText}
use Rattle.sheet_line.specs.LineText.{mark_among, mark_bytes}

-- a text, and bytes behind those that it holds
abbrev pub behind : LineText → List ℕ → LineText
behind held bs =
    record { length = held.length + length bs; bytes = sets held.bytes held.length bs }

-- the text of a step's mark, which has at most five bytes
abbrev pub mark_text : Row → ℕ → List ℕ
mark_text row j = mark_bytes (mark_among j (row_windows row))

-- the same behind a text
pub record Marked (held : LineText) (row : Row) (j : ℕ) (r : LineText) : Type 0 where
  pub is : r ≡ behind held (mark_text row j)
  pub few : length (mark_text row j) ≤ 5
