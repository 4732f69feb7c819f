-- What the parts of line_at give: a field, the six fields of a line, and the mark behind them.
use Rattle.std.specs.Prelude.{ℕ, ◌+◌, Bool, cond, ◌&&◌, List, ◌≡◌, eqb}
use Rattle.std.specs.Prelude.{Option, Some, None}
use Rattle.counting.specs.Sums.{all_to}
use Rattle.counting.specs.Lists.{list_to}
use Rattle.words.specs.LittleEndian.{byte_at}
use Rattle.words.specs.PlainDecimal.{plain_value}
use Rattle.sheet_line.specs.declared.reading.Field.{Field}
use Rattle.sheet_line.specs.declared.reading.Fields.{Fields}
use Rattle.sheet_line.specs.declared.reading.MarkRead.{MarkRead}
use Rattle.sheet_line.specs.LineText.{return, feed}
use Rattle.sheet_line.specs.Line.{
  behind_digits,
  field_place,
  field_in,
  is_field_at,
  numbers,
  mark_place,
  mark_at,
  behind_mark,
}

-- the field at a place, where one stands there: its number, and the place behind its comma
abbrev pub FieldAt : List ℕ → ℕ → Option Field → Type 0
FieldAt bs place r =
    r
    ≡ cond
    (is_field_at bs place)
    (Some (record { value = plain_value bs place; next = behind_digits bs place + 1 }))
    None

-- the first n numbers of a line stand there, each with its comma
abbrev pub fields_to : List ℕ → ℕ → ℕ → Bool
fields_to bs at n = all_to (λ k. is_field_at bs (field_place bs at k)) n

-- six do: what they are, and the place behind them
abbrev pub FieldsAt : List ℕ → ℕ → Option Fields → Type 0
FieldsAt bs at r =
    r
    ≡ cond
    (fields_to bs at numbers)
    (Some (record { values = list_to (field_in bs at) numbers; next = mark_place bs at }))
    None

-- the mark at a place, and the place behind it
abbrev pub MarkReadAt : List ℕ → ℕ → MarkRead → Type 0
MarkReadAt bs place r = r ≡ record { mark = mark_at bs place; next = behind_mark bs place }

-- CR LF stand at a place
abbrev pub ends_at : List ℕ → ℕ → Bool
ends_at bs place = eqb (byte_at bs place) return && eqb (byte_at bs (place + 1)) feed
