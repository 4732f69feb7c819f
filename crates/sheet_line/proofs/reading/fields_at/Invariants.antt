-- `sheet_line::reading::fields_at` reads one field a turn, each from where the one before ended: after so many turns
-- the first of them stand there, their numbers are kept, and the place is that of the next.
use mathlib.Core.Bool.{true}
use mathlib.Core.Path.{◌≡◌}
use Rattle.counting.specs.Lists.{filled}
use Rattle.sheet_line.specs.Line.{field_place, field_in}
use Rattle.sheet_line.specs.inner.Fields.{fields_to}
use Rattle.sheet_line.proofs.reading.fields_at.Given as goal

abbrev pub invariant-loop-value : goal.invariant-loop-value
invariant-loop-value l =
    (l.next ≡ field_place l.bytes l.at l.value-index)
    × (fields_to l.bytes l.at l.value-index ≡ true)
    × (l.value-items ≡ filled (field_in l.bytes l.at) l.value-index 6 0)
