-- `sheet_line::writing::with_fields` puts one number a turn behind the text: after so many turns the first of them, a
-- comma behind each.
use Prim.Native.Nat.{◌+◌, ◌*◌, ◌≤◌}
use mathlib.Core.Path.{◌≡◌}
use Rattle.sheet_line.specs.inner.Behind.{behind}
use Rattle.sheet_line.proofs.TextLaws.{fields_text}
use Rattle.sheet_line.proofs.writing.with_fields.Given as goal

abbrev pub invariant-loop-number : goal.invariant-loop-number
invariant-loop-number l =
    (l.held.length ≤ l.initial.held.length + 11 * l.number-index)
    × (l.held ≡ behind l.initial.held (fields_text l.numbers l.number-index))
