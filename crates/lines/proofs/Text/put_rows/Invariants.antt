-- `lines::Text::put_rows` puts one row line a turn, behind those before it.
use Rattle.counting.specs.Lists.{join_to}
use Rattle.lines.specs.inner.Puts.{row_line_by, Puts}
use Rattle.lines.proofs.Text.put_rows.Given as goal

abbrev pub invariant-loop-i : goal.invariant-loop-i
invariant-loop-i l = Puts l.initial.self (join_to (row_line_by l.load l.margins l.blames) l.i-counter) l.self
