-- `lines::Text::put_slots` puts one slot line a turn, behind those before it.
use lib.ListN.{take}
use Rattle.counting.specs.Lists.{join_in}
use Rattle.lines.specs.Lines.{slot_line}
use Rattle.lines.specs.inner.Puts.{Puts}
use Rattle.lines.proofs.Text.put_slots.Given as goal

abbrev pub invariant-loop-slot : goal.invariant-loop-slot
invariant-loop-slot l = Puts l.initial.self (join_in slot_line (take l.slot-index l.slots)) l.self
