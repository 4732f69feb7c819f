-- `lines::Text::put_slots` puts one slot line a turn, behind those before it.
use lib.Seq.{take_all}
use Rattle.lines.specs.Lines.{slot_line}
use Rattle.lines.proofs.PutLaws.{puts-in_none, puts-in_next}
use Rattle.lines.proofs.Text.put_slots.Goals as goal

pub loop-slot-init : goal.loop-slot-init
loop-slot-init c = puts-in_none slot_line c.args.slots.now _

pub loop-slot-preserved : goal.loop-slot-preserved
loop-slot-preserved c =
    puts-in_next slot_line c.args.slots.now c.loop-slot.slot-index _ c.loop-slot-test.true c.loop-slot.invariant
    c.put_slot.ensures

pub returns : goal.returns
returns c = rw (take_all c.loop-slot.slot-index c.args.slots.now c.loop-slot-test.false) at c.loop-slot.invariant
