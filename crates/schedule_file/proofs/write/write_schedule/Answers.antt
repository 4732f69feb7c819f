-- `schedule_file::write_schedule` asks the count and the room, and then writes the head and record behind record.
use Rattle.std.proofs.Common.{◌≡◌, sym, ◌∙◌, ap, refl, rules, arith, length}
use Rattle.std.proofs.lemmas.List.{get_or-take, get_or-drop}
use Rattle.std.proofs.lemmas.List.Edits.{sets}
use Rattle.refusals.proofs.PassedOn.{passed_on}
use Rattle.rules.specs.declared.Slot.{Slot}
use Rattle.schedule_file.proofs.FileLaws.{schedule_bytes-length}
use Rattle.schedule_file.proofs.RoomLaws.{room-few, room-refused, room-written}
use Rattle.schedule_file.proofs.RecordLaws.{records_of-zero, record-here, records-next, records-all}
use Rattle.schedule_file.proofs.write.write_schedule.Goals as goal

pub returns-in_err-check_room : goal.returns-in_err-check_room
returns-in_err-check_room c =
    let refused = passed_on _ _ c.from_residual.ensures.1 in
    let slots = c.args.slots.now in
    rw refused
    (room-refused (length slots) _ c.args.out.now (λ few. schedule_bytes-length slots) _
    (sym c.in_err-check_room.ensures))

pub loop-k-init : goal.loop-k-init
loop-k-init c =
    record {
      few = room-few _ _ (sym c.in_ok-check_room.ensures);
      room = refl;
      so_far = rw records_of-zero;
    }

pub loop-k-preserved : goal.loop-k-preserved
loop-k-preserved c =
    record {
      few = c.loop-k.invariant.few;
      room = c.overwrite-in-loop-k.auto.out ∙ c.loop-k.invariant.room;
      so_far =
          records-next c.args.slots.now _ _ _ _ c.loop-k.k (omega arith) c.loop-k.invariant.so_far
          (record-here c.args.slots.now _ c.loop-k.k _ _ _ c.slot_record-record.ensures
          (search (rules, get_or-take {A = Slot}, get_or-drop {A = Slot})))
          c.overwrite-in-loop-k.ensures;
    }

pub returns : goal.returns
returns c =
    let slots = c.args.slots.now in
    let done : c.loop-k.k ≡ length slots = omega arith in
    room-written (length slots) _ c.args.out.now (λ few. schedule_bytes-length slots) _
    (sym c.in_ok-check_room.ensures)
    (records-all slots c.args.out.now c.overwrite.new.out _
    (c.overwrite.ensures ∙ ap (sets c.args.out.now 0) c.head_record.ensures)
    (rw done at c.loop-k.invariant.so_far))
