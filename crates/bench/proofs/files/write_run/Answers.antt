-- `write_run` looks the rows up as they were read, asks for the room, and then makes one start a turn: after k turns
-- the records of the first k slots of the schedule stand behind the head, and what stood past them is still there.
use Prim.Native.Nat.{◌<◌}
use mathlib.Core.Path.{ap, sym, ◌∙◌, ◌≡◌, refl}
use native.Mathlib.Omega.{arith}
use borrow.Author.Rules.{rules}
use lib.Seq.{sets}
use lib.ListN.{length}
use Rattle.std.specs.Prelude.{Ok}
use Rattle.refusals.proofs.PassedOn.{passed_on}
use Rattle.load.specs.View.{view_of}
use Rattle.load.specs.Check.{check_load}
use Rattle.load_file.proofs.CallLaws.{ReadLoad-accepted}
use Rattle.rules.specs.Run.{schedule}
use Rattle.schedule_file.specs.ScheduleFile.{slot_record}
use Rattle.schedule_file.proofs.RecordLaws.{records-next, records_of-zero}
use Rattle.bench.proofs.shown.CheckedLaws.{checked-rows}
use Rattle.bench.proofs.running.FileRuns.{written-run, unread-run, short-run}
use Rattle.bench.proofs.running.RunningLaws.{fresh-shaped, steps-counted, running-fresh}
use Rattle.bench.proofs.running.StartedRun.{NextUp, next_up}
use Rattle.bench.proofs.files.write_run.Goals as goal
use Rattle.bench.proofs.files.write_run.Goals.{In_ok-load, After-next_start-next}

pub returns-in_err-load : goal.returns-in_err-load
returns-in_err-load c =
    rw (passed_on _ _ c.from_residual.ensures.1) (unread-run _ _ _ c.in_err-load.ensures)

-- the file was read
accepted : (c : In_ok-load) → check_load c.in_ok-load.load ≡ Ok tt
accepted c = ReadLoad-accepted _ _ c.in_ok-load.ensures (λ at. grind arith)

pub fill_board-requires : goal.fill_board-requires
fill_board-requires c =
    let ok = accepted (goal.at.fill_board-requires c).In_ok-load in
    record { load_value = ok; bench_value = rw c.fresh.ensures (fresh-shaped _ ok (checked-rows _ ok)) }

pub steps_of-steps-requires : goal.steps_of-steps-requires
steps_of-steps-requires c = (
  checked-rows _ (accepted (goal.at.steps_of-steps-requires c).In_ok-load),
  c.fill_board.ensures.shows.steps-most,
)

pub returns-in_err-check_room : goal.returns-in_err-check_room
returns-in_err-check_room c =
    let ok = accepted (goal.at.returns-in_err-check_room c).In_ok-load in
    rw (passed_on _ _ c.from_residual-in_err-check_room.ensures.1)
    (short-run _ _ _ c.in_ok-load.ensures ok _
    (c.steps_of-steps.ensures ∙ steps-counted _ ok (checked-rows _ ok) _ _ c.fill_board.ensures.shows) _
    (sym c.in_err-check_room.ensures))

pub loop-k-init : goal.loop-k-init
loop-k-init c =
    let ok = accepted (goal.at.loop-k-init c).In_ok-load in (
      search rules,
      refl,
      rw records_of-zero,
      running-fresh _ ok (checked-rows _ ok) _ _ c.fresh.ensures c.fill_board.ensures.shows,
    )

-- the next start is looked for
module _ (c : After-next_start-next) where
  ok : check_load c.in_ok-load.load ≡ Ok tt
  ok = ReadLoad-accepted _ _ c.in_ok-load.ensures (λ at. grind arith)

  less : c.loop-k.k < length (schedule (view_of c.in_ok-load.load))
  less =
      let counted = steps-counted _ ok (checked-rows _ ok) _ _ c.fill_board.ensures.shows in
      omega (arith, c.loop-k-test.true, c.steps_of-steps.ensures ∙ counted)

  up : NextUp c.in_ok-load.load c.loop-k.board c.loop-k.k
      c.next_start-next.result
  up =
      next_up c.in_ok-load.load ok (checked-rows _ ok) _ _ _ c.loop-k.invariant.3 less
      _ (search (c.fill_board.ensures.classes_of)) c.next_start-next.result
      c.next_start-next.ensures

pub offset_bounds-load-i : goal.offset_bounds-load-i
offset_bounds-load-i c =
    let at = (goal.at.offset_bounds-load-i c).After-next_start-next in
    omega (arith, (up at).row_is, checked-rows _ (ok at))

pub bounds-load-i : goal.bounds-load-i
bounds-load-i c =
    let at = (goal.at.bounds-load-i c).After-next_start-next in
    omega (arith, (up at).row_is, checked-rows _ (ok at))

pub start_row-started-requires : goal.start_row-started-requires
start_row-started-requires c =
    (up (goal.at.start_row-started-requires c).After-next_start-next).can

pub overflow_mul-k : goal.overflow_mul-k
overflow_mul-k c = omega (arith, (up (goal.at.overflow_mul-k c).After-next_start-next).room)

pub overflow_add-k : goal.overflow_add-k
overflow_add-k c = omega (arith, (up (goal.at.overflow_add-k c).After-next_start-next).room)

pub overflow_step-k : goal.overflow_step-k
overflow_step-k c = omega (arith, (up (goal.at.overflow_step-k c).After-next_start-next).room)

pub loop-k-preserved : goal.loop-k-preserved
loop-k-preserved c =
    let at = (goal.at.loop-k-preserved c).After-next_start-next in
    let next = up at in
    let started = c.start_row-started.ensures in
    let inv = c.loop-k.invariant in (
      omega (arith, c.loop-k-test.true),
      c.overwrite-in-loop-k.auto.out ∙ inv.1,
      records-next (schedule (view_of c.in_ok-load.load)) _ _ _ _ c.loop-k.k
          (less at) inv.2
          (c.slot_record-record.ensures ∙ ap slot_record (started.slot_is ∙ next.slot_is))
          c.overwrite-in-loop-k.ensures,
      next.on _ _ started,
    )

pub shape_of-out : goal.shape_of-out
shape_of-out c = c.loop-k.invariant.1 ∙ c.overwrite.auto.out

pub returns : goal.returns
returns c =
    let at = goal.at.returns c in
    let ok = accepted at.In_ok-load in
    let inv = c.loop-k.invariant in
    written-run _ _ _ c.in_ok-load.ensures ok _
    (c.steps_of-steps.ensures ∙ steps-counted _ ok (checked-rows _ ok) _ _ c.fill_board.ensures.shows) _ _ c.loop-k.k
    (sym c.in_ok-check_room.ensures)
    (omega (arith, inv.0, c.loop-k-test.false))
    (c.overwrite.ensures ∙ ap (sets _ 0) c.head_record.ensures) inv.2
