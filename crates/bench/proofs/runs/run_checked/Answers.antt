-- `run_checked` makes one start a turn. What holds at every turn is `Running`: the slots so far are the first of the
-- schedule, and with fewer than the schedule has, work is left and there is a next start.
use Prim.Native.Nat.{◌<◌}
use mathlib.Core.Path.{sym, ◌∙◌}
use native.Mathlib.Omega.{arith}
use borrow.Author.Rules.{rules}
use Rattle.counting.proofs.lists.ListLaws.{filled_none, filled-stored}
use Rattle.load.specs.View.{view_of}
use Rattle.rules.specs.Slots.{no_slot, slot_places, slot_at}
use Rattle.rules.specs.Run.{schedule}
use Rattle.bench.proofs.shown.CheckedLaws.{checked-rows}
use Rattle.bench.proofs.running.RunningLaws.{fresh-shaped, steps-counted, running-fresh, running-done}
use Rattle.bench.proofs.running.StartedRun.{NextUp, next_up}
use Rattle.bench.proofs.runs.run_checked.Goals as goal
use Rattle.bench.proofs.runs.run_checked.Goals.{After-next_start-next}

pub fill_board-requires : goal.fill_board-requires
fill_board-requires c =
    let ok = c.requires in record {
      load_value = ok;
      bench_value = rw c.fresh.ensures (fresh-shaped _ ok (checked-rows _ ok));
    }

pub steps_of-steps-requires : goal.steps_of-steps-requires
steps_of-steps-requires c =
    (checked-rows c.args.load c.requires, c.fill_board.ensures.shows.steps-most)

pub loop-k-init : goal.loop-k-init
loop-k-init c =
    let ok = c.requires in
    let load = c.args.load in
    let most = checked-rows load ok in
    let shows = c.fill_board.ensures.shows in (
      search rules,
      c.steps_of-steps.ensures ∙ steps-counted load ok most _ _ shows,
      running-fresh load ok most _ _ c.fresh.ensures shows,
      sym (filled_none (slot_at (schedule (view_of load))) slot_places no_slot),
    )

-- the next start is looked for
module _ (c : After-next_start-next) where
  up : NextUp c.args.load c.loop-k.board c.loop-k.k
      c.next_start-next.result
  up =
      let inv = c.loop-k.invariant in
      next_up c.args.load c.requires (checked-rows c.args.load c.requires) _ _ _ inv.2
      (omega (arith, c.loop-k-test.true, inv.1)) _ c.fill_board.ensures.classes_of c.next_start-next.result
      c.next_start-next.ensures

  place : c.next_start-next.result.row < 24
  place = omega (arith, up.row_is, checked-rows c.args.load c.requires)

pub loop-k-preserved : goal.loop-k-preserved
loop-k-preserved c =
    let inv = c.loop-k.invariant in
    let next = up (goal.at.loop-k-preserved c).After-next_start-next in
    let started = c.start_row-started.ensures in (
      search rules,
      inv.1,
      next.on _ _ started,
      filled-stored (slot_at (schedule (view_of c.args.load))) _ slot_places no_slot _ _ inv.3
          (started.slot_is ∙ next.slot_is) (omega (arith, next.room)),
    )

pub returns : goal.returns
returns c =
    let inv = c.loop-k.invariant in
    running-done c.args.load c.requires (checked-rows c.args.load c.requires) _ _ _
    (omega (arith, inv.0, c.loop-k-test.false)) inv.1 inv.3

pub offset_bounds-load-i : goal.offset_bounds-load-i
offset_bounds-load-i c = omega (arith, place (goal.at.offset_bounds-load-i c).After-next_start-next)

pub bounds-load-i : goal.bounds-load-i
bounds-load-i c = place (goal.at.bounds-load-i c).After-next_start-next

pub start_row-started-requires : goal.start_row-started-requires
start_row-started-requires c =
    (up (goal.at.start_row-started-requires c).After-next_start-next).can

pub offset_bounds-slots-k : goal.offset_bounds-slots-k
offset_bounds-slots-k c = omega (arith, (up (goal.at.offset_bounds-slots-k c).After-next_start-next).room)

pub bounds-slots-k : goal.bounds-slots-k
bounds-slots-k c = omega (arith, (up (goal.at.bounds-slots-k c).After-next_start-next).room)
