-- `move_shaped` goes the rules' ways over the board of the load and the bench: Done, a full clock, a tick, or the start
-- of the row that the search chooses, whose next step is there.
use Prim.Native.Nat.{◌<◌}
use mathlib.Core.Path.{refl, ap, sym, ◌∙◌}
use native.Mathlib.Omega.{arith}
use Rattle.counting.specs.Lists.{member_at}
use Rattle.plan.specs.declared.Look.{Look}
use Rattle.bench.proofs.choice.NextLaws.{chosen-next, stepped-move, handed-start}
use Prim.Native.Nat.{◌≤◌}
use mathlib.Core.Path.{◌≡◌, sym, ◌∙◌}
use Rattle.load.specs.View.{view_of}
use Rattle.rules.specs.Move.{all_finished}
use Rattle.bench.specs.Held.{state_of, HeldBench}
use Rattle.bench.proofs.shown.CheckedLaws.{checked-rows, shaped-clock}
use Rattle.bench.proofs.choice.NextLaws.{full-move, finished-is, done-move}
use Rattle.bench.proofs.moves.move_shaped.Goals as goal
use Rattle.bench.proofs.moves.move_shaped.Goals.{Start as Begun, After-all_finished, Else-rows-i}

module _ (c : Begun) where
  -- a bench has 24 places to a field, which its own fields tell
  size : HeldBench c.args.bench
  size =
      let fields = c.well_formed.1.0.1.1 in
      record {
        finished-places = fields.1.0.1.0.1;
        end-places = fields.1.1.0.1.0.1;
        opening-places = fields.1.1.1.0.1.0.1;
      }

  rows-most : c.args.load.rows ≤ 24
  rows-most = checked-rows c.args.load c.requires.load_value

  clock-most : c.args.bench.clock ≤ 1000000
  clock-most = shaped-clock (view_of c.args.load) (state_of c.args.bench) c.requires.bench_value

-- the rows were looked up, and it was asked whether all steps are finished
asked : (c : After-all_finished) → HeldBench c.args.bench → c.args.load.rows ≤ 24
    → c.all_finished.result ≡ all_finished (view_of c.args.load) (state_of c.args.bench)
asked c held few =
    c.all_finished.ensures
    ∙ finished-is c.args.load c.args.bench _ c.fill_board.ensures.shows held few

pub returns-then-all_finished : goal.returns-then-all_finished
returns-then-all_finished c =
    let at = goal.at.returns-then-all_finished c in
    c.handed.ensures
    ∙ sym
    (done-move c.args.load c.args.bench _ c.fill_board.ensures.shows
    (size at.Start) (rows-most at.Start) c.requires.bench_value
    (sym (asked at.After-all_finished (size at.Start) (rows-most at.Start)) ∙ c.if-all_finished.true))

pub returns-then-clock-ge-LAST_MOMENT : goal.returns-then-clock-ge-LAST_MOMENT
returns-then-clock-ge-LAST_MOMENT c =
    let at = goal.at.returns-then-clock-ge-LAST_MOMENT c in
    c.refused.ensures
    ∙ sym
    (full-move c.args.bench (view_of c.args.load) c.requires.bench_value
    (sym (asked at.After-all_finished (size at.Start) (rows-most at.Start)) ∙ c.if-all_finished.false)
    c.if-clock-ge-LAST_MOMENT.true)

-- a row was looked for
pub returns-then-rows-i : goal.returns-then-rows-i
returns-then-rows-i c =
    let at = goal.at.returns-then-rows-i c in
    stepped-move c.args.load c.args.bench _ c.fill_board.ensures.shows (size at.Start)
    (rows-most at.Start) c.requires.bench_value
    (sym (asked at.After-all_finished (size at.Start) (rows-most at.Start)) ∙ c.if-all_finished.false)
    c.if-clock-ge-LAST_MOMENT.false _ c.fill_board.ensures.classes_of c.handed-then-rows-i.result
    (record {
      row = c.chosen_row-i.result;
      chosen = c.chosen_row-i.ensures;
      starts = λ l. absurd (omega (arith, c.if-rows-i.true));
      idles = λ l. c.handed-then-rows-i.ensures ∙ rw c.idle.ensures;
    })

-- one was found
module _ (c : Else-rows-i) where
  row_is : c.chosen_row-i.result < c.args.load.rows
  row_is = omega (arith, c.if-rows-i.false)

  place : c.args.load.rows ≤ 24 → c.chosen_row-i.result < 24
  place few = omega (arith, row_is, few)

  next-most : HeldBench c.args.bench → c.args.load.rows ≤ 24
      → member_at c.args.bench.finished c.chosen_row-i.result < 8
  next-most held few =
      (chosen-next _ c.args.bench _ c.fill_board.ensures.shows held few _ _ c.chosen_row-i.ensures row_is).1

pub returns : goal.returns
returns c =
    let at = goal.at.returns c in
    stepped-move c.args.load c.args.bench _ c.fill_board.ensures.shows (size at.Start)
    (rows-most at.Start) c.requires.bench_value
    (sym (asked at.After-all_finished (size at.Start) (rows-most at.Start)) ∙ c.if-all_finished.false)
    c.if-clock-ge-LAST_MOMENT.false _ c.fill_board.ensures.classes_of c.handed-2.result
    (record {
      row = c.chosen_row-i.result;
      chosen = c.chosen_row-i.ensures;
      starts = λ l. handed-start _ _ _ _ _ _ _ _ _ _ c.look_at-look.ensures c.opening_after-opening.ensures refl
          c.slot_of-slot.ensures c.start-next.ensures c.handed-2.ensures;
      idles = λ l. absurd (omega (arith, row_is at.Else-rows-i));
    })

pub fill_board-requires : goal.fill_board-requires
fill_board-requires c =
    record {
      load_value = c.requires.load_value;
      bench_value = c.requires.bench_value;
    }

pub all_finished-requires : goal.all_finished-requires
all_finished-requires c =
    rows-most (goal.at.all_finished-requires c).Start

pub handed-requires : goal.handed-requires
handed-requires c =
    rows-most (goal.at.handed-requires c).Start

pub idle-requires : goal.idle-requires
idle-requires c =
    clock-most (goal.at.idle-requires c).Start

pub handed-requires-then-rows-i : goal.handed-requires-then-rows-i
handed-requires-then-rows-i c =
    rows-most (goal.at.handed-requires-then-rows-i c).Start

pub bounds-board-i : goal.bounds-board-i
bounds-board-i c =
    let at = goal.at.bounds-board-i c in
    place at.Else-rows-i (rows-most at.Start)

pub slot_of-slot-requires : goal.slot_of-slot-requires
slot_of-slot-requires c =
    let at = goal.at.slot_of-slot-requires c in
    let next =
    chosen-next _ c.args.bench _ c.fill_board.ensures.shows (size at.Start) (rows-most at.Start) _ _
    c.chosen_row-i.ensures (row_is at.Else-rows-i) in (
      place at.Else-rows-i (rows-most at.Start),
      omega (arith, next.0, ap (λ (look : Look). look.finished) c.look_at-look.ensures),
    )

pub start-next-requires : goal.start-next-requires
start-next-requires c =
    let at = goal.at.start-next-requires c in (
      place at.Else-rows-i (rows-most at.Start),
      clock-most at.Start,
      omega (arith, next-most at.Else-rows-i (size at.Start) (rows-most at.Start)),
    )

pub handed-requires-2 : goal.handed-requires-2
handed-requires-2 c =
    rows-most (goal.at.handed-requires-2 c).Start
