-- `passing_moment` asks the other open rows where its row has no open window after the step, and else goes over them.
use Prim.Native.Nat.{◌+◌}
use mathlib.Core.Bool.{Bool, cond}
use mathlib.Core.Path.{◌≡◌, sym, ◌∙◌}
use native.Mathlib.Omega.{arith}
use borrow.Author.Rules.{rules}
use Rattle.rules.specs.Plan.{in_time_by}
use Rattle.plan.specs.Boards.{look_in}
use Rattle.plan.specs.inner.Passing.{never, jobs_of, PassesFrom}
use Rattle.plan.specs.inner.Walks.{RowsIn, others_in}
use Rattle.plan.proofs.refused.PassingLaws.{PlaceIn, stack_rows, closed-given}
use Rattle.plan.proofs.refused.StayingFrom.{staying-given}
use Rattle.plan.proofs.searching.Search.passing_moment.Goals as goal
use Rattle.plan.proofs.searching.Search.passing_moment.Goals.{Start, Then-not-board-i, Else-not-board-i}

module _ (c : Start) where
  -- the stack holds rows
  rows : RowsIn c.args.self.now.stack.now
  rows =
      let self = c.args.self.now in
      stack_rows self.board.now self.rows self.stack.now self.rows_most self.stack_most self.stack_is

-- the board has a place for the row
shut-place : (c : Then-not-board-i) → PlaceIn c.args.self.now.board.now c.args.i
shut-place c =
    let few = c.args.self.now.rows_most in
    let below = c.requires.0 in
    record { in-opened = search rules; in-release = search rules; in_left = search rules; in-due = search rules }

stays-place : (c : Else-not-board-i) → PlaceIn c.args.self.now.board.now c.args.i
stays-place c =
    let few = c.args.self.now.rows_most in
    let below = c.requires.0 in
    record { in-opened = search rules; in-release = search rules; in_left = search rules; in-due = search rules }

-- where the row has no open window after the step, the others tell
shut : (c : Then-not-board-i) (b : Bool)
    → b
    ≡ in_time_by (jobs_of c.args.self.now.board.now) (c.args.clock + (look_in c.args.self.now.board.now c.args.i).cost)
    (others_in c.args.i c.args.self.now.stack.now)
    → PassesFrom c.args.self.now.board.now c.args.clock c.args.self.now.rows c.args.i (cond b c.args.clock never)
shut c b told =
    let self = c.args.self.now in
    closed-given self.board.now self.rows c.args.i c.requires.0 (shut-place c) c.args.clock
    (omega (arith, c.requires.1)) self.stack.now b self.stack_is told c.if-not-board-i.true

pub returns-then-are_in_time : goal.returns-then-are_in_time
returns-then-are_in_time c =
    shut (goal.at.returns-then-are_in_time c).Then-not-board-i _ (sym c.if-are_in_time.true ∙ c.are_in_time.ensures)

pub returns-then-not-board-i : goal.returns-then-not-board-i
returns-then-not-board-i c =
    shut (goal.at.returns-then-not-board-i c).Then-not-board-i _ (sym c.if-are_in_time.false ∙ c.are_in_time.ensures)

pub returns : goal.returns
returns c =
    let self = c.args.self.now in
    staying-given self.board.now self.rows c.args.i c.requires.0 (stays-place (goal.at.returns c).Else-not-board-i)
    c.args.clock (omega (arith, c.requires.1)) c.if-not-board-i.false self.stack.now c.due_after.result
    c.staying_moment.result self.stack_is c.due_after.ensures c.staying_moment.ensures

pub are_in_time-requires : goal.are_in_time-requires
are_in_time-requires c = rows (goal.at.are_in_time-requires c).Start

pub staying_moment-requires : goal.staying_moment-requires
staying_moment-requires c = (rows (goal.at.staying_moment-requires c).Start, c.requires.1)
