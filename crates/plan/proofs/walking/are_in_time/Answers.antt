-- `are_in_time` finishes one row a turn: what is to be found is what the rows from the next place on show.
use Prim.Native.Nat.{◌+◌}
use mathlib.Core.Path.{◌≡◌, ap, sym, ◌∙◌}
use native.Mathlib.Omega.{arith}
use borrow.Author.Tests.{ltb-true, ltb-false}
use Rattle.plan.specs.inner.Passing.{jobs_of}
use Rattle.plan.proofs.refused.WalkLaws.{in_time_from, in_time_from-none, in_time_from-own, in_time_from-next}
use Rattle.plan.proofs.refused.WalkLaws.{in_time_from-late}
use Rattle.plan.proofs.walking.are_in_time.Goals as goal
use Rattle.plan.proofs.walking.are_in_time.Goals.{then-row-i+else-is_late, else-row-i}

pub returns-then-is_late : goal.returns-then-is_late
returns-then-is_late c =
    let board = c.args.board.now in
    sym
    (c.loop-row.invariant.1
    ∙ in_time_from-late (jobs_of board)
    c.args.stack.now c.args.i c.loop-row.row-index
    c.loop-row.plan.time c.loop-row-test.true c.if-row-i.true c.finish-plan.result.time
    c.finish-plan.ensures.0
    (ltb-true _ _ (sym c.is_late.ensures.0 ∙ c.if-is_late.true)))

pub loop-row-preserved : goal.loop-row-preserved
loop-row-preserved c =
    let inv = c.loop-row.invariant in
    let board = c.args.board.now in
    let l = c.loop-row-test.true in
    elim c.if-row-i.branch [
      | then-row-i+else-is_late w ↦
          let in-time = ltb-false _ _ (sym w.is_late.ensures.0 ∙ w.if-is_late.false) in
          let e : c.if-row-i.plan.time ≡ w.finish-plan.result.time = ap (λ p. p.time) w.plan-is in (
            omega (arith, e, in-time, w.is_late.ensures.1),
            inv.1
                ∙ in_time_from-next (jobs_of board)
                c.args.stack.now c.args.i
                c.loop-row.row-index
                c.loop-row.plan.time l w.if-row-i.true w.finish-plan.result.time
                w.finish-plan.ensures.0
                in-time
                ∙ ap (in_time_from (jobs_of board) c.args.stack.now c.args.i
                (c.loop-row.row-index + 1)) (sym e),
          )
      | else-row-i w ↦
          let e : c.if-row-i.plan.time ≡ c.loop-row.plan.time = ap (λ p. p.time) w.plan-is in (
            omega (arith, e, inv.0),
            inv.1
                ∙ in_time_from-own (jobs_of board)
                c.args.stack.now c.args.i
                c.loop-row.row-index
                c.loop-row.plan.time l w.if-row-i.false
                ∙ ap (in_time_from (jobs_of board) c.args.stack.now c.args.i
                (c.loop-row.row-index + 1)) (sym e),
          )
    ]

pub returns : goal.returns
returns c =
    sym
    (c.loop-row.invariant.1
    ∙ in_time_from-none _ _ _ _ _ c.loop-row-test.false)
