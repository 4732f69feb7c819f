-- `rows_before` looks at one row a turn: what the walk comes to is what it comes to from the next place on.
use Prim.Native.Nat.{◌+◌}
use mathlib.Core.Path.{◌≡◌, ap, ap₂, sym, ◌∙◌}
use native.Mathlib.Omega.{arith}
use lib.ListN.{length}
use borrow.Author.Tests.{ltb-true, ltb-false}
use Rattle.plan.specs.inner.Passing.{jobs_of}
use Rattle.plan.proofs.refused.WalkLaws.{walk_from, walk_from-none, walk_from-own, walk_from-stands, walk_from-late}
use Rattle.plan.proofs.refused.WalkLaws.{walk_from-next, walked_some, walked_none}
use Rattle.plan.proofs.walking.rows_before.Goals as goal
use Rattle.plan.proofs.walking.rows_before.Goals.{then-row-i+else-stands_before+else-is_late, else-row-i}

pub returns-then-stands_before : goal.returns-then-stands_before
returns-then-stands_before c =
    let loop = c.loop-place in
    let told = walked_some _ _ _ _ _
    (loop.invariant.2
    ∙ walk_from-stands (jobs_of c.args.board.now) _ _ _ _ _ _ c.loop-place-test.true c.if-row-i.true
    (sym c.stands_before.ensures ∙ c.if-stands_before.true))
    c.requires.most (omega arith) loop.invariant.0 loop.invariant.1 in
    record { value = told.0; walk_fits = told.1 }

pub returns-then-is_late-clause-value : goal.returns-then-is_late-clause-value
returns-then-is_late-clause-value c =
    let loop = c.loop-place in
    let board = c.args.board.now in
    walked_none _ _ _ _
    (loop.invariant.2
    ∙ walk_from-late (jobs_of board) _ _ _ _ _ _ c.loop-place-test.true c.if-row-i.true
    (sym c.stands_before.ensures ∙ c.if-stands_before.false) _ _
    c.finish-plan.ensures.0
    c.with_work-work.ensures.0
    (ltb-true _ _ (sym c.is_late.ensures.0 ∙ c.if-is_late.true)))

pub loop-place-preserved : goal.loop-place-preserved
loop-place-preserved c =
    let loop = c.loop-place in
    let args = c.args in
    let board = args.board.now in
    elim c.if-row-i.branch [
      | then-row-i+else-stands_before+else-is_late w ↦
          let in-time = ltb-false _ _ (sym w.is_late.ensures.0 ∙ w.if-is_late.false) in
          let e : c.if-row-i.plan.time ≡ w.finish-plan.result.time = ap (λ p. p.time) w.plan-is in (
            omega (arith, e, in-time, w.is_late.ensures.1),
            omega (arith, w.work-is, w.with_work-work.ensures, loop.invariant.1),
            loop.invariant.2
                ∙ walk_from-next (jobs_of board) _ _ _ _ _ _ c.loop-place-test.true w.if-row-i.true
                (sym w.stands_before.ensures ∙ w.if-stands_before.false) _ _
                w.finish-plan.ensures.0
                w.with_work-work.ensures.0
                in-time
                ∙ ap₂ (walk_from (jobs_of board) args.stack.now args.i args.own (loop.place + 1))
                (sym e) (sym w.work-is),
          )
      | else-row-i w ↦
          let e : c.if-row-i.plan.time ≡ loop.plan.time = ap (λ p. p.time) w.plan-is in (
            omega (arith, e, loop.invariant.0),
            omega (arith, w.work-is, loop.invariant.1),
            loop.invariant.2
                ∙ walk_from-own (jobs_of board) _ _ _ _ _ _ c.loop-place-test.true w.if-row-i.false
                ∙ ap₂ (walk_from (jobs_of board) args.stack.now args.i args.own (loop.place + 1))
                (sym e) (sym w.work-is),
          )
    ]

pub returns : goal.returns
returns c =
    let loop = c.loop-place in
    let e : loop.place ≡ length c.args.stack.now = omega (arith, c.loop-place-test.false) in
    let told = walked_some _ _ _ _ _
    (loop.invariant.2
    ∙ walk_from-none (jobs_of c.args.board.now) _ _ _ _ _ _ c.loop-place-test.false ∙ rw e)
    c.requires.most (omega arith) loop.invariant.0 (omega (arith, loop.invariant.1, e)) in
    record { value = told.0; walk_fits = told.1 }
