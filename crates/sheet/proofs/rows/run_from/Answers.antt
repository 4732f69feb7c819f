-- `run_from` counts one line a turn: before each turn the row goes on for so many lines, up to the next place. It ends
-- where the sheet does, or with another identifier.
use native.Mathlib.Omega.{arith}
use Rattle.sheet.proofs.walk.RunLaws.{row-begins, run-one, run-line, run_fits, run_ends}
use Rattle.sheet.proofs.walk.RunLaws.{run-differs, next-behind, run_more}
use Rattle.sheet.proofs.rows.run_from.Goals as goal

pub line_there-first-requires : goal.line_there-first-requires
line_there-first-requires c = row-begins c.requires

pub loop-next-init : goal.loop-next-init
loop-next-init c = run-one c.requires _ c.line_there-first.ensures

pub line_there-read-requires : goal.line_there-read-requires
line_there-read-requires c = run-line c.requires c.loop-next.invariant c.loop-next-test.true

pub overflow_add-steps : goal.overflow_add-steps
overflow_add-steps c = omega (arith, run_fits c.requires c.loop-next.invariant)

pub loop-next-smaller : goal.loop-next-smaller
loop-next-smaller c =
    let behind =
    next-behind c.requires c.loop-next.invariant c.loop-next-test.true _ c.line_there-read.ensures in
    omega arith

pub loop-next-preserved : goal.loop-next-preserved
loop-next-preserved c =
    run_more c.requires c.loop-next.invariant c.loop-next-test.true _ c.line_there-read.ensures c.if-read-first.false

pub returns-after-loop-next : goal.returns-after-loop-next
returns-after-loop-next c = run_ends c.requires c.loop-next.invariant c.loop-next-test.false

pub returns-then-read-first : goal.returns-then-read-first
returns-then-read-first c =
    run-differs c.requires c.loop-next.invariant c.loop-next-test.true _ c.line_there-read.ensures c.if-read-first.true
