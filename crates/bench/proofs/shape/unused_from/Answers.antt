-- `unused_from` asks one row a turn: while all are 0, what is to be found is what those from here on show.
use mathlib.Core.Path.{refl, sym, ◌∙◌}
use Rattle.counting.proofs.tests.FromLaws.{all_from-zero, all_from-next}
use Rattle.rules.specs.State.{row_unused}
use Rattle.bench.specs.Held.{state_of}
use Rattle.bench.proofs.shape.unused_from.Goals as goal

pub loop-i-init : goal.loop-i-init
loop-i-init c = refl

pub returns-then-not-is_unused : goal.returns-then-not-is_unused
returns-then-not-is_unused c =
    let unused = row_unused (state_of c.args.bench) in
    sym
    (c.loop-i.invariant
    ∙ all_from-next unused c.loop-i.i 24 c.loop-i-test.true
    ∙ rw (sym c.is_unused.ensures ∙ c.if-not-is_unused.true))

pub loop-i-preserved : goal.loop-i-preserved
loop-i-preserved c =
    let unused = row_unused (state_of c.args.bench) in
    c.loop-i.invariant
    ∙ all_from-next unused c.loop-i.i 24 c.loop-i-test.true
    ∙ rw (sym c.is_unused.ensures ∙ c.if-not-is_unused.false)

pub returns : goal.returns
returns c =
    sym
    (c.loop-i.invariant
    ∙ all_from-zero (row_unused (state_of c.args.bench)) c.loop-i.i 24 c.loop-i-test.false)
