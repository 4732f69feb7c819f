-- `largest_left` looks at one row a turn, and keeps the largest of what is left of the free waits.
use mathlib.Core.Path.{◌≡◌, ◌∙◌, ap}
use native.Mathlib.Omega.{arith}
use borrow.Author.Rules.{rules}
use Rattle.bound.specs.inner.Marks.{largest_to}
use Rattle.bound.proofs.LargestLaws.{largest_to-zero, largest_to-turn, largest_to-skips}
use Rattle.bound.proofs.waits.largest_left.Goals as goal
use Rattle.bound.proofs.waits.largest_left.Goals.{then-frees-i, else-frees-i}
use Rattle.bound.proofs.waits.largest_left.Invariants.{left}

pub loop-i-preserved : goal.loop-i-preserved
loop-i-preserved c =
    let loop = c.loop-i in (
      search rules,
      elim c.if-frees-i.branch [
        | then-frees-i w ↦
            w.most-is
            ∙ largest_to-turn _ loop.i loop.most loop.invariant.1 _ _ (rw w.if-frees-i.true w.wait_left-left.ensures)
            w.larger-most.ensures
        | else-frees-i w ↦
            w.most-is ∙ largest_to-skips _ loop.i loop.most loop.invariant.1 (rw w.if-frees-i.false)
      ],
    )

pub returns : goal.returns
returns c =
    let a = c.args in
    let e : c.loop-i.i ≡ a.n = omega arith in
    c.loop-i.invariant.1
    ∙ ap (largest_to (left a.load.now a.n a.j a.pairs.now a.frees.now)) e

pub loop-i-init : goal.loop-i-init
loop-i-init c = (search rules, largest_to-zero _)
