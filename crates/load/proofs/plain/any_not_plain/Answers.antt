-- `any_not_plain` looks at one row a turn: of the first i rows each is plain, and the first that is not ends the
-- search.
use mathlib.Core.Path.{◌≡◌, sym, ◌∙◌, ap}
use native.Mathlib.Omega.{arith}
use borrow.Author.Rules.{rules}
use Rattle.counting.specs.Sums.{any_to}
use Rattle.counting.proofs.tests.TestLaws.{or-neither, any_to-zero, any_to-next, true-any_to}
use Rattle.load.proofs.plain.any_not_plain.Goals as goal
use Rattle.load.proofs.plain.any_not_plain.Invariants.{at}

pub loop-i-init : goal.loop-i-init
loop-i-init c = (search rules, any_to-zero _)

pub returns-then-is_not_plain : goal.returns-then-is_not_plain
returns-then-is_not_plain c =
    let load = c.args.load in
    sym
    (true-any_to (at load) load.rows c.loop-i.i (omega arith)
    (sym c.is_not_plain.ensures ∙ c.if-is_not_plain.true))

pub loop-i-preserved : goal.loop-i-preserved
loop-i-preserved c = (
  search rules,
  rw any_to-next
      (or-neither _ _ c.loop-i.invariant.1 (sym c.is_not_plain.ensures ∙ c.if-is_not_plain.false)),
)

pub returns : goal.returns
returns c =
    let load = c.args.load in
    let e : c.loop-i.i ≡ load.rows = omega arith in
    sym (ap (any_to (at load)) (sym e) ∙ c.loop-i.invariant.1)
