-- `waits_to` adds one embedded wait a turn, each below 65,536.
use mathlib.Core.Path.{◌≡◌, sym, ◌∙◌, ap}
use native.Mathlib.Omega.{arith}
use borrow.Author.Rules.{rules}
use Rattle.counting.specs.Sums.{sum_to}
use Rattle.counting.proofs.sums.SumLaws.{sum_to-zero, sum_to-next}
use Rattle.bound.specs.inner.CutTerms.{wait_in}
use Rattle.bound.proofs.cut.waits_to.Goals as goal

pub loop-j-preserved : goal.loop-j-preserved
loop-j-preserved c = (search rules, rw sum_to-next (omega arith), search rules)

pub returns : goal.returns
returns c =
    let e : c.loop-j.j ≡ c.args.n = omega arith in
    (c.loop-j.invariant.1 ∙ ap (sum_to (wait_in c.args.row.now)) e, omega arith)

pub loop-j-init : goal.loop-j-init
loop-j-init c = (search rules, sym (sum_to-zero _), search rules)
