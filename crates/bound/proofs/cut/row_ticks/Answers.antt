-- `row_ticks` adds the costs of the kept steps, and the embedded waits of all of them but the last. A row keeps one
-- step at least, and eight at most.
use Prim.Native.Nat.{◌+◌, ◌-◌, ◌≤◌}
use mathlib.Core.Path.{◌∙◌, ap, ap₂}
use native.Mathlib.Omega.{arith}
use borrow.Author.Rules.{rules}
use Rattle.counting.specs.Sums.{sum_to}
use Rattle.load.specs.Load.{step_at}
use Rattle.bound.specs.inner.CutTerms.{wait_in}
use Rattle.bound.proofs.KeptLaws.{kept_of-le, le-kept_of}
use Rattle.bound.proofs.cut.row_ticks.Goals as goal
use Rattle.bound.proofs.cut.row_ticks.Goals.{After-kept_of-kept}

most : (c : After-kept_of-kept) → c.kept_of-kept.result ≤ 8
most c = let args = c.args in omega (arith, c.kept_of-kept.ensures, kept_of-le args.row.now args.m)

least : (c : After-kept_of-kept) → 1 ≤ c.kept_of-kept.result
least c = let args = c.args in omega (arith, c.kept_of-kept.ensures, le-kept_of args.row.now args.m)

pub returns : goal.returns
returns c =
    let args = c.args in
    let kept = c.kept_of-kept.ensures in (
      ap₂ ◌+◌ (c.costs_to.ensures.0 ∙ ap (sum_to (λ j. (step_at args.row.now j).cost)) kept)
          (c.waits_to.ensures.0 ∙ ap (λ n. sum_to (wait_in args.row.now) (n - 1)) kept),
      search rules,
    )

pub costs_to-requires : goal.costs_to-requires
costs_to-requires c = most c

pub overflow_sub-kept : goal.overflow_sub-kept
overflow_sub-kept c = omega (arith, least (goal.at.overflow_sub-kept c).After-kept_of-kept)

pub waits_to-requires : goal.waits_to-requires
waits_to-requires c = omega (arith, most (goal.at.waits_to-requires c).After-kept_of-kept)
