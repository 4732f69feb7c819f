-- `splitting_cost` halves the costs from low to high: at most r are below low, and at least r are at most high. Where
-- the two meet is the cost. Between, one row a turn is counted.
use Prim.Native.Nat.{◌+◌, ◌/◌}
use mathlib.Core.Path.{◌≡◌, sym, ◌∙◌, ap}
use native.Mathlib.Omega.{arith}
use borrow.Author.Rules.{rules}
use Rattle.counting.specs.Lists.{is_marked}
use Rattle.counting.proofs.sorting.PairLaws.{pair_total-zero, pair_total-next, pairs_below-none, pairs_below-next}
use Rattle.counting.proofs.sorting.PairLaws.{count_to-pairs_up_to-le}
use Rattle.bound.specs.inner.Marks.{cost_at}
use Rattle.bound.proofs.MarkLaws.{costs_below}
use Rattle.bound.proofs.smallest.splitting_cost.Goals as goal
use Rattle.bound.proofs.smallest.splitting_cost.Goals.{After-loop-k, then-marks-k, else-marks-k}

pub loop-low-init : goal.loop-low-init
loop-low-init c = (
  search rules,
  search rules,
  rw pairs_below-none (omega arith),
  rw (c.requires.1, pairs_below-next) (count_to-pairs_up_to-le _ _ _ _ _ c.requires.0.small),
)

pub loop-k-preserved : goal.loop-k-preserved
loop-k-preserved c = (
  search rules,
  rw pair_total-next
      (elim c.if-marks-k.branch [
        | then-marks-k w ↦ rw w.if-marks-k.true (omega arith)
        | else-marks-k w ↦ rw w.if-marks-k.false (omega arith)
      ]),
  elim c.if-marks-k.branch [ then-marks-k w ↦ omega arith | else-marks-k w ↦ omega arith ],
)

-- all rows are counted
counted : (c : After-loop-k)
    → let loop = c.loop-low in
    let a = c.args in
    c.loop-k.up_to ≡ costs_below a.load.now a.j a.marks.now a.n ((loop.low + loop.high) / 2 + 1)
counted c =
    let loop = c.loop-low in
    let a = c.args in
    let e : c.loop-k.k ≡ a.n = omega arith in
    c.loop-k.invariant.1
    ∙ ap (λ k. costs_below a.load.now a.j a.marks.now k ((loop.low + loop.high) / 2 + 1)) e

pub loop-low-preserved-then-r-up_to : goal.loop-low-preserved-then-r-up_to
loop-low-preserved-then-r-up_to c =
    let loop = c.loop-low in (
      omega arith,
      omega arith,
      loop.invariant.2,
      omega (arith, counted (goal.at.loop-low-preserved-then-r-up_to c).After-loop-k),
    )

pub loop-low-preserved : goal.loop-low-preserved
loop-low-preserved c =
    let loop = c.loop-low in
    (omega arith, omega arith, omega (arith, counted (goal.at.loop-low-preserved c).After-loop-k), loop.invariant.3)

pub returns : goal.returns
returns c =
    let a = c.args in
    let low = c.loop-low.low in
    let e : c.loop-low.high ≡ low = omega arith in
    let up-to-is =
    pairs_below-next (cost_at a.load.now a.j) (cost_at a.load.now (a.j + 1)) (is_marked a.marks.now) a.n low in (
      record {
        below = omega (arith, c.requires.1);
        up_to = rw (← c.requires.1, ← up-to-is, ← e) c.loop-low.invariant.3;
      },
      omega arith,
    )

pub loop-k-init : goal.loop-k-init
loop-k-init c = (search rules, sym (pair_total-zero _ _ _ _), search rules)
