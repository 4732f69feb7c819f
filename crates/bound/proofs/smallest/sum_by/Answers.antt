-- `sum_by` adds one row a turn, of a marked one both costs that are below t, and counts them; then t for each that is
-- still missing of the r.
use Prim.Native.Nat.{ℕ, ◌+◌, ◌*◌, ◌-◌, ◌≤◌}
use mathlib.Core.Path.{◌≡◌, sym, ◌∙◌, ap}
use native.Mathlib.Nat.{mul-le-mul}
use native.Mathlib.Omega.{arith}
use borrow.Author.Rules.{rules}
use Rattle.counting.specs.Lists.{is_marked}
use Rattle.counting.proofs.sorting.PairLaws.{pair_total-zero, pair_total-next, pairs_smallest-threshold}
use Rattle.bound.specs.inner.Marks.{cost_at}
use Rattle.bound.proofs.MarkLaws.{costs_below}
use Rattle.bound.proofs.smallest.sum_by.Goals as goal
use Rattle.bound.proofs.smallest.sum_by.Goals.{After-loop-k, then-marks-k, else-marks-k}
use Rattle.bound.proofs.smallest.sum_by.Invariants.{added}

pub loop-k-preserved : goal.loop-k-preserved
loop-k-preserved c = (
  search rules,
  rw pair_total-next
      (elim c.if-marks-k.branch [
        | then-marks-k w ↦ rw w.if-marks-k.true (omega arith)
        | else-marks-k w ↦ rw w.if-marks-k.false (omega arith)
      ]),
  rw pair_total-next
      (elim c.if-marks-k.branch [
        | then-marks-k w ↦ rw w.if-marks-k.true (omega arith)
        | else-marks-k w ↦ rw w.if-marks-k.false (omega arith)
      ]),
  elim c.if-marks-k.branch [ then-marks-k w ↦ omega arith | else-marks-k w ↦ omega arith ],
  elim c.if-marks-k.branch [ then-marks-k w ↦ omega arith | else-marks-k w ↦ omega arith ],
)

-- every row is added
all-added : (c : After-loop-k)
    → let loop = c.loop-k in
    let a = c.args in
    (loop.below ≡ costs_below a.load.now a.j a.marks.now a.n a.t)
    × (loop.sum ≡ added a.load.now a.j a.marks.now a.n a.t)
all-added c =
    let loop = c.loop-k in
    let a = c.args in
    let e : loop.k ≡ a.n = omega arith in (
      loop.invariant.1 ∙ ap (λ k. costs_below a.load.now a.j a.marks.now k a.t) e,
      loop.invariant.2 ∙ ap (λ k. added a.load.now a.j a.marks.now k a.t) e,
    )

-- at most r are below t
enough : (c : After-loop-k) → c.loop-k.below ≤ c.args.r
enough c =
    omega (arith, (all-added c).0, c.requires.1, c.requires.4.below)

-- what the missing ones add
missing-le : (c : After-loop-k)
    → (c.args.r - c.loop-k.below) * c.args.t ≤ 14400
missing-le c =
    mul-le-mul {n₂ = 24} {m₂ = 600} (omega (arith, c.requires.2, c.requires.0.few)) c.requires.3

pub returns : goal.returns
returns c =
    let a = c.args in
    let d : ℕ = a.r - c.loop-k.below in
    omega (
      arith,
      (all-added c).1,
      pairs_smallest-threshold (cost_at a.load.now a.j) (cost_at a.load.now (a.j + 1)) (is_marked a.marks.now) a.n
          a.t d (omega (arith, (all-added c).0, enough c, c.requires.1)) c.requires.4.up_to,
    )

pub loop-k-init : goal.loop-k-init
loop-k-init c = (search rules, sym (pair_total-zero _ _ _ _), sym (pair_total-zero _ _ _ _), search rules, search rules)

pub overflow_sub-result : goal.overflow_sub-result
overflow_sub-result c = omega (arith, enough c)

pub overflow_mul-result : goal.overflow_mul-result
overflow_mul-result c = omega (arith, missing-le c)

pub overflow_add-result : goal.overflow_add-result
overflow_add-result c = omega (arith, missing-le c)
