-- `cut_bounds` stores one bound a turn: the terms of the bound of the cut load, which is at most 806,400, so each sum
-- on the way fits.
use Prim.Native.Nat.{◌+◌, ◌-◌, ◌≤◌}
use mathlib.Core.Path.{◌≡◌, sym, ◌∙◌, ap}
use native.Mathlib.Omega.{arith}
use borrow.Author.Rules.{rules}
use Rattle.counting.specs.Sums.{sum_to}
use Rattle.counting.specs.Lists.{filled, member_at}
use Rattle.counting.proofs.lists.ListLaws.{filled_none, filled-stored, filled-all, get_or-list_to}
use Rattle.load.specs.View.{view_of}
use Rattle.rules.specs.Bound.{largest_w, smallest_costs}
use Rattle.rules.specs.Blame.{place_waits}
use Rattle.bound.specs.inner.CutTerms.{waits_below, bound_at}
use Rattle.bound.proofs.AcceptedLaws.{cut-bound-is, cut-bound-le}
use Rattle.bound.proofs.PlacesRead.{waits_below-is}
use Rattle.bound.proofs.bounds.cut_bounds.Goals as goal
use Rattle.bound.proofs.bounds.cut_bounds.Goals.{After-kept_ticks}

-- the terms that a turn adds
total : (c : After-kept_ticks)
    → let loop = c.loop-k in
    let phase = c.largest_phase-phase.result in
    c.kept_ticks.result + phase + member_at c.args.waits.now loop.k
    ≡ bound_at (view_of c.args.load.now) loop.k
total c =
    let L = view_of c.args.load.now in
    let k = c.loop-k.k in
    let e : k + 1 - 1 ≡ k = omega arith in
    omega (
      arith,
      ap (λ l. member_at l k) c.requires.1
          ∙ get_or-list_to (waits_below (place_waits L)) 8 k 0 (omega arith)
          ∙ waits_below-is L k (omega arith),
      ap (sum_to (largest_w smallest_costs L)) e,
      cut-bound-is L c.requires.0 (k + 1) (omega arith),
    )

small : (c : After-kept_ticks)
    → bound_at (view_of c.args.load.now) c.loop-k.k ≤ 806400
small c =
    cut-bound-le (view_of c.args.load.now) c.requires.0 (c.loop-k.k + 1)

pub loop-k-preserved : goal.loop-k-preserved
loop-k-preserved c =
    let loop = c.loop-k in
    let L = view_of c.args.load.now in (
      search rules,
      loop.invariant.1,
      filled-stored (bound_at L) loop.k 8 0 _ loop.bounds loop.invariant.2
          (total (goal.at.loop-k-preserved c).After-kept_ticks) (omega arith),
    )

pub returns : goal.returns
returns c =
    let L = view_of c.args.load.now in
    let e : c.loop-k.k ≡ 8 = omega arith in
    c.loop-k.invariant.2 ∙ ap (λ k. filled (bound_at L) k 8 0) e ∙ filled-all (bound_at L) 8 0

pub loop-k-init : goal.loop-k-init
loop-k-init c = (search rules, c.largest_phase-phase.ensures, sym (filled_none _ 8 0))

pub overflow_add-bounds : goal.overflow_add-bounds
overflow_add-bounds c = omega (arith, total c, small c)

pub overflow_add-bounds-in-loop-k : goal.overflow_add-bounds-in-loop-k
overflow_add-bounds-in-loop-k c =
    omega (
      arith,
      total (goal.at.overflow_add-bounds-in-loop-k c).After-kept_ticks,
      small (goal.at.overflow_add-bounds-in-loop-k c).After-kept_ticks,
    )
