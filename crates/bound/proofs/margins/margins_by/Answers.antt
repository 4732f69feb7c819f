-- `margins_by` stores one row's margin a turn: its deadline less the bound of the load cut at its number of steps.
use Prim.Native.Nat.{ℕ, ◌+◌, ◌-◌, ◌≤◌}
use mathlib.Core.Path.{◌≡◌, sym, ◌∙◌, ap}
use native.Mathlib.Omega.{arith}
use borrow.Author.Rules.{rules}
use lib.IntN.{ℤ, pos, ◌-ℤ◌}
use mir.Facts.{to_z-of_z}
use mir.Syntax.{w32}
use mir.Val.{to_z, of_z}
use Rattle.counting.specs.Lists.{filled, member_at}
use Rattle.counting.proofs.lists.ListLaws.{filled_none, filled-stored, filled-list_to, get_or-list_to}
use Rattle.load.specs.declared.Load.{Load}
use Rattle.load.specs.Load.{row_at}
use Rattle.load.specs.View.{view_of}
use Rattle.rules.specs.Cut.{cut}
use Rattle.rules.specs.Bound.{bound}
use Rattle.rules.specs.Margins.{row_bound, margin, margins}
use Rattle.bound.specs.inner.CutTerms.{bound_at}
use Rattle.bound.proofs.AcceptedLaws.{accepted-few, accepted-steps, accepted-deadline, cut-bound-le}
use Rattle.bound.proofs.SignLaws.{difference-fits}
use Rattle.bound.proofs.margins.margins_by.Goals as goal
use Rattle.bound.proofs.margins.margins_by.Goals.{In-loop-i}

-- the load, and the row's place, of a turn
abbrev load : In-loop-i → Load
load c = c.args.load.now

abbrev place : In-loop-i → ℕ
place c = c.loop-i.i

steps : (c : In-loop-i)
    → (1 ≤ (row_at (load c) (place c)).steps) × ((row_at (load c) (place c)).steps ≤ 8)
steps c = accepted-steps (load c) c.requires.0 (place c) (omega arith)

deadline : (c : In-loop-i) → (row_at (load c) (place c)).deadline ≤ 1000000
deadline c = accepted-deadline (load c) c.requires.0 (place c) (omega arith)

-- the bound that is read is the row's
read : (c : In-loop-i)
    → member_at c.args.bounds.now ((row_at (load c) (place c)).steps - 1)
    ≡ row_bound (view_of (load c)) (place c)
unfolding row_bound view_of
read c =
    let L = view_of (load c) in
    let k : ℕ = (row_at (load c) (place c)).steps - 1 in
    let e : k + 1 ≡ (row_at (load c) (place c)).steps = omega (arith, steps c) in
    ap (λ l. member_at l k) c.requires.1
    ∙ get_or-list_to (bound_at L) 8 k 0 (omega (arith, steps c))
    ∙ ap (λ m. bound (cut L m)) e

small : (c : In-loop-i) → row_bound (view_of (load c)) (place c) ≤ 806400
unfolding row_bound
small c = cut-bound-le (view_of (load c)) c.requires.0 ((view_of (load c)).steps (place c))

-- the margin that is stored is the row's
stored : (c : In-loop-i) (z : ℤ)
    → z ≡ pos (row_at (load c) (place c)).deadline
    -ℤ pos (member_at c.args.bounds.now ((row_at (load c) (place c)).steps - 1))
    → to_z w32 (of_z w32 z) ≡ margin (view_of (load c)) (place c)
unfolding margin view_of
stored c z made =
    let d = (row_at (load c) (place c)).deadline in
    let e = made ∙ ap (λ b. pos d -ℤ pos b) (read c) in
    ap (λ z. to_z w32 (of_z w32 z)) e
    ∙ to_z-of_z (difference-fits d (row_bound (view_of (load c)) (place c)) (deadline c)
    (omega (arith, small c)))

pub loop-i-init : goal.loop-i-init
loop-i-init c = (
  search rules,
  accepted-few c.args.load.now c.requires.0,
  sym (filled_none _ 24 (pos 0)),
)

pub margin_of-requires : goal.margin_of-requires
margin_of-requires c =
    let turn = (goal.at.margin_of-requires c).In-loop-i in (deadline turn, omega (arith, read turn, small turn))

pub loop-i-preserved : goal.loop-i-preserved
loop-i-preserved c =
    let turn = (goal.at.loop-i-preserved c).In-loop-i in
    let loop = c.loop-i in (
      search rules,
      search rules,
      filled-stored (margin (view_of (load turn))) loop.i 24 (pos 0) _ loop.margins loop.invariant.2
          (stored turn _ c.margin_of.ensures) (omega arith),
    )

pub returns : goal.returns
unfolding margins view_of
returns c =
    let load = c.args.load.now in
    let e : c.loop-i.i ≡ load.rows = omega arith in
    c.loop-i.invariant.2
    ∙ ap (λ i. filled (margin (view_of load)) i 24 (pos 0)) e
    ∙ filled-list_to (margin (view_of load)) load.rows 24 (pos 0) (omega arith)

pub overflow_sub-row : goal.overflow_sub-row
overflow_sub-row c = (steps (goal.at.overflow_sub-row c).In-loop-i).0

pub offset_bounds-bounds-row : goal.offset_bounds-bounds-row
offset_bounds-bounds-row c = omega (arith, steps (goal.at.offset_bounds-bounds-row c).In-loop-i)

pub bounds-bounds-row : goal.bounds-bounds-row
bounds-bounds-row c = omega (arith, steps (goal.at.bounds-bounds-row c).In-loop-i)
