-- `blames_by` stores one row's blame a turn: that of the load cut at its number of steps.
use Prim.Native.Nat.{ℕ, ◌-◌, ◌≤◌}
use mathlib.Core.Path.{◌≡◌, sym, ◌∙◌, ap}
use native.Mathlib.Omega.{arith}
use borrow.Author.Rules.{rules}
use lib.ListN.{get_or}
use Rattle.counting.specs.Lists.{filled}
use Rattle.counting.proofs.lists.ListLaws.{filled_none, filled-stored, filled-list_to, get_or-list_to}
use Rattle.load.specs.declared.Load.{Load}
use Rattle.load.specs.Load.{row_at}
use Rattle.load.specs.View.{view_of}
use Rattle.rules.specs.Blame.{nobody, blame_among, place_waits, row_blame, blames}
use Rattle.bound.specs.inner.CutTerms.{place_in}
use Rattle.bound.proofs.AcceptedLaws.{accepted-few, accepted-steps}
use Rattle.bound.proofs.PlacesRead.{row_blame-is}
use Rattle.bound.proofs.blames.blames_by.Goals as goal
use Rattle.bound.proofs.blames.blames_by.Goals.{In-loop-i}

-- the load, and the row's place, of a turn
abbrev load : In-loop-i → Load
load c = c.args.load.now

abbrev place : In-loop-i → ℕ
place c = c.loop-i.i

steps : (c : In-loop-i)
    → (1 ≤ (row_at (load c) (place c)).steps) × ((row_at (load c) (place c)).steps ≤ 8)
steps c = accepted-steps (load c) c.requires.0 (place c) (omega arith)

-- the blame that is read is the row's
read : (c : In-loop-i)
    → get_or c.args.cut.now ((row_at (load c) (place c)).steps - 1) nobody
    ≡ row_blame (view_of (load c)) (place c)
unfolding view_of
read c =
    let L = view_of (load c) in
    let k : ℕ = (row_at (load c) (place c)).steps - 1 in
    ap (λ l. get_or l k nobody) c.requires.1
    ∙ get_or-list_to (blame_among (place_in (place_waits L))) 8 k nobody (omega (arith, steps c))
    ∙ row_blame-is L c.requires.0 (place c) (omega arith)

pub loop-i-init : goal.loop-i-init
loop-i-init c = (
  search rules,
  accepted-few c.args.load.now c.requires.0,
  sym (filled_none _ 24 nobody),
)

pub loop-i-preserved : goal.loop-i-preserved
loop-i-preserved c =
    let loop = c.loop-i in (
      search rules,
      search rules,
      filled-stored (row_blame (view_of (load (goal.at.loop-i-preserved c).In-loop-i))) loop.i 24 nobody _ loop.blames
          loop.invariant.2 (read (goal.at.loop-i-preserved c).In-loop-i)
          (omega arith),
    )

pub returns : goal.returns
unfolding blames view_of
returns c =
    let load = c.args.load.now in
    let e : c.loop-i.i ≡ load.rows = omega arith in
    c.loop-i.invariant.2
    ∙ ap (λ i. filled (row_blame (view_of load)) i 24 nobody) e
    ∙ filled-list_to (row_blame (view_of load)) load.rows 24 nobody (omega arith)

pub overflow_sub-blames : goal.overflow_sub-blames
overflow_sub-blames c = (steps (goal.at.overflow_sub-blames c).In-loop-i).0

pub offset_bounds-cut-load : goal.offset_bounds-cut-load
offset_bounds-cut-load c = omega (arith, steps (goal.at.offset_bounds-cut-load c).In-loop-i)

pub bounds-cut-load : goal.bounds-cut-load
bounds-cut-load c = omega (arith, steps (goal.at.bounds-cut-load c).In-loop-i)
