-- `largest_phase` looks at one row a turn, and keeps the larger phase.
use Rattle.std.proofs.Common.{◌≡◌, ◌∙◌, ap, arith, length, refl, sym, take}
use Rattle.std.proofs.lemmas.List.{get_or-take, length-take}
use Rattle.counting.specs.Sums.{max_to}
use Rattle.counting.proofs.sums.SumLaws.{max_to-zero, max_to-next}
use Rattle.load.specs.declared.Row.{Row}
use Rattle.load.specs.Load.{no_row}
use Rattle.load.specs.View.{view_of}
use Rattle.rules.specs.Bound.{largest_phase}
use Rattle.bound.proofs.AcceptedLaws.{accepted-few}
use Rattle.counting.proofs.sums.PastLaws.{max_to-past}
use Rattle.bound.proofs.cut.largest_phase.Goals as goal
use Rattle.bound.proofs.cut.largest_phase.Invariants.{phase_at}

pub shared_ref_as_front-row-items : goal.shared_ref_as_front-row-items
shared_ref_as_front-row-items c = accepted-few c.args.load.now c.requires

pub loop-row-init : goal.loop-row-init
loop-row-init c = sym (max_to-zero _)

pub loop-row-preserved : goal.loop-row-preserved
loop-row-preserved c =
    let load = c.args.load.now in
    let i = c.loop-row.row-index in
    let read = get_or-take load.rows load.row i no_row (omega (arith, length-take load.rows load.row)) in
    omega (
      arith,
      c.max-most.ensures,
      ap (λ (row : Row). row.phase) read,
      max_to-next (phase_at load) i,
      c.loop-row.invariant,
    )

pub returns : goal.returns
unfolding largest_phase view_of
returns c =
    let load = c.args.load.now in
    let e : c.loop-row.row-index ≡ length (take load.rows load.row) = omega arith in
    c.loop-row.invariant
    ∙ ap (max_to (phase_at load)) e
    ∙ max_to-past (λ (row : Row). row.phase) no_row refl load.row load.rows
