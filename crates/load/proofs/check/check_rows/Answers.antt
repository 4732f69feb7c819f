-- `check_rows` asks one row a turn: the first fault ends the search, and is that of all.
use Rattle.std.proofs.Common.{◌∙◌, ◌<◌, arith, refl, sym}
use Rattle.counting.proofs.lists.ListLaws.{filled_none, filled-stored}
use Rattle.refusals.proofs.FirstMetLaws.{first_fault_to-zero, first_fault_to-one_more, first_fault_to-refused}
use Rattle.refusals.proofs.PassedOn.{passed_on}
use Rattle.load.specs.Load.{most_rows}
use Rattle.load.proofs.check.check_rows.Goals as goal
use Rattle.load.proofs.check.check_rows.Invariants.{fault_at, identifier_at, box_at}

pub loop-i-init : goal.loop-i-init
loop-i-init c = (
  first_fault_to-zero _,
  sym (filled_none (identifier_at c.args.load.now) most_rows _),
  sym (filled_none (box_at c.args.load.now) most_rows _),
)

pub returns-in_err-check_row : goal.returns-in_err-check_row
returns-in_err-check_row c =
    passed_on _ _ c.from_residual.ensures.1
    ∙ sym
    (first_fault_to-refused (fault_at c.args.load.now) _ c.loop-i.i _ c.loop-i-test.true c.loop-i.invariant.0
    (sym c.in_err-check_row.ensures))

pub loop-i-preserved : goal.loop-i-preserved
loop-i-preserved c =
    let load = c.args.load.now in
    let i = c.loop-i.i in
    let few : i < most_rows = omega arith in (
      first_fault_to-one_more _ _ c.loop-i.invariant.0 (sym c.in_ok-check_row.ensures),
      filled-stored (identifier_at load) i most_rows _ _ _ c.loop-i.invariant.1 refl few,
      filled-stored (box_at load) i most_rows _ _ _ c.loop-i.invariant.2 refl few,
    )
