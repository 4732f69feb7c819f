-- `read_rows` reads one row a turn: a row that is refused decides, and behind the last row the end record does.
use Rattle.std.proofs.Common.{◌≡◌, ◌∙◌, arith, sym}
use Rattle.std.specs.Prelude.{Ok}
use Rattle.refusals.proofs.GivenLaws.{given-refused, given-good, given-is}
use Rattle.refusals.proofs.PassedOn.{passed_on}
use Rattle.load_file.specs.Places.{row_from}
use Rattle.load_file.specs.Reading.{row_fault_at}
use Rattle.load_file.proofs.faults.ReadingRowsLaws.{rows_none, rows-refused, few-steps, rows_next, steps-counted}
use Rattle.load_file.proofs.faults.ReadingRowsLaws.{end-decides, read-is}
use Rattle.load_file.proofs.read.read_rows.Goals as goal
use Rattle.load_file.proofs.read.read_rows.Goals.{In_ok-row}

pub loop-i-init : goal.loop-i-init
loop-i-init c = rows_none c.args.bytes.now _ c.zero_row-kept.ensures

pub read_row-requires-clause-at_bound : goal.read_row-requires-clause-at_bound
read_row-requires-clause-at_bound c = (omega (arith, c.loop-i.invariant.place-le), c.requires.0)

pub read_row-requires-clause-rows_before : goal.read_row-requires-clause-rows_before
read_row-requires-clause-rows_before c = c.loop-i.invariant.before

pub returns-in_err-row : goal.returns-in_err-row
returns-in_err-row c =
    let bs = c.args.bytes.now in
    let at = c.loop-i.at in
    let inv = c.loop-i.invariant in
    let refused = given-refused (row_fault_at bs c.loop-i.i at) (row_from bs at) _ c.in_err-row.ensures in
    passed_on _ _ c.from_residual.ensures.1 ∙ rw (rows-refused inv (omega (arith, c.requires.1)) _ refused)

-- the row that is read
module _ (c : In_ok-row) where
  row-good : row_fault_at c.args.bytes.now c.loop-i.i c.loop-i.at ≡ Ok tt
  row-good =
      let bs = c.args.bytes.now in
      given-good (row_fault_at bs c.loop-i.i c.loop-i.at) (row_from bs c.loop-i.at) _ c.in_ok-row.ensures

  row-is : c.in_ok-row.row ≡ row_from c.args.bytes.now c.loop-i.at
  row-is =
      let bs = c.args.bytes.now in
      given-is (row_fault_at bs c.loop-i.i c.loop-i.at) (row_from bs c.loop-i.at) _ c.in_ok-row.ensures

pub overflow_add-steps : goal.overflow_add-steps
overflow_add-steps c =
    let here = (goal.at.overflow_add-steps c).In_ok-row in
    let inv = c.loop-i.invariant in
    let few =
    few-steps inv (omega (arith, c.requires.1)) (omega (arith, c.requires.1, c.requires.2)) c.in_ok-row.row
    (row-good here) (row-is here) in
    omega (arith, inv.steps-le, inv.before.few)

pub loop-i-preserved : goal.loop-i-preserved
loop-i-preserved c =
    let here = (goal.at.loop-i-preserved c).In_ok-row in
    let inv = c.loop-i.invariant in
    let next =
    rows_next inv (omega (arith, c.requires.1)) (omega (arith, c.requires.1, c.requires.2)) c.in_ok-row.row
    (row-good here) (row-is here) in
    let version = c.requires.0 in
    rw (c.place_behind-at.ensures, version) next

pub check_end-requires-clause-steps_value : goal.check_end-requires-clause-steps_value
check_end-requires-clause-steps_value c = steps-counted c.loop-i.invariant (omega (arith, c.requires.1))

pub returns-in_err-check_end : goal.returns-in_err-check_end
returns-in_err-check_end c =
    let decided = end-decides c.loop-i.invariant (omega (arith, c.requires.1)) ∙ sym c.in_err-check_end.ensures in
    passed_on _ _ c.from_residual-in_err-check_end.ensures.1 ∙ rw decided

pub returns : goal.returns
returns c =
    let inv = c.loop-i.invariant in
    let decided = end-decides inv (omega (arith, c.requires.1)) ∙ sym c.in_ok-check_end.ensures in
    rw (decided, read-is inv (omega (arith, c.requires.1)) c.args.rows c.requires.1)
