-- `check_row` asks the row's fields, then the rows before it, whose identifiers and boxes are lent, then its parts, and
-- returns at the first fault.
use Rattle.std.proofs.Common.{◌≡◌, ◌∙◌, ◌≤◌, arith, eqb, sym}
use Rattle.refusals.proofs.FirstMetLaws.{and_then-last}
use Rattle.refusals.proofs.PassedOn.{passed_on}
use Rattle.load.specs.Load.{row_at}
use Rattle.load.specs.Faults.{identifier_taken, box_taken, taken_tests}
use Rattle.load.specs.Check.{row_fault}
use Rattle.load.proofs.TakenLaws.{any_to-filled}
use Rattle.load.proofs.check.check_row.Goals as goal
use Rattle.load.proofs.check.check_row.Goals.{After-identifier_taken, After-box_taken}

identifier-asked : (c : After-identifier_taken)
    → c.identifier_taken.result
    ≡ identifier_taken c.args.load.now c.args.i (row_at c.args.load.now c.args.i).identifier
identifier-asked c =
    let load = c.args.load.now in
    let i = c.args.i in
    let few : i ≤ 24 = omega (arith, c.requires.place) in
    rw c.requires.identifiers_are at c.identifier_taken.ensures
    ∙ any_to-filled (λ a. eqb a.0 (row_at load i).identifier.0) (λ k. (row_at load k).identifier) i 24 _ _ few

box-asked : (c : After-box_taken)
    → c.box_taken.result ≡ box_taken c.args.load.now c.args.i (row_at c.args.load.now c.args.i).box_number
box-asked c =
    let load = c.args.load.now in
    let i = c.args.i in
    let few : i ≤ 24 = omega (arith, c.requires.place) in
    rw c.requires.boxes_are at c.box_taken.ensures
    ∙ any_to-filled (λ a. eqb a.0 (row_at load i).box_number.0) (λ k. (row_at load k).box_number) i 24 _ _ few

pub returns-in_err-check_fields : goal.returns-in_err-check_fields
unfolding row_fault
returns-in_err-check_fields c = passed_on _ _ c.from_residual.ensures.1 ∙ rw (sym c.in_err-check_fields.ensures)

pub returns-then-identifier_taken : goal.returns-then-identifier_taken
unfolding row_fault taken_tests
returns-then-identifier_taken c =
    rw (
      sym c.in_ok-check_fields.ensures,
      sym (identifier-asked (goal.at.returns-then-identifier_taken c).After-identifier_taken)
          ∙ c.if-identifier_taken.true,
    )

pub returns-then-box_taken : goal.returns-then-box_taken
unfolding row_fault taken_tests
returns-then-box_taken c =
    let met = goal.at.returns-then-box_taken c in
    rw (
      sym c.in_ok-check_fields.ensures,
      sym (identifier-asked met.After-identifier_taken) ∙ c.if-identifier_taken.false,
      sym (box-asked met.After-box_taken) ∙ c.if-box_taken.true,
    )

pub returns : goal.returns
unfolding row_fault taken_tests
returns c =
    let met = goal.at.returns c in
    rw (
      sym c.in_ok-check_fields.ensures,
      sym (identifier-asked met.After-identifier_taken) ∙ c.if-identifier_taken.false,
      sym (box-asked met.After-box_taken) ∙ c.if-box_taken.false,
    )
    (c.check_parts.ensures ∙ sym (and_then-last _))
