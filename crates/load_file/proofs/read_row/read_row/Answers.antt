-- `read_row` finds the fault of a row's own record, and behind one that has none those of its parts: of steps and
-- windows that are no more than a row has.
use Rattle.std.proofs.Common.{◌≡◌, ◌∙◌, ap, sym}
use Rattle.std.specs.Prelude.{Ok}
use Rattle.refusals.specs.Given.{given}
use Rattle.refusals.proofs.GivenLaws.{given-refused, given-good, given-is}
use Rattle.refusals.proofs.PassedOn.{passed_on}
use Rattle.load_file.specs.Places.{row_from}
use Rattle.load_file.specs.Reading.{own_fault}
use Rattle.load_file.specs.inner.ReadingSteps.{own_fields}
use Rattle.load_file.proofs.faults.ReadingLaws.{own-steps-le, own-windows-le, row-refused, row-parts}
use Rattle.load_file.proofs.read_row.read_row.Goals as goal
use Rattle.load_file.proofs.read_row.read_row.Goals.{In_ok-own}

pub returns-in_err-own : goal.returns-in_err-own
returns-in_err-own c =
    let bs = c.args.bytes.now in
    let i = c.args.i in
    let refused = given-refused (own_fault bs i c.args.at) (own_fields bs c.args.at) _ c.in_err-own.ensures in
    passed_on _ _ c.from_residual.ensures.1 ∙ rw (row-refused bs c.args.at i _ refused)

own-good : (c : In_ok-own) → own_fault c.args.bytes.now c.args.i c.args.at ≡ Ok tt
own-good c = given-good _ (own_fields c.args.bytes.now c.args.at) _ c.in_ok-own.ensures

pub read_parts-requires-clause-own_value : goal.read_parts-requires-clause-own_value
read_parts-requires-clause-own_value c =
    let here = (goal.at.read_parts-requires-clause-own_value c).In_ok-own in
    let bs = c.args.bytes.now in
    let i = c.args.i in (
      given-is _ (own_fields bs c.args.at) _ c.in_ok-own.ensures,
      own-steps-le bs c.args.at i (own-good here),
      own-windows-le bs c.args.at i (own-good here),
    )

pub returns : goal.returns
returns c =
    let bs = c.args.bytes.now in
    c.read_parts.ensures
    ∙ ap (λ found. given found (row_from bs c.args.at))
    (sym (row-parts bs c.args.at c.args.i (own-good (goal.at.returns c).In_ok-own)))
