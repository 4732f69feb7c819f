-- `check_slot` keeps a slot that `check_row` does not refuse, and passes a refusal on.
use Rattle.std.proofs.Common.{sym, ap, ◌∙◌}
use Rattle.refusals.proofs.PassedOn.{passed_on}
use Rattle.refusals.proofs.GivenLaws.{given-refused, given-good, given-is}
use Rattle.schedule.specs.inner.Seen.{advanced}
use Rattle.schedule.proofs.turns.SeenLaws.{tests-row, tests-step}
use Rattle.schedule.proofs.found.check_slot.Goals as goal

pub returns-in_err-end : goal.returns-in_err-end
returns-in_err-end c =
    let refused = passed_on _ _ c.from_residual.ensures.1 in
    record { found = refused ∙ sym (given-refused _ _ _ c.in_err-end.ensures); kept = rw refused }

pub keep-requires-clause-row : goal.keep-requires-clause-row
keep-requires-clause-row c =
    tests-row c.args.load.now c.args.seen.now c.args.row c.args.step c.args.start
    (given-good _ _ _ c.in_ok-end.ensures)

pub keep-requires-clause-step : goal.keep-requires-clause-step
keep-requires-clause-step c =
    tests-step c.args.load.now c.args.seen.now c.args.row c.args.step c.args.start
    (given-good _ _ _ c.in_ok-end.ensures)

pub returns : goal.returns
returns c =
    record {
      found = sym (given-good _ _ _ c.in_ok-end.ensures);
      kept =
          c.keep.ensures
          ∙ ap (advanced c.args.seen.now c.args.row c.args.step c.args.start) (given-is _ _ _ c.in_ok-end.ensures);
    }
