-- `read_steps` reads one step a turn. The first that is refused decides.
use Rattle.std.proofs.Common.{◌+◌, ◌*◌, ◌≡◌, ◌∙◌, ap, arith, replicate, sym}
use Rattle.counting.proofs.lists.ListLaws.{filled_none, filled-stored}
use Rattle.std.specs.Prelude.{Ok}
use Rattle.refusals.specs.FirstMet.{first_fault_to}
use Rattle.refusals.proofs.FirstMetLaws.{first_fault_to-zero, first_fault_to-one_more, first_fault_to-refused}
use Rattle.refusals.proofs.GivenLaws.{given-refused, given-good, given-is}
use Rattle.refusals.proofs.PassedOn.{passed_on}
use Rattle.load.specs.Load.{most_steps, no_step}
use Rattle.load_file.specs.Places.{step_in, steps_said}
use Rattle.load_file.specs.Reading.{step_fault_in, steps_fault}
use Rattle.load_file.proofs.faults.PartLaws.{step-none, step_fault-read}
use Rattle.load_file.proofs.read_steps.read_steps.Goals as goal

pub loop-j-init : goal.loop-j-init
loop-j-init c =
    record {
      no_fault = first_fault_to-zero _;
      read =
          ap (replicate most_steps) (step-none _ c.default-kept.ensures)
          ∙ sym (filled_none (λ j. step_in c.args.bytes.now (c.args.from + 6 * j)) most_steps no_step);
    }

pub returns-in_err-kept : goal.returns-in_err-kept
returns-in_err-kept c =
    let start = c.args in
    let bs = start.bytes.now in
    let j = c.loop-j.j in
    let said = c.requires.count_value.0 in
    let refused = sym (step_fault-read bs start.at start.from start.count j c.requires.from_bound.1 said (omega arith))
    ∙ given-refused _ (step_in bs (start.from + 6 * j)) _ c.in_err-kept.ensures in
    let decides =
    first_fault_to-refused (step_fault_in bs start.at) (steps_said bs start.at) j _ (omega (arith, said))
    c.loop-j.invariant.no_fault refused in
    passed_on _ _ c.from_residual.ensures.1 ∙ rw decides

pub loop-j-preserved : goal.loop-j-preserved
loop-j-preserved c =
    let start = c.args in
    let bs = start.bytes.now in
    let j = c.loop-j.j in
    let told = c.in_ok-kept.ensures in
    let good = sym (step_fault-read bs start.at start.from start.count j c.requires.from_bound.1
    c.requires.count_value.0 (omega arith))
    ∙ given-good _ (step_in bs (start.from + 6 * j)) _ told in
    record {
      no_fault = first_fault_to-one_more (step_fault_in bs start.at) j c.loop-j.invariant.no_fault good;
      read =
          filled-stored (λ j. step_in bs (start.from + 6 * j)) j most_steps no_step _ _ c.loop-j.invariant.read
          (given-is _ (step_in bs (start.from + 6 * j)) _ told) (omega arith);
    }

-- every step is read
pub returns : goal.returns
returns c =
    let bs = c.args.bytes.now in
    let e : c.loop-j.j ≡ c.args.count = omega arith in
    let good : steps_fault bs c.args.at ≡ Ok tt =
    ap (first_fault_to (step_fault_in bs c.args.at)) (sym (e ∙ c.requires.count_value.0))
    ∙ c.loop-j.invariant.no_fault in
    rw (good, c.loop-j.invariant.read, e)
