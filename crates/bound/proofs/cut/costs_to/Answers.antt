-- `costs_to` adds one cost a turn, each below 65,536.
use Rattle.std.proofs.Common.{◌≡◌, ◌∙◌, ap, arith, length, refl, rules, sym, take}
use Rattle.std.proofs.lemmas.List.{get_or-take, length-take}
use Rattle.counting.specs.Sums.{sum_to}
use Rattle.counting.proofs.sums.SumLaws.{sum_to-zero, sum_to-next}
use Rattle.load.specs.declared.Step.{Step}
use Rattle.load.specs.Load.{step_at, no_step}
use Rattle.counting.proofs.sums.PastLaws.{sum_to-past}
use Rattle.bound.proofs.cut.costs_to.Goals as goal

pub loop-step-init : goal.loop-step-init
loop-step-init c = record { so_far = sym (sum_to-zero _); few = omega arith }

pub loop-step-preserved : goal.loop-step-preserved
loop-step-preserved c =
    let row = c.args.row.now in
    let j = c.loop-step.step-index in
    let read = get_or-take c.args.n row.step j no_step (omega (arith, length-take c.args.n row.step)) in
    record {
      so_far = rw read (omega (arith, sum_to-next (λ j. (step_at row j).cost) j, c.loop-step.invariant.so_far));
      few = search rules;
    }

pub returns : goal.returns
returns c =
    let step = c.args.row.now.step in
    let e : c.loop-step.step-index ≡ length (take c.args.n step) = omega arith in (
      c.loop-step.invariant.so_far
          ∙ ap (sum_to (λ j. (step_at c.args.row.now j).cost)) e
          ∙ sum_to-past (λ (step : Step). step.cost) no_step refl step c.args.n,
      omega (arith, c.loop-step.invariant.few, length-take c.args.n step),
    )
