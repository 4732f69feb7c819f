-- `steps` stores one step a turn: before each turn the first places hold the steps of the lines, the others zeros.
use Rattle.std.proofs.Common.{◌≡◌, ◌≤◌, ◌∙◌, ◌++◌, ℕ, ap, ap₂, arith, drop, replicate, sym, take}
use Rattle.std.proofs.lemmas.List.{take-replicate, drop-replicate}
use Rattle.std.proofs.lemmas.Grind.{common_steps}
use Rattle.counting.specs.Lists.{filled}
use Rattle.counting.proofs.lists.ListLaws.{filled_none, filled-stored, filled-all}
use Rattle.load.specs.declared.Step.{Step}
use Rattle.load.specs.Load.{most_steps, no_step}
use Rattle.load_file.proofs.faults.PartLaws.{step-none}
use Rattle.sheet.specs.Lines.{line_from}
use Rattle.sheet.specs.inner.Walk.{kept_step}
use Rattle.sheet.proofs.trip.PlaceLaws.{line_place-zero}
use Rattle.sheet.proofs.walk.ReadLaws.{line-says, line-next}
use Rattle.sheet.proofs.row_parts.SheetRow.steps.Goals as goal

-- the places of so many steps, before any is stored
front-zeros : (f : ℕ → Step) (n : ℕ) (z : Step) → n ≤ most_steps → z ≡ no_step
    → take n (replicate most_steps z) ≡ filled f 0 n no_step
front-zeros f n z h e =
    ap (λ z. take n (replicate most_steps z)) e
    ∙ take-replicate n most_steps no_step h
    ∙ sym (filled_none f n no_step)

pub loop-step-init : goal.loop-step-init
loop-step-init c =
    let lines = c.args.self.now in
    record {
      place = sym (line_place-zero lines.bytes.now lines.at);
      steps =
          front-zeros (λ j. kept_step (line_from lines.bytes.now lines.at j)) lines.count _
          lines.count_most (step-none _ c.default-steps.ensures);
    }

pub loop-step-preserved : goal.loop-step-preserved
loop-step-preserved c =
    let bs = c.args.self.now.bytes.now in
    let from = c.args.self.now.at in
    let j = c.loop-step.step-index in
    let place = c.loop-step.invariant.place in
    record {
      place = line-next bs from j place c.line_there-read.ensures;
      steps =
          filled-stored (λ j. kept_step (line_from bs from j)) j c.args.self.now.count no_step _ _
          c.loop-step.invariant.steps
          (c.step_of.ensures ∙ ap kept_step (line-says bs from j place c.line_there-read.ensures))
          (grind (arith, common_steps));
    }

pub returns : goal.returns
returns c =
    let lines = c.args.self.now in
    let f : ℕ → Step = λ j. kept_step (line_from lines.bytes.now lines.at j) in
    let e : c.loop-step.step-index ≡ lines.count = grind (arith, common_steps) in
    ap₂ ◌++◌ (rw e at c.loop-step.invariant.steps ∙ filled-all f lines.count no_step)
    (ap (λ z. drop lines.count (replicate most_steps z)) (step-none _ c.default-steps.ensures)
    ∙ drop-replicate lines.count most_steps no_step)
