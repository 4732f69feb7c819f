-- `steps` stores one step a turn: before each turn the first places hold the steps of the lines, the others zeros.
use Rattle.std.proofs.Common.{◌≡◌}
use Rattle.counting.specs.Lists.{filled}
use Rattle.load.specs.Load.{no_step}
use Rattle.sheet.specs.Lines.{line_place, line_from}
use Rattle.sheet.specs.inner.Walk.{kept_step}
use Rattle.sheet.proofs.row_parts.SheetRow.steps.Given as goal

abbrev pub invariant-loop-step : goal.invariant-loop-step
invariant-loop-step l =
    record {
      place : l.at ≡ line_place l.bytes l.fn.self.at l.step-index;
      steps :
          l.step-items
          ≡ filled (λ j. kept_step (line_from l.bytes l.fn.self.at j)) l.step-index l.fn.self.count no_step;
    }
