-- `sheet_line::writing::with_mark` looks at one window a turn: those before it do not have the step, and the first
-- that has it decides.
use mathlib.Core.Path.{◌≡◌}
use lib.ListN.{drop}
use Rattle.load.specs.View.{row_windows}
use Rattle.sheet_line.specs.LineText.{mark_among}
use Rattle.sheet_line.proofs.writing.with_mark.Given as goal

abbrev pub invariant-loop-window : goal.invariant-loop-window
invariant-loop-window l =
    mark_among l.j (row_windows l.fn.row) ≡ mark_among l.j (drop l.window-index (row_windows l.fn.row))
