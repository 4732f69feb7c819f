-- `window_of` asks one window a turn: until one is open, the first open one is to be found among those from here on.
use Rattle.std.proofs.Common.{◌≡◌, drop}
use Rattle.counting.specs.Lists.{first_in}
use Rattle.load.specs.Load.{no_window}
use Rattle.load.specs.View.{row_windows, open_with}
use Rattle.plan.proofs.lookups.window_of.Given as goal

abbrev pub invariant-loop-window : goal.invariant-loop-window
invariant-loop-window l =
    first_in (open_with l.finished) no_window (row_windows l.row)
    ≡ first_in (open_with l.finished) no_window (drop l.window-index (row_windows l.row))
