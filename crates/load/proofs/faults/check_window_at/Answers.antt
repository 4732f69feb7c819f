-- `check_window_at` asks the window that `window_at` gives, behind the one before its place.
use mathlib.Core.Path.{◌∙◌}
use Rattle.load.specs.Faults.{window_tests}
use Rattle.load.proofs.faults.check_window_at.Goals as goal

pub returns : goal.returns
unfolding window_tests
returns c = c.check_window.ensures ∙ rw (c.last_before.ensures, c.window_at.ensures)
