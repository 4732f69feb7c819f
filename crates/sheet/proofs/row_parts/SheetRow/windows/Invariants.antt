-- `windows` stores a window at each line with a limit: before turn j the windows that begin before line j are
-- stored, and zeros behind them. A row of at most eight lines has at most four windows, for each has two steps or more.
use Rattle.std.proofs.Common.{◌≡◌, length}
use Rattle.sheet.specs.Lines.{line_place}
use Rattle.sheet.specs.SheetRows.{window_places}
use Rattle.sheet.proofs.walk.WindowWalk.{windows_to}
use Rattle.sheet.proofs.row_parts.SheetRow.windows.Given as goal

abbrev pub invariant-loop-j : goal.invariant-loop-j
invariant-loop-j l =
    record {
      place : l.at ≡ line_place l.bytes l.fn.self.at l.j;
      count : l.stored ≡ length (windows_to l.bytes l.fn.self.at l.fn.self.count l.j);
      windows : l.window ≡ window_places (windows_to l.bytes l.fn.self.at l.fn.self.count l.j);
    }
