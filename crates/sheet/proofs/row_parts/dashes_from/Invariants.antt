-- `dashes_from` asks one line a turn: before turn k the first k lines have dashes.
use Rattle.std.proofs.Common.{◌≡◌, ◌<◌, ℕ, true}
use Rattle.sheet.specs.Lines.{line_place, line_from}
use Rattle.sheet.specs.LineFaults.{is_dash}
use Rattle.sheet.proofs.row_parts.dashes_from.Given as goal

abbrev pub invariant-loop-k : goal.invariant-loop-k
invariant-loop-k l =
    record {
      place : l.at ≡ line_place l.bytes l.from l.k;
      dashes : (i : ℕ) → i < l.k → is_dash (line_from l.bytes l.from i).mark ≡ true;
    }
