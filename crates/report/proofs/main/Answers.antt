-- `report::main` writes as much of the text as it counts, which is no more than there is.
use mathlib.Core.Path.{sym}
use Prim.Native.Nat.{◌≤◌}
use lib.ListN.{length, take}
use lib.Seq.{length-take-le}
use Rattle.lines.specs.Lines.{printed}
use Rattle.lines.proofs.CallLaws.{text-length-le}
use Rattle.lines.proofs.PrintedFront.{first-whole}
use Rattle.report.proofs.main.Goals as goal
use Rattle.report.proofs.main.Goals.{After-answer-text}

there : (c : After-answer-text) → c.answer-text.result.length ≤ length c.answer-text.result.bytes
there c =
    let file = c.read_full-size.new.buffer in
    let size = c.read_full-size.result in
    text-length-le (printed (take size file)) _
    (c.answer-text.ensures _ (first-whole file size c.read_full-size.ensures))

pub slice_bounds-bytes-end : goal.slice_bounds-bytes-end
slice_bounds-bytes-end c = there (goal.at.slice_bounds-bytes-end c).After-answer-text

pub slice_bounds-write_all-end : goal.slice_bounds-write_all-end
slice_bounds-write_all-end c = sym (length-take-le _ _ (there (goal.at.slice_bounds-write_all-end c).After-answer-text))
