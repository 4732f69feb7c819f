-- `row` takes the row's own fields from its first line, and its steps and windows from all of them.
use Rattle.std.proofs.Common.{◌≡◌, arith, sym}
use Rattle.std.proofs.lemmas.Grind.{common_steps}
use Rattle.std.specs.Prelude.{min}
use Rattle.sheet.specs.Lines.{line_from}
use Rattle.sheet.specs.inner.Narrow.{most32, or_zero}
use Rattle.sheet.specs.inner.Walk.{kept_windows}
use Rattle.sheet.proofs.trip.PlaceLaws.{line_place-zero}
use Rattle.sheet.proofs.walk.ReadLaws.{line-stands, line-says}
use Rattle.sheet.proofs.walk.KeptLaws.{narrow_row-is}
use Rattle.sheet.proofs.row_parts.SheetRow.row.Goals as goal

pub line_there-requires : goal.line_there-requires
line_there-requires c =
    line-stands c.args.self.now.lines_stand c.args.self.now.count_some
    (sym (line_place-zero c.args.self.now.bytes.now c.args.self.now.at))

pub returns : goal.returns
unfolding kept_windows
returns c =
    let bs = c.args.self.now.bytes.now in
    let at = c.args.self.now.at in
    let line = c.line_there.result.line in
    let says : line ≡ line_from bs at 0 =
    line-says bs at 0 (sym (line_place-zero bs at)) c.line_there.ensures in
    let identifier : c.unwrap_or.result ≡ or_zero most32 line.identifier = grind (arith, common_steps) in
    let box : c.unwrap_or-2.result ≡ or_zero most32 line.box_number = grind (arith, common_steps) in
    let phase : c.unwrap_or-3.result ≡ min line.phase most32 = grind (arith, common_steps) in
    let deadline : c.unwrap_or-4.result ≡ or_zero most32 line.deadline = grind (arith, common_steps) in
    rw (identifier, box, phase, deadline, c.windows-count.ensures, c.steps-step.ensures, says)
    (narrow_row-is (line_from bs at) c.args.self.now.count)
