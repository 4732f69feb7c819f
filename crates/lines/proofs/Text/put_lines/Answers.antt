-- `lines::Text::put_lines` puts the first line, behind it the row lines, and behind them the slot lines; one call tells
-- what the first two are made of.
use Rattle.std.proofs.Common.{◌∙◌, ap, arith, refl, sym}
use Rattle.counting.specs.Lists.{join_in}
use Rattle.lines.specs.Lines.{slot_line, load_lines}
use Rattle.lines.proofs.PutLaws.{puts-more, puts_same}
use Rattle.lines.proofs.AnswerLaws.{first_line-told, row_lines-told}
use Rattle.lines.proofs.ScheduledLaws.{rows_few, scheduled-most}
use Rattle.lines.proofs.Text.put_lines.Goals as goal

pub overflow_cast-slots : goal.overflow_cast-slots
overflow_cast-slots c = omega (arith, scheduled-most _ _ c.requires)

pub put_rows-requires : goal.put_rows-requires
put_rows-requires c = rows_few _ _ c.requires

pub returns : goal.returns
unfolding load_lines
returns c =
    let load = c.args.load.now in
    let told = sym c.unwrap-told.ensures ∙ c.answers_of.ensures in
    let first =
    first_line-told load c.requires.accepted _ told c.args.slots.now _ c.requires c.last_end-end.ensures in
    let rows = row_lines-told load c.requires.accepted _ told c.args.blamed _ refl in
    puts-more (puts-more (puts_same first c.put_first.ensures)
    (puts_same rows (rw c.then_some-blames.ensures at c.put_rows.ensures)))
    (puts_same (ap (join_in slot_line) c.requires.slots-are) c.put_slots.ensures)
