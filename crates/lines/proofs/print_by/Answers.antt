-- `lines::print_by` makes the text, and writes it where the output has room for it.
use Rattle.std.proofs.Common.{◌≡◌, ◌≤◌, ◌∙◌, ap, arith, length, refl}
use Rattle.std.specs.Prelude.{Ok}
use Rattle.std.proofs.lemmas.List.Edits.{sets}
use Rattle.words.proofs.OverwriteLaws.{sets-front}
use Rattle.refusals.proofs.GivenLaws.{written-out}
use Rattle.lines.specs.declared.Text.{Text}
use Rattle.lines.specs.Lines.{printed_by}
use Rattle.lines.proofs.PrintedLaws.{text-taken}
use Rattle.lines.proofs.print_by.Goals as goal

pub returns : goal.returns
returns c =
    let lines = printed_by c.args.blamed c.args.bytes.now in
    let out = c.args.out.now in
    let sized : c.text_by-text.result.length ≡ length lines = ap (λ (t : Text). t.length) c.text_by-text.ensures in
    let room : length lines ≤ length out = omega (arith, sized, c.if-out-text.false) in
    written-out (Ok tt) lines out _ _ refl sized room
    (c.overwrite.ensures
    ∙ ap (sets out 0) (text-taken lines _ c.text_by-text.ensures)
    ∙ sets-front out lines room)
