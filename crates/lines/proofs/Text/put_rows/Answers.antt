-- `lines::Text::put_rows` puts one row line a turn, behind those before it.
use Prim.Native.Nat.{◌<◌}
use mathlib.Core.Path.{◌≡◌, ap, ap₂, ◌∙◌}
use native.Mathlib.Omega.{arith}
use borrow.Author.Rules.{rules}
use lib.ListN.{take, get_or}
use lib.Seq.{get_or-take}
use mir.Facts.{to_z-of_z}
use mir.Syntax.{w32}
use mir.Val.{SFits}
use Rattle.load.specs.Load.{shown, no_row}
use Rattle.rules.specs.Margins.{margin_in}
use Rattle.lines.specs.Lines.{row_line_of}
use Rattle.lines.specs.inner.Puts.{words_of, given_at, row_line_by}
use Rattle.lines.proofs.PutLaws.{puts_same, puts-to_none, puts-to_next}
use Rattle.lines.proofs.Text.put_rows.Goals as goal

pub loop-i-init : goal.loop-i-init
loop-i-init c = puts-to_none _ _

pub loop-i-preserved : goal.loop-i-preserved
loop-i-preserved c =
    let load = c.args.load.now in
    let margins = c.args.margins.now in
    let blames = c.args.blames in
    let i = c.loop-i.i-counter in
    let l : i < load.rows = omega arith in
    let given : c.map-blame.result ≡ given_at blames i = search rules in
    let fits : SFits w32 (margin_in margins i) = search rules in
    puts-to_next (row_line_by load margins blames) i c.loop-i.invariant
    (puts_same
    (ap (λ z. row_line_of (shown i) (get_or (take load.rows load.row) i no_row) z (words_of c.map-blame.result))
    (to_z-of_z fits)
    ∙ ap₂ (λ row more. row_line_of (shown i) row (margin_in margins i) (words_of more))
    (get_or-take load.rows load.row i no_row l) given)
    c.put_row.ensures)

pub returns : goal.returns
returns c =
    let e : c.loop-i.i-counter ≡ c.args.load.now.rows = omega arith in
    rw e at c.loop-i.invariant
