-- `dashes_from` asks one line a turn: before turn k the first k lines have dashes.
use Rattle.std.proofs.Common.{◌≡◌, ◌∙◌, ap, arith, sym}
use borrow.Author.Count.{below_more}
use Rattle.sheet.specs.Lines.{line_from}
use Rattle.sheet.specs.LineFaults.{is_dash}
use Rattle.sheet.proofs.trip.PlaceLaws.{line_place-zero}
use Rattle.sheet.proofs.walk.ReadLaws.{line-stands, line-says, line-next}
use Rattle.sheet.proofs.walk.WindowWalk.{dashes-are}
use Rattle.sheet.proofs.row_parts.dashes_from.Goals as goal
use Rattle.sheet.proofs.row_parts.dashes_from.Goals.{After-is_dash}

pub loop-k-init : goal.loop-k-init
loop-k-init c =
    record { place = sym (line_place-zero c.args.bytes.now c.args.from); dashes = λ i l. absurd (omega arith) }

pub line_there-read-requires : goal.line_there-read-requires
line_there-read-requires c = line-stands c.requires c.loop-k-test.true c.loop-k.invariant.place

-- the line of the turn
asked : (c : After-is_dash) → c.is_dash.result ≡ is_dash (line_from c.args.bytes.now c.args.from c.loop-k.k).mark
asked c =
    c.is_dash.ensures
    ∙ ap (λ line. is_dash line.mark)
    (line-says c.args.bytes.now c.args.from c.loop-k.k c.loop-k.invariant.place c.line_there-read.ensures)

pub returns-then-not-is_dash : goal.returns-then-not-is_dash
returns-then-not-is_dash c =
    let start = c.args in
    dashes-are start.bytes.now start.from start.left c.loop-k.k (omega arith) c.loop-k.invariant.dashes
    (λ l. sym (asked (goal.at.returns-then-not-is_dash c).After-is_dash) ∙ c.if-not-is_dash.true)

pub loop-k-preserved : goal.loop-k-preserved
loop-k-preserved c =
    record {
      place =
          line-next c.args.bytes.now c.args.from c.loop-k.k c.loop-k.invariant.place c.line_there-read.ensures;
      dashes =
          below_more _ c.loop-k.k c.loop-k.invariant.dashes
          (sym (asked (goal.at.loop-k-preserved c).After-is_dash) ∙ c.if-not-is_dash.false);
    }

pub returns : goal.returns
returns c =
    let start = c.args in
    let e : c.loop-k.k ≡ start.left = omega arith in
    sym e
    ∙ dashes-are start.bytes.now start.from start.left c.loop-k.k (omega arith) c.loop-k.invariant.dashes
    (λ l. absurd (omega arith))
