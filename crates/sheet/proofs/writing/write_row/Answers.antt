-- `write_row` writes line by line: after j turns the first j lines stand from the place on, and the place is the one
-- behind them. A line has at most 63 bytes, so the place fits.
use Rattle.std.proofs.Common.{◌≡◌, ◌≤◌, ◌∙◌, ap, arith, length, length-append, rules}
use Rattle.std.proofs.lemmas.List.Edits.{sets}
use Rattle.counting.proofs.lists.ListLaws.{join_to-zero, join_to-next}
use Rattle.words.proofs.OverwriteLaws.{sets-joined-zero, sets-joined-next}
use Rattle.sheet_line.proofs.TextLaws.{text-length, text-taken, text-inside}
use Rattle.sheet.specs.Writing.{row_lines}
use Rattle.sheet.proofs.writing.write_row.Goals as goal
use Rattle.sheet.proofs.writing.write_row.Goals.{After-line_of-line}
use Rattle.sheet.proofs.writing.write_row.Invariants.{line, lines}

pub loop-j-init : goal.loop-j-init
loop-j-init c =
    let e = ap length (join_to-zero (line c.args.row)) in
    record { next = omega arith; few = omega arith; so_far = sets-joined-zero _ _ _ }

-- the text of a line has so few bytes
few : (c : After-line_of-line) → c.line_of-line.result.length ≤ 63
few c =
    let there = text-inside _ _ _ c.line_of-line.ensures in
    let places : length c.line_of-line.result.bytes ≡ 63 = search rules in
    omega arith

pub overflow_add-place : goal.overflow_add-place
overflow_add-place c = omega (arith, few (goal.at.overflow_add-place c).After-line_of-line, c.loop-j.invariant.few)

pub loop-j-preserved : goal.loop-j-preserved
loop-j-preserved c =
    let row = c.args.row in
    let e =
    ap length (join_to-next (line row) c.loop-j.j) ∙ length-append (lines row c.loop-j.j) (line row c.loop-j.j) in
    let long = text-length _ _ _ c.line_of-line.ensures in
    let short = few (goal.at.loop-j-preserved c).After-line_of-line in
    let inv = c.loop-j.invariant in
    record {
      next = omega (arith, inv.next);
      few = omega (arith, inv.few);
      so_far =
          sets-joined-next (line row) _ _ _ _ c.loop-j.place c.loop-j.j inv.next inv.so_far
          (c.overwrite.ensures ∙ ap (sets _ c.loop-j.place) (text-taken _ _ _ c.line_of-line.ensures));
    }

pub returns : goal.returns
unfolding row_lines
returns c =
    let e : c.loop-j.j ≡ c.args.row.steps = omega arith in
    record {
      value = (rw e at c.loop-j.invariant.next, omega (arith, c.loop-j.invariant.few));
      out_after = rw e at c.loop-j.invariant.so_far;
    }
