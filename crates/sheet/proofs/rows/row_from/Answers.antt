-- `row_from` counts the row's lines, and reads the row where it has at most eight.
use Rattle.std.proofs.Common.{◌≡◌, ◌≤◌, ◌<◌, ◌∙◌, ap, ap₂, arith, List, ℕ, sym}
use Rattle.load.specs.Load.{most_steps}
use Rattle.sheet.specs.Lines.{line_place, line_from}
use Rattle.sheet.specs.SheetRows.{steps_from, row_of}
use Rattle.sheet.specs.inner.Narrow.{narrow_row}
use Rattle.sheet.proofs.trip.PlaceLaws.{steps_from-least}
use Rattle.sheet.proofs.walk.RunLaws.{row-stands}
use Rattle.sheet.proofs.walk.KeptLaws.{kept_row-short, kept_row-long}
use Rattle.sheet.proofs.rows.row_from.Goals as goal
use Rattle.sheet.proofs.rows.row_from.Goals.{After-run_from-steps}

-- the row's lines
module _ (c : After-run_from-steps) where
  abbrev bs : List ℕ
  bs = c.args.bytes.now

  abbrev at : ℕ
  at = c.args.at

  steps-are : c.run_from-steps.result.steps ≡ steps_from bs at
  steps-are = ap (λ run. run.steps) c.run_from-steps.ensures

  next-is : c.run_from-steps.result.next ≡ line_place bs at (steps_from bs at)
  next-is = ap (λ run. run.next) c.run_from-steps.ensures

pub invariant_of-there : goal.invariant_of-there
invariant_of-there c =
    let pre = c.requires in
    let run = (goal.at.invariant_of-there c).After-run_from-steps in
    let e = steps-are run in
    record {
      count_some = omega (arith, e, steps_from-least (bs run) (at run));
      count_most = omega arith;
      lines_stand = rw e (row-stands (bs run) (at run) pre);
      marked = rw e pre.row-lines.marked;
    }

pub returns-then-steps-gt-MOST_STEPS : goal.returns-then-steps-gt-MOST_STEPS
returns-then-steps-gt-MOST_STEPS c =
    let here = (goal.at.returns-then-steps-gt-MOST_STEPS c).After-run_from-steps in
    let l : most_steps < steps_from (bs here) (at here) = omega
    (arith, steps-are here, c.if-steps-gt-MOST_STEPS.true) in
    ap₂ (λ row next. record { row = row; next = next })
    (c.zero_row-row.ensures ∙ sym (kept_row-long (line_from (bs here) (at here)) (steps_from (bs here) (at here)) l))
    (next-is here)

pub returns-else-steps-gt-MOST_STEPS : goal.returns-else-steps-gt-MOST_STEPS
returns-else-steps-gt-MOST_STEPS c =
    let here = (goal.at.returns-else-steps-gt-MOST_STEPS c).After-run_from-steps in
    let l : steps_from (bs here) (at here) ≤ most_steps = omega
    (arith, steps-are here, c.if-steps-gt-MOST_STEPS.false) in
    ap₂ (λ row next. record { row = row; next = next })
    (c.row-row.ensures
    ∙ ap (λ steps. narrow_row (row_of (line_from (bs here) (at here)) steps)) (steps-are here)
    ∙ sym (kept_row-short (line_from (bs here) (at here)) (steps_from (bs here) (at here)) l))
    (next-is here)
