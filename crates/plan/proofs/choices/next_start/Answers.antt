-- `next_start` searches at the clock, and where nothing starts there, sweeps the rows for the soonest moment.
use Rattle.plan.proofs.NextLaws.{next_past, next-now, next-swept}
use Rattle.plan.proofs.choices.next_start.Goals as goal

pub returns-then-clock-gt-LAST_MOMENT : goal.returns-then-clock-gt-LAST_MOMENT
returns-then-clock-gt-LAST_MOMENT c = next_past _ _ _ _ _ c.min-last.ensures c.if-clock-gt-LAST_MOMENT.true

pub returns-in-Some : goal.returns-in-Some
returns-in-Some c =
    let is = c.of-search.ensures in
    let row = c.in-Some.ensures.chosen_row in
    next-now _ _ _ _ _ _ c.min-last.ensures c.if-clock-gt-LAST_MOMENT.false
    (rw (is.board_is, is.classes_are, is.rows_are) at row.1) (rw is.rows_are at row.0)

pub returns : goal.returns
returns c =
    let is = c.of-search.ensures in
    next-swept _ _ _ _ _ _ _ (rw (is.board_is, is.rows_are) at c.start_bound-before.ensures)
    (rw (is.board_is, is.classes_are, is.rows_are) at c.sweep-next.ensures) _ _
    c.min-last.ensures c.if-clock-gt-LAST_MOMENT.false
    c.min.ensures
