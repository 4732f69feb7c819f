-- `load_records::rows::records_in` writes the row's own record over zeros, behind it the steps, and behind them the
-- windows. With its counts cut to the places there is room for all of it.
use Rattle.std.proofs.Common.{ℕ, ◌≤◌, ◌∙◌, List, ap, arith, length}
use lib.ListN.{replicate}
use Rattle.counting.proofs.lists.ListLaws.{join_in-take}
use Rattle.load.specs.Load.{most_steps, most_windows, no_step, no_window}
use Rattle.load_records.specs.Records.{most_row_bytes, step_record, window_record}
use Rattle.load_records.specs.Writing.{row_bytes}
use Rattle.load_records.specs.Calls.{records_holding}
use Rattle.load_records.proofs.RowLaws.{row_written, records_holding-is, counted-steps-le, counted-windows-le}
use Rattle.load_records.proofs.RowLaws.{counted-length-le}
use Rattle.load_records.proofs.rows.records_in.Goals as goal
use Rattle.load_records.proofs.rows.records_in.Goals.{After-counted_row-counted}

few-steps : (c : After-counted_row-counted) → c.counted_row-counted.result.steps ≤ most_steps
few-steps c = rw c.counted_row-counted.ensures (counted-steps-le c.args.row)

few-windows : (c : After-counted_row-counted) → c.counted_row-counted.result.windows ≤ most_windows
few-windows c = rw c.counted_row-counted.ensures (counted-windows-le c.args.row)

pub shared_ref_as_front-write_parts : goal.shared_ref_as_front-write_parts
shared_ref_as_front-write_parts c = few-steps (goal.at.shared_ref_as_front-write_parts c).After-counted_row-counted

pub shared_ref_as_front-write_parts-2 : goal.shared_ref_as_front-write_parts-2
shared_ref_as_front-write_parts-2 c =
    few-windows (goal.at.shared_ref_as_front-write_parts-2 c).After-counted_row-counted

pub returns : goal.returns
returns c =
    let start = c.args in
    let row = c.counted_row-counted.result in
    let zeros : List ℕ = replicate most_row_bytes 0 in
    let here = (goal.at.returns c).After-counted_row-counted in
    let kept = c.counted_row-counted.ensures in
    let size = c.row_size-size.ensures in
    let step-places : row.steps ≤ length row.step = omega (arith, few-steps here) in
    let window-places : row.windows ≤ length row.window = omega (arith, few-windows here) in
    let steps = join_in-take step_record row.step no_step row.steps step-places in
    let windows = join_in-take window_record row.window no_window row.windows window-places in
    records_holding-is (row_bytes start.version row) _ _
    (row_written start.version row zeros _ _ _
    c.write_own.ensures
    (rw (size, steps) at c.write_parts.ensures)
    (rw (size, windows) at c.write_parts-2.ensures))
    c.row_length.ensures
    (rw kept (counted-length-le start.row start.version))
    ∙ ap (λ r. records_holding (row_bytes start.version r)) kept
