-- "Numbers given back": "Calls that take a load in memory check 3 to 7 in the same row order; the
-- unused places of a part come after its used ones." Since 2026-04 the load's own numbers are 3, 21
-- and 4 to 7. To be read after Faults. Rests on D9.
use Rattle.std.specs.Prelude.{ℕ, Bool, ◌&&◌, not, [], ◌∷◌, eqb, ltb}
use Rattle.counting.specs.Sums.{all_from}
use Rattle.refusals.specs.declared.Refusal.TheVariants.{OutOfRange}
use Rattle.refusals.specs.Checked.{Checked}
use Rattle.refusals.specs.FirstMet.{first_met, first_fault, first_fault_to}
use Rattle.load.specs.declared.Step.{Step}
use Rattle.load.specs.declared.Window.{Window}
use Rattle.load.specs.declared.Row.{Row}
use Rattle.load.specs.declared.Load.{Load}
use Rattle.load.specs.Load.{most_rows, most_steps, most_windows, row_at, step_at, window_at}
use Rattle.load.specs.Faults.{row_tests, taken_tests, step_tests, window_tests}

-- 3 where an unused place is not zero
abbrev pub all_zero : Bool → Checked
all_zero zeros = first_met ((not zeros, OutOfRange) ∷ [])

-- a step of zeros
abbrev pub is_zero_step : Step → Bool
is_zero_step s = eqb s.cost 0 && eqb s.wait 0

-- a window of zeros
abbrev pub is_zero_window : Window → Bool
is_zero_window w = eqb w.first 0 && eqb w.last 0 && eqb w.limit 0

-- the fields of a row beside its steps and windows are zeros
abbrev pub zero_fields : Row → Bool
zero_fields row =
    eqb row.identifier.0 0
    && eqb row.box_number.0 0
    && eqb row.phase 0
    && eqb row.deadline 0
    && eqb row.steps 0
    && eqb row.windows 0
    && eqb row.class 0
    && eqb row.head 0

-- the steps of a row from place a on are zeros
abbrev pub zero_steps_from : Row → ℕ → Bool
zero_steps_from row a = all_from (λ j. is_zero_step (step_at row j)) a most_steps

-- the windows of a row from place a on are zeros
abbrev pub zero_windows_from : Row → ℕ → Bool
zero_windows_from row a = all_from (λ k. is_zero_window (window_at row k)) a most_windows

-- a row of zeros
abbrev pub is_zero_row : Row → Bool
is_zero_row row = zero_fields row && zero_steps_from row 0 && zero_windows_from row 0

-- a row's own fields
abbrev pub check_fields : Row → Checked
check_fields row = first_met (row_tests row)

-- what the row at place i shares with an earlier one
abbrev pub check_taken : Load → ℕ → Row → Checked
check_taken load i row = first_met (taken_tests load i row)

-- the step at place j of a row
abbrev pub check_step : Row → ℕ → Checked
check_step row j = first_met (step_tests row j)

-- the window at place k of a row
abbrev pub check_window : Row → ℕ → Checked
check_window row k = first_met (window_tests row k)

-- the parts of a row: its steps, their unused places, its windows, their unused places
unfoldable pub check_parts : Row → Checked
check_parts row =
    first_fault
    (first_fault_to (check_step row) row.steps
    ∷ all_zero (zero_steps_from row row.steps)
    ∷ first_fault_to (check_window row) row.windows
    ∷ all_zero (zero_windows_from row row.windows)
    ∷ [])

-- the row at place i: its fields, 4 and 5, its parts
unfoldable pub row_fault : Load → ℕ → Row → Checked
row_fault load i row =
    first_fault (check_fields row ∷ check_taken load i row ∷ check_parts row ∷ [])

-- the check of a load in memory: the row count, the rows in order, the unused rows
unfoldable pub check_load : Load → Checked
check_load load =
    first_fault
    (first_met ((ltb most_rows load.rows, OutOfRange) ∷ [])
    ∷ first_fault_to (λ i. row_fault load i (row_at load i)) load.rows
    ∷ all_zero (all_from (λ i. is_zero_row (row_at load i)) load.rows most_rows)
    ∷ [])

-- what the one-reader bench refuses of a load in memory
abbrev pub for_bench : Load → Checked
for_bench load = check_load load
