-- The numbers that a load, a file, a schedule and a move can be refused with: each definition is a list of tests, and
-- those are looked through.
use Prim.Native.Nat.{ℕ}
use mathlib.Core.Bool.{Bool, not}
use mathlib.Core.List.{List, [], ◌∷◌, ◌++◌}
use mathlib.Core.Path.{◌≡◌, refl}
use lib.Dec.{eqb, ltb}
use lib.ListN.{length}
use Rattle.counting.specs.Sums.{all_from}
use Rattle.counting.specs.Lists.{any_in}
use Rattle.counting.specs.Searches.{Found, at, none}
use Rattle.refusals.specs.declared.Refusal.TheVariants.{OutOfRange, SlotCount}
use Rattle.refusals.specs.Checked.{Checked}
use Rattle.std.specs.Prelude.{Ok, Err}
use Rattle.refusals.specs.Refusals.{number_of, number_given}
use Rattle.refusals.specs.FirstMet.{first_met}
use Rattle.load.specs.declared.Step.{Step}
use Rattle.load.specs.declared.Window.{Window}
use Rattle.load.specs.declared.Row.{Row}
use Rattle.load.specs.declared.Load.{Load}
use Rattle.load.specs.Load.{most_rows, shown, row_at, step_at, window_at}
use Rattle.load.specs.View.{View, view_of, steps_in_all}
use Rattle.load.specs.Faults.{
  row_tests,
  taken_tests,
  step_numbers,
  step_tests,
  last_before,
  window_numbers,
  window_tests,
}
use Rattle.load.specs.Check.{
  all_zero,
  zero_steps_from,
  zero_windows_from,
  is_zero_row,
  check_fields,
  check_step,
  check_window,
  check_parts,
  row_fault,
  check_load,
}
use Rattle.load.specs.Plain.{carried_tests, check_plain}
use Rattle.load_records.specs.Records.{row_kind, step_kind, window_kind}
use Rattle.load_file.specs.Places.{
  version_said,
  steps_said,
  windows_said,
  step_place,
  window_place,
  row_from,
  row_place,
  rows_said,
  load_in,
}
use Rattle.load_file.specs.Reading.{
  due_tests,
  header_tests,
  step_fault_in,
  window_fault_in,
  own_fault,
  row_fault_at,
  end_tests,
  file_fault,
}
use Rattle.sheet.specs.Reading.{sheet_fault}
use Rattle.sheet.proofs.narrow.SheetNumbers.{sheet-numbers}
use Rattle.rules.specs.declared.Slot.{Slot}
use Rattle.rules.specs.declared.Outcome.{Outcome}
use Rattle.rules.specs.Outcomes.{told_by}
use Rattle.rules.specs.State.{State}
use Rattle.rules.specs.Move.{start_or_idle_by, chosen, move}
use Rattle.rules.specs.Slots.{slot_at}
use Rattle.rules.specs.Check.{slot_tests, check_slots, check_schedule}
use Rattle.rules.proofs.moves.MoveLaws.{Way, unshaped, finished, full, goes, move-way}
use Rattle.bench.specs.declared.Bench.{Bench}
use Rattle.bench.specs.Held.{state_of, next_move}
use Rattle.bench.proofs.choice.NextLaws.{next_move-good, next_move-refused}
use Rattle.demands.specs.NumberLists.{
  OneOf,
  of_load,
  of_plain,
  of_file,
  of_sheet,
  of_range,
  of_fields,
  of_window,
  of_schedule,
  of_move,
}
use Rattle.demands.proofs.demand1.NumberLaws.{
  Gives,
  tests-give,
  then-gives,
  last-gives,
  faults_to-give,
  OneOf-more,
  Gives-more,
}

-- the parts of a load
pub fields_give : (row : Row) → Gives of_fields (check_fields row)
unfolding row_tests any_in
fields_give row = tests-give of_fields (row_tests row) refl

pub step_gives : (step : Step) (is_last : Bool) → Gives of_range (first_met (step_numbers step is_last))
unfolding any_in
step_gives step is_last = tests-give of_range (step_numbers step is_last) refl

pub window-gives : (row : Row) (window : Window) (before : ℕ)
    → Gives of_window (first_met (window_numbers row window before))
unfolding any_in
window-gives row window before = tests-give of_window (window_numbers row window before) refl

step-at-gives : (row : Row) (j : ℕ) → Gives of_range (check_step row j)
unfolding step_tests
step-at-gives row j = step_gives (step_at row j) (eqb (shown j) row.steps)

window-at-gives : (row : Row) (k : ℕ) → Gives of_window (check_window row k)
unfolding window_tests
window-at-gives row k = window-gives row (window_at row k) (last_before row k)

zeros-give : (zeros : Bool) → Gives of_range (all_zero zeros)
unfolding any_in
zeros-give zeros = tests-give of_range ((not zeros, OutOfRange) ∷ []) refl

pub parts-give : (row : Row) → Gives of_window (check_parts row)
unfolding check_parts any_in
parts-give row =
    then-gives of_window _ _
    (faults_to-give of_window (check_step row) (λ j. ranged (check_step row j) (step-at-gives row j)) row.steps)
    (then-gives of_window _ _ (ranged _ (zeros-give (zero_steps_from row row.steps)))
    (then-gives of_window _ _ (faults_to-give of_window (check_window row) (window-at-gives row) row.windows)
    (last-gives of_window _ (ranged _ (zeros-give (zero_windows_from row row.windows))))))
  where
    ranged : (found : Checked) → Gives of_range found → Gives of_window found
    ranged = Gives-more of_range of_window refl

row_gives : (load : Load) (i : ℕ) (row : Row) → Gives of_load (row_fault load i row)
unfolding row_fault taken_tests any_in
row_gives load i row =
    then-gives of_load _ _ (Gives-more of_fields of_load refl (check_fields row) (fields_give row))
    (then-gives of_load _ _ (tests-give of_load (taken_tests load i row) refl)
    (last-gives of_load _ (Gives-more of_window of_load refl (check_parts row) (parts-give row))))

pub load_gives : (load : Load) → Gives of_load (check_load load)
unfolding check_load any_in
load_gives load =
    then-gives of_load _ _ (tests-give of_load ((ltb most_rows load.rows, OutOfRange) ∷ []) refl)
    (then-gives of_load _ _
    (faults_to-give of_load (λ i. row_fault load i (row_at load i)) (λ i. row_gives load i (row_at load i)) load.rows)
    (last-gives of_load _
    (Gives-more of_range of_load refl _
    (zeros-give (all_from (λ i. is_zero_row (row_at load i)) load.rows most_rows)))))

pub plain-gives : (load : Load) → Gives of_plain (check_plain load)
unfolding check_plain any_in
plain-gives load =
    then-gives of_plain (check_load load) _ (Gives-more of_load of_plain refl (check_load load) (load_gives load))
    (last-gives of_plain _ (tests-give of_plain (carried_tests load) refl))

file-row-gives : (bs : List ℕ) (i place : ℕ) → Gives of_file (row_fault_at bs i place)
unfolding row_fault_at own_fault step_fault_in window_fault_in row_tests taken_tests step_tests window_tests any_in
file-row-gives bs i place =
    then-gives of_file _ _
    (tests-give of_file
    (due_tests (row_kind (version_said bs)) bs place
    ++ row_tests (row_from bs place)
    ++ taken_tests (load_in bs) i (row_from bs place)) refl)
    (then-gives of_file _ _
    (faults_to-give of_file (step_fault_in bs place)
    (λ j. tests-give of_file (due_tests step_kind bs (step_place bs place j) ++ step_tests (row_from bs place) j) refl)
    (steps_said bs place))
    (last-gives of_file _
    (faults_to-give of_file (window_fault_in bs place)
    (λ k. tests-give of_file (due_tests window_kind bs (window_place bs place k)
    ++ window_tests (row_from bs place) k) refl)
    (windows_said bs place))))

pub file-gives : (bs : List ℕ) → Gives of_file (file_fault bs)
unfolding file_fault header_tests end_tests any_in
file-gives bs =
    then-gives of_file _ _ (tests-give of_file (header_tests bs) refl)
    (then-gives of_file _ _
    (faults_to-give of_file (λ i. row_fault_at bs i (row_place bs i)) (λ i. file-row-gives bs i (row_place bs i))
    (rows_said bs))
    (last-gives of_file _ (tests-give of_file (end_tests bs (row_place bs (rows_said bs))) refl)))

-- of a sheet's numbers 6 is none: the windows that marks spell are in order
pub sheet-gives : (bs : List ℕ) → Gives of_sheet (sheet_fault bs)
sheet-gives bs = record { passes = sheet-numbers bs }

pub schedule-gives : (load : Load) (slots : List Slot) → Gives of_schedule (check_schedule load slots)
unfolding check_schedule check_slots slot_tests any_in
schedule-gives load slots =
    then-gives of_schedule (check_load load) _
    (record { passes = OneOf-more of_load of_schedule refl (number_given (check_load load)) (load_gives load).passes })
    (last-gives of_schedule _
    (then-gives of_schedule _ _
    (tests-give of_schedule ((not (eqb (length slots) (steps_in_all (view_of load))), SlotCount) ∷ []) refl)
    (last-gives of_schedule _
    (faults_to-give of_schedule (λ k. first_met (slot_tests (view_of load) slots k (slot_at slots k)))
    (λ k. tests-give of_schedule (slot_tests (view_of load) slots k (slot_at slots k)) refl) (length slots)))))

-- the number of an answer
abbrev number_in : Outcome → ℕ
number_in outcome = (told_by outcome).number

choice-gives : (L : View) (s : State) (choice : Found)
    → OneOf of_move (number_in (start_or_idle_by L.cost L s choice).outcome)
unfolding any_in
choice-gives L s (at i) = refl
choice-gives L s none = refl

rules-give : (L : View) (s : State) → OneOf of_move (number_in (move L s).outcome)
unfolding any_in
rules-give L s = go (move-way L.cost L s)
  where
    go : Way L.cost L s → OneOf of_move (number_in (move L s).outcome)
    go (unshaped e q) = rw q
    go (finished e q) = rw q
    go (full e d l q) = rw q
    go (goes e q) = rw q (choice-gives L s (chosen L s))

pub move_gives : (load : Load) (bench : Bench) → OneOf of_move (number_in (next_move load bench).outcome)
unfolding next_move any_in
move_gives load bench = go (check_load load) refl (load_gives load).passes
  where
    go : (found : Checked) → check_load load ≡ found → OneOf of_load (number_given found)
        → OneOf of_move (number_in (next_move load bench).outcome)
    go (Ok tt) q own = rw (next_move-good load bench q) (rules-give (view_of load) (state_of bench))
    go (Err refusal) q own =
        rw (next_move-refused load bench refusal q) (OneOf-more of_load of_move refl (number_of refusal) own)
