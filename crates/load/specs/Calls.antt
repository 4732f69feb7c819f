-- What each public call's contract says: one relation a call, over what it takes and what it gives.
-- To be read after Check.
use Rattle.std.specs.Prelude.{ℕ, min, Bool, cond, List, ◌≡◌, eqb, ltb, get_or}
use Rattle.counting.specs.Sums.{any_to}
use Rattle.refusals.specs.Checked.{Checked}
use Rattle.refusals.specs.FirstMet.{first_met}
use Rattle.load.specs.declared.Identifier.{Identifier}
use Rattle.load.specs.declared.BoxNumber.{BoxNumber}
use Rattle.load.specs.declared.Step.{Step}
use Rattle.load.specs.declared.Window.{Window}
use Rattle.load.specs.declared.Row.{Row}
use Rattle.load.specs.declared.Load.{Load}
use Rattle.load.specs.Load.{most_rows, row_at, step_at, window_at, zero_row, zero_load}
use Rattle.load.specs.View.{view_of, row_windows, chain_between, embedded_among, steps_in_all}
use Rattle.load.specs.Faults.{step_numbers, window_numbers}
use Rattle.load.specs.Check.{check_fields, check_parts, check_load}
use Rattle.load.specs.Plain.{check_plain}

-- check_load(load): the first of the load's own numbers, or Good
abbrev pub CheckLoad : Load → Checked → Type 0
CheckLoad load r = r ≡ check_load load

-- check_plain(load): the first of the load's own numbers, then 22, or Good
abbrev pub CheckPlain : Load → Checked → Type 0
CheckPlain load r = r ≡ check_plain load

-- check_fields(row): a row's own fields
abbrev pub CheckFields : Row → Checked → Type 0
CheckFields row r = r ≡ check_fields row

-- check_step(step, is_last): a step, which is the last of its row or not
abbrev pub CheckStep : Step → Bool → Checked → Type 0
CheckStep step is_last r = r ≡ first_met (step_numbers step is_last)

-- check_window(row, window, before): a window of a row, the window before it ending at a step, or
-- at 0 where there is none
abbrev pub CheckWindow : Row → Window → ℕ → Checked → Type 0
CheckWindow row window before r = r ≡ first_met (window_numbers row window before)

-- check_parts(row): a row's steps and windows, and their unused places
abbrev pub CheckParts : Row → Checked → Type 0
CheckParts row r = r ≡ check_parts row

-- identifier_taken(identifiers, n, identifier): one of the first n, of at most 24, is that
-- identifier
abbrev pub IdentifierTaken : List Identifier → ℕ → Identifier → Bool → Type 0
IdentifierTaken identifiers n identifier r =
    r ≡ any_to (λ k. eqb (get_or identifiers k (record { 0 = 0 })).0 identifier.0) (min n most_rows)

-- box_taken(boxes, n, box_number): one of the first n, of at most 24, is that box number
abbrev pub BoxTaken : List BoxNumber → ℕ → BoxNumber → Bool → Type 0
BoxTaken boxes n box r =
    r ≡ any_to (λ k. eqb (get_or boxes k (record { 0 = 0 })).0 box.0) (min n most_rows)

-- row_at(load, i): the row at a place, past the last the row of zeros
abbrev pub RowAt : Load → ℕ → Row → Type 0
RowAt load i r = r ≡ cond (ltb i most_rows) (row_at load i) zero_row

-- step_at(row, j): the step at a place, past the last a step of zeros
abbrev pub StepAt : Row → ℕ → Step → Type 0
StepAt row j r = r ≡ step_at row j

-- window_at(row, k): the window at a place, past the last a window of zeros
abbrev pub WindowAt : Row → ℕ → Window → Type 0
WindowAt row k r = r ≡ window_at row k

-- embedded_at(row, j): the step at a place is embedded
abbrev pub EmbeddedAt : Row → ℕ → Bool → Type 0
EmbeddedAt row j r = r ≡ embedded_among j (row_windows row)

-- chain_between(row, from, to): costs, and the waits between them, of the steps from one place on
-- and below another
abbrev pub ChainBetween : Row → ℕ → ℕ → ℕ → Type 0
ChainBetween row from to r = r ≡ chain_between row from to

-- steps_in(load): how many steps it has
abbrev pub StepsIn : Load → ℕ → Type 0
StepsIn load r = r ≡ steps_in_all (view_of load)

-- zero_row(): the row of zeros
abbrev pub ZeroRow : Row → Type 0
ZeroRow r = r ≡ zero_row

-- zero_load(): the load of zeros
abbrev pub ZeroLoad : Load → Type 0
ZeroLoad r = r ≡ zero_load
