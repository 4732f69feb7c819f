-- What the code of the check keeps from one slot to the next, and what it does with a slot. Nothing
-- here is to be believed: check_schedule's own contract cites check_schedule, which keeps no state.
use Rattle.std.specs.Prelude.{ℕ, ◌+◌, ◌-◌, Bool, cond, ◌&&◌, not, List, [], ◌∷◌, eqb, leb, ltb}
use Rattle.std.specs.Prelude.{get_or, set, Result, Ok, Err}
use Rattle.counting.specs.Lists.{any_in}
use Rattle.refusals.specs.declared.Refusal.{Refusal}
use Rattle.refusals.specs.declared.Refusal.TheVariants.{NoSuchSlot, SlotOverlaps, SlotEarly}
use Rattle.refusals.specs.declared.Refusal.TheVariants.{WindowLate, RowLate}
use Rattle.refusals.specs.FirstMet.{first_met}
use Rattle.refusals.specs.Given.{given}
use Rattle.load.specs.declared.Load.{Load}
use Rattle.load.specs.declared.Row.{Row}
use Rattle.load.specs.declared.Window.{Window}
use Rattle.load.specs.Load.{last_moment, most_rows, most_steps, shown, row_at, step_at}
use Rattle.load.specs.View.{row_windows}
use Rattle.rules.specs.declared.Slot.{Slot}
use Rattle.schedule.specs.declared.seen.RowSeen.{RowSeen}
use Rattle.schedule.specs.declared.seen.Seen.{Seen}

-- what is read where there is no row
abbrev pub no_row_seen : RowSeen
no_row_seen = record { count = 0; starts = [] }

-- what the slots so far showed of the row at a place
abbrev pub seen_at : Seen → ℕ → RowSeen
seen_at seen i = get_or seen.rows i no_row_seen

-- when the slot of the step at a place starts
abbrev pub started : RowSeen → ℕ → ℕ
started seen j = get_or seen.starts j 0

-- the moment from which a step, counted from 1, of a row may start
abbrev pub released_at : Row → RowSeen → ℕ → ℕ
released_at row seen step =
    cond (leb step 1) row.phase
    (started seen (step - 2) + (step_at row (step - 2)).cost + (step_at row (step - 2)).wait)

-- the moment at which a step, counted from 1, of a row ends
abbrev pub end_at : Row → ℕ → ℕ → ℕ
end_at row step start = start + (step_at row (step - 1)).cost

-- a step that ends then ends a window late
abbrev pub late_window : RowSeen → ℕ → ℕ → Window → Bool
late_window seen step end window =
    eqb step window.last && ltb (started seen (window.first - 1) + window.limit) end

-- 13 to 17 of a step, counted from 1, of a row, behind a slot that ends at a moment
unfoldable pub step_tests : Row → RowSeen → ℕ → ℕ → ℕ → List (Bool × Refusal)
step_tests row seen before step start =
    (ltb step 1, NoSuchSlot)
    ∷ (ltb row.steps step, NoSuchSlot)
    ∷ (ltb most_steps step, NoSuchSlot)
    ∷ (not (eqb step (shown seen.count)), NoSuchSlot)
    ∷ (ltb last_moment start, NoSuchSlot)
    ∷ (ltb start before, SlotOverlaps)
    ∷ (ltb start (released_at row seen step), SlotEarly)
    ∷ (any_in (late_window seen step (end_at row step start)) (row_windows row), WindowLate)
    ∷ (eqb step row.steps && ltb row.deadline (end_at row step start), RowLate)
    ∷ []

-- 13 to 17 of a slot
abbrev pub slot_tests : Load → Seen → ℕ → ℕ → ℕ → List (Bool × Refusal)
slot_tests load seen row step start =
    (ltb row 1, NoSuchSlot)
    ∷ (ltb load.rows row, NoSuchSlot)
    ∷ (ltb most_rows row, NoSuchSlot)
    ∷ step_tests (row_at load (row - 1)) (seen_at seen (row - 1)) seen.end step start

-- what the slots showed of a row, and one more
abbrev pub row_advanced : RowSeen → ℕ → ℕ → RowSeen
row_advanced seen step start =
    record { count = step; starts = set seen.starts (step - 1) start }

-- a slot that is right, and ends then, is kept
abbrev pub advanced : Seen → ℕ → ℕ → ℕ → ℕ → Seen
advanced seen row step start end =
    record {
      end = end;
      rows = set seen.rows (row - 1) (row_advanced (seen_at seen (row - 1)) step start);
    }

-- a slot that is right is kept with the moment at which it ends
abbrev pub with_slot : Load → Seen → ℕ → ℕ → ℕ → Seen
with_slot load seen row step start =
    advanced seen row step start (end_at (row_at load (row - 1)) step start)

-- one slot after those that were seen: the first refusal stays
abbrev pub seen_of : Load → Result Seen Refusal → Slot → Result Seen Refusal
seen_of load (Ok seen) slot =
    given
    (first_met (slot_tests load seen slot.row slot.step slot.start))
    (with_slot load seen slot.row slot.step slot.start)
seen_of load (Err refusal) slot = Err refusal
