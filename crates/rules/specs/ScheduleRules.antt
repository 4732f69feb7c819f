-- Document 01's rules of a schedule, as a plain predicate on the list of its slots: no fold, no
-- state, no order of tests. To be read after Slots.
use Rattle.std.specs.Prelude.{ℕ, suc, ◌+◌, ◌≤◌, ◌<◌, List, ◌≡◌, length}
use Rattle.load.specs.Load.{last_moment, shown}
use Rattle.load.specs.View.{View}
use Rattle.load.specs.Acceptable.{window_of}
use Rattle.rules.specs.declared.Slot.{Slot}
use Rattle.rules.specs.Slots.{slot_at, row_of, step_of, slot_end}

-- a slot names a step of the load, and starts by 1,000,000
pub record NamesStep (L : View) (slot : Slot) : Type 0 where
  pub row_from : 1 ≤ slot.row
  pub row-to : slot.row ≤ L.rows
  pub step_from : 1 ≤ slot.step
  pub step-to : slot.step ≤ L.steps (row_of slot)
  pub start-to : slot.start ≤ last_moment

-- a place of the list at which the slot of step j of row i stands
pub record HasSlot (slots : List Slot) (i j : ℕ) : Type 0 where
  pub place : ℕ
  pub below : place < length slots
  pub its-row : (slot_at slots place).row ≡ shown i
  pub its-step : (slot_at slots place).step ≡ shown j

-- the slots at places k and h are of one row
pub record OneRow (slots : List Slot) (k h : ℕ) : Type 0 where
  pub first : k < length slots
  pub second : h < length slots
  pub same : (slot_at slots k).row ≡ (slot_at slots h).row

-- what the slots keep, whatever the deadlines
pub record SlotRules (L : View) (slots : List Slot) : Type 0 where
  -- nothing but steps of the load is scheduled
  pub only : (k : ℕ) → k < length slots → NamesStep L (slot_at slots k)
  -- each step is
  pub each : (i j : ℕ) → i < L.rows → j < L.steps i → HasSlot slots i j
  -- and once
  pub once : (k h : ℕ) → OneRow slots k h → (slot_at slots k).step ≡ (slot_at slots h).step → k ≡ h
  -- the steps of a row stand in order
  pub in_order : (k h : ℕ) → OneRow slots k h → k < h → (slot_at slots k).step
      < (slot_at slots h).step
  -- no slot starts before the one before it ends
  pub no-overlap : (k : ℕ) → suc k < length slots
      → slot_end L (slot_at slots k) ≤ (slot_at slots (suc k)).start
  -- a first step starts no earlier than its phase
  pub phases : (k : ℕ) → k < length slots → (slot_at slots k).step ≡ 1
      → L.phase (row_of (slot_at slots k)) ≤ (slot_at slots k).start
  -- a later step starts when the step before it in the row has ended and its wait has passed
  pub waits : (k h : ℕ) → OneRow slots k h → (slot_at slots h).step ≡ (slot_at slots k).step + 1
      → slot_end L (slot_at slots k) + L.wait (row_of (slot_at slots k)) (step_of (slot_at slots k))
      ≤ (slot_at slots h).start
  -- a window's last step ends within the limit from the start of its first
  pub windows : (k h p : ℕ) → OneRow slots k h → p < length (L.windows (row_of (slot_at slots k)))
      → (slot_at slots k).step ≡ (window_of L (row_of (slot_at slots k)) p).first
      → (slot_at slots h).step ≡ (window_of L (row_of (slot_at slots k)) p).last
      → slot_end L (slot_at slots h)
      ≤ (slot_at slots k).start + (window_of L (row_of (slot_at slots k)) p).limit

-- the schedule rules
pub record ScheduleRules (L : View) (slots : List Slot) : Type 0 where
  pub slots-keep : SlotRules L slots
  -- a row's last step ends by the row's deadline
  pub deadlines : (k : ℕ) → k < length slots
      → (slot_at slots k).step ≡ L.steps (row_of (slot_at slots k))
      → slot_end L (slot_at slots k) ≤ L.deadline (row_of (slot_at slots k))
