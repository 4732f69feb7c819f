-- "Numbers given back", 13 to 17: "each is given exactly then", "slot by slot". In plain words,
-- which slot breaks which rule, and which of them is met first. To be read after ScheduleRules.
-- Rests on D21 and D22.
use Rattle.std.specs.Prelude.{ℕ, suc, ◌+◌, ◌<◌, List, ◌≢◌, ◌≡◌, eqb, length}
use Rattle.counting.specs.Sums.{count_to}
use Rattle.refusals.specs.declared.Refusal.{Refusal}
use Rattle.refusals.specs.declared.Refusal.TheVariants.{
  NoSuchSlot,
  SlotOverlaps,
  SlotEarly,
  WindowLate,
  RowLate,
}
use Rattle.refusals.specs.Refusals.{number_of}
use Rattle.load.specs.Load.{last_moment, shown}
use Rattle.load.specs.View.{View, steps_in_all}
use Rattle.load.specs.Acceptable.{window_of}
use Rattle.rules.specs.declared.Slot.{Slot}
use Rattle.rules.specs.Slots.{slot_at, row_of, step_of, slot_end}

-- how many slots before place k are of its row
abbrev pub earlier_of_row : List Slot → ℕ → ℕ
earlier_of_row slots k = count_to (λ h. eqb (slot_at slots h).row (slot_at slots k).row) k

-- 13: a slot's row or step does not exist, the step is not that row's next, or its start exceeds
-- 1,000,000
pub data NamesNothing (L : View) (slots : List Slot) (k : ℕ) : Type 0 where
  row_zero : (slot_at slots k).row ≡ 0 → NamesNothing L slots k
  row-past : L.rows < (slot_at slots k).row → NamesNothing L slots k
  step-zero : (slot_at slots k).step ≡ 0 → NamesNothing L slots k
  step_past : L.steps (row_of (slot_at slots k)) < (slot_at slots k).step → NamesNothing L slots k
  not-next : (slot_at slots k).step ≢ shown (earlier_of_row slots k) → NamesNothing L slots k
  start-past : last_moment < (slot_at slots k).start → NamesNothing L slots k

-- 14: a slot starts before the previous slot ends
pub record Overlaps (L : View) (slots : List Slot) (k : ℕ) : Type 0 where
  pub previous : ℕ
  pub is-previous : suc previous ≡ k
  pub starts-before : (slot_at slots k).start < slot_end L (slot_at slots previous)

-- the slot at place h, before place k, is of the same row
pub record EarlierOfRow (slots : List Slot) (h k : ℕ) : Type 0 where
  pub earlier : h < k
  pub same_row : (slot_at slots h).row ≡ (slot_at slots k).row

-- 15: it starts before its phase, or before the step before it in the row has ended and its wait
-- has passed
pub data StartsEarly (L : View) (slots : List Slot) (k : ℕ) : Type 0 where
  before-phase : (slot_at slots k).step ≡ 1
      → (slot_at slots k).start < L.phase (row_of (slot_at slots k)) → StartsEarly L slots k
  before-wait : (h : ℕ) → EarlierOfRow slots h k
      → (slot_at slots k).step ≡ (slot_at slots h).step + 1
      → (slot_at slots k).start
      < slot_end L (slot_at slots h) + L.wait (row_of (slot_at slots k)) (step_of (slot_at slots h))
      → StartsEarly L slots k

-- 16: it ends a window late: later than the limit from the start of the window's first step
pub record EndsWindowLate (L : View) (slots : List Slot) (k : ℕ) : Type 0 where
  pub window : ℕ
  pub there : window < length (L.windows (row_of (slot_at slots k)))
  pub is_last : (slot_at slots k).step ≡ (window_of L (row_of (slot_at slots k)) window).last
  pub opened : ℕ
  pub of_row : EarlierOfRow slots opened k
  pub is-first : (slot_at slots opened).step ≡ (window_of L (row_of (slot_at slots k)) window).first
  pub late : (slot_at slots opened).start + (window_of L (row_of (slot_at slots k)) window).limit
      < slot_end L (slot_at slots k)

-- 17: it ends its row late
pub record EndsRowLate (L : View) (slots : List Slot) (k : ℕ) : Type 0 where
  pub is_last : (slot_at slots k).step ≡ L.steps (row_of (slot_at slots k))
  pub late : L.deadline (row_of (slot_at slots k)) < slot_end L (slot_at slots k)

-- the rules that a slot can break
pub data Rule : Type 0 where
  thirteen : Rule
  fourteen : Rule
  fifteen : Rule
  sixteen : Rule
  seventeen : Rule

-- what is given for each
abbrev pub refusal_for : Rule → Refusal
refusal_for thirteen = NoSuchSlot
refusal_for fourteen = SlotOverlaps
refusal_for fifteen = SlotEarly
refusal_for sixteen = WindowLate
refusal_for seventeen = RowLate

-- the slot at place k breaks a rule
abbrev pub Breaks : Rule → View → List Slot → ℕ → Type 0
Breaks thirteen L slots k = NamesNothing L slots k
Breaks fourteen L slots k = Overlaps L slots k
Breaks fifteen L slots k = StartsEarly L slots k
Breaks sixteen L slots k = EndsWindowLate L slots k
Breaks seventeen L slots k = EndsRowLate L slots k

-- a rule is the first that is met: no slot before breaks any, and this one breaks none of a lower
-- number
pub record FirstBroken (L : View) (slots : List Slot) (rule : Rule) : Type 0 where
  pub place : ℕ
  pub below : place < length slots
  pub broken : Breaks rule L slots place
  pub none-lower : (other : Rule) → number_of (refusal_for other) < number_of (refusal_for rule)
      → ¬ Breaks other L slots place
  pub none_before : (other : Rule) (h : ℕ) → h < place → ¬ Breaks other L slots h

-- as many slots as steps, and a rule that is the first met
pub record CountedFirst (L : View) (slots : List Slot) (rule : Rule) : Type 0 where
  pub as_many : length slots ≡ steps_in_all L
  pub first : FirstBroken L slots rule
