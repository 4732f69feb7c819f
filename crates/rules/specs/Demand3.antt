-- Demand 3: what is promised of the run of every load that is not refused, started fresh, each step
-- at full cost. To be read after Run, Check, ScheduleRules and Margins.
use Rattle.std.specs.Prelude.{ℕ, ◌≤◌, ◌<◌, true, ◌≡◌, length, Ok, Err}
use Rattle.counting.specs.Lists.{join_to}
use Rattle.refusals.specs.declared.Refusal.TheVariants.{RowLate}
use Rattle.refusals.specs.Checked.{Checked}
use Rattle.load.specs.View.{View, is_free}
use Rattle.rules.specs.declared.Outcome.TheVariants.{Done}
use Rattle.rules.specs.Bound.{bound}
use Rattle.rules.specs.Margins.{row_bound, verdict}
use Rattle.rules.specs.State.{fresh}
use Rattle.rules.specs.Outcomes.{told_by}
use Rattle.rules.specs.Move.{move}
use Rattle.rules.specs.Run.{state_after, starts, enough_moves, schedule}
use Rattle.rules.specs.Slots.{slot_at, row_of, step_of, slot_end, last_end}
use Rattle.rules.specs.Check.{check_slots}
use Rattle.rules.specs.ScheduleRules.{SlotRules, ScheduleRules}

-- Good, or 17
pub data GoodOrLate (c : Checked) : Type 0 where
  good : c ≡ Ok tt → GoodOrLate c
  late : c ≡ Err RowLate → GoodOrLate c

-- the promise, for the view of a load
pub record Demand3 (L : View) : Type 0 where
  -- the run ends with Done after so many moves, and the schedule is its starts, whatever moves
  -- follow
  pub moves : ℕ
  pub moves-few : moves < enough_moves
  pub done : (move L (state_after L moves fresh)).outcome ≡ Done
  pub all-starts : (n : ℕ) → moves ≤ n → schedule L ≡ starts L n fresh
  -- its slots are the starts of those moves, in order
  pub made : schedule L
      ≡ join_to (λ n. (told_by (move L (state_after L n fresh)).outcome).starts) moves
  -- no move of it is refused: each has the number 0
  pub numbers : (n : ℕ) → (told_by (move L (state_after L n fresh)).outcome).number ≡ 0
  -- and the clock is never past the bound
  pub in-bound : (n : ℕ) → (state_after L n fresh).clock ≤ bound L
  -- the last step ends with the run, and so by the bound
  pub last-end : (n : ℕ) → moves ≤ n → last_end L (schedule L) ≡ (state_after L n fresh).clock
  -- each step is scheduled once, and nothing else; phases, order, waits and windows are kept, and
  -- no two slots overlap
  pub rules : SlotRules L (schedule L)
  -- a free step starts when every row has finished all its steps of lower number
  pub free-steps : (k h : ℕ) → k < length (schedule L) → h < length (schedule L)
      → is_free L (row_of (slot_at (schedule L) k)) (step_of (slot_at (schedule L) k)) ≡ true
      → (slot_at (schedule L) h).step < (slot_at (schedule L) k).step
      → slot_end L (slot_at (schedule L) h) ≤ (slot_at (schedule L) k).start
  -- each row's last step ends by its row bound
  pub rows : (k : ℕ) → k < length (schedule L)
      → (slot_at (schedule L) k).step ≡ L.steps (row_of (slot_at (schedule L) k))
      → slot_end L (slot_at (schedule L) k) ≤ row_bound L (row_of (slot_at (schedule L) k))
  -- the check of the schedule meets nothing but a row that ends late
  pub checked : GoodOrLate (check_slots L (schedule L))
  -- where no margin is negative, deadlines are kept, and the check says yes
  pub deadlines : verdict L ≡ true → ScheduleRules L (schedule L)
  pub passes : verdict L ≡ true → check_slots L (schedule L) ≡ Ok tt
