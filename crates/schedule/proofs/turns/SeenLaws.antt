-- What the check keeps is what the rules read off the earlier slots, none of which is refused: the count of each row,
-- the start of each slot by its row and step, and the end of the slot before. So each slot is found right or wrong as
-- the rules find it.
use Prim.Native.Nat.{ℕ, zero, suc, ◌≤◌, ◌<◌}
use mathlib.Core.Bool.{Bool, true, false, cond, ◌||◌}
use mathlib.Core.List.{List}
use mathlib.Core.Path.{◌≡◌, refl}
use lib.ListN.{length}
use borrow.Author.Tests.{ltb-false}
use Rattle.refusals.specs.Checked.{Checked}
use Rattle.std.specs.Prelude.{Ok}
use Rattle.refusals.specs.FirstMet.{first_met, first_fault_to}
use Rattle.refusals.proofs.FirstFaultLaws.{first_met-good}
use Rattle.load.specs.declared.Load.{Load}
use Rattle.load.specs.Load.{most_rows, most_steps, shown}
use Rattle.load.specs.View.{View}
use Rattle.rules.specs.declared.Slot.{Slot}
use Rattle.rules.specs.Slots.{slot_at, row_of, step_of, slot_end}
use Rattle.rules.specs.Check.{slot_fault}
use Rattle.rules.proofs.slots.SlotLaws.{of_row}
use Rattle.schedule.specs.declared.seen.Seen.{Seen}
use Rattle.schedule.specs.inner.Seen.{seen_at, started, step_tests, slot_tests}

-- a slot none of whose tests is met names a row of the 24, and a step of the 8
module _ (load : Load) (seen : Seen) (row step start : ℕ)
    (e : first_met (slot_tests load seen row step start) ≡ Ok tt) where
  pub tests-row : (1 ≤ row) × (row ≤ most_rows)
  tests-row =
      let t = first_met-good (slot_tests load seen row step start) e in
      (ltb-false row 1 (t 0), ltb-false most_rows row (t 2))

  pub tests-step : (1 ≤ step) × (step ≤ most_steps)
  unfolding step_tests
  tests-step =
      let t = first_met-good (slot_tests load seen row step start) e in
      (ltb-false step 1 (t 3), ltb-false most_steps step (t 5))

-- tests behind one another, of which the last two are the same where the first is not met
pub rest-ext : (a b c d f a' c' d' f' : Bool) (none over early late rest : Checked) → a ≡ a' → c ≡ c'
    → (a ≡ false → d ≡ d') → (a ≡ false → f ≡ f')
    → cond a none (cond b none (cond c over (cond d early (cond f late rest))))
    ≡ cond a' none (cond b none (cond c' over (cond d' early (cond f' late rest))))
rest-ext true b c d f a' c' d' f' none over early late rest e g h k = rw (← e)
rest-ext false b c d f a' c' d' f' none over early late rest e g h k = rw (← e, g, h refl, k refl)

-- the tests of a number that counts from 1: at least 1, at most the last, and of no place past the most
pub name-ext : (a b d : Bool) (refused rest other : Checked) → (a ≡ false → b ≡ false → d ≡ false)
    → (a ≡ false → b ≡ false → rest ≡ other)
    → cond a refused (cond b refused (cond d refused rest)) ≡ cond (a || b) refused other
name-ext true b d refused rest other few h = refl
name-ext false true d refused rest other few h = refl
name-ext false false d refused rest other few h = rw (few refl refl) (h refl refl)

-- two tests, one behind the other or at once
pub both-tests : (a b : Bool) (refused rest : Checked)
    → cond a refused (cond b refused rest) ≡ cond (a || b) refused rest
both-tests true b refused rest = refl
both-tests false b refused rest = refl

-- the end of the slot before place k, and 0 where there is none
abbrev pub end_before : View → List Slot → ℕ → ℕ
end_before L slots zero = 0
end_before L slots (suc h) = slot_end L (slot_at slots h)

-- what is kept is what the slots before place k show
pub record SeenTo (L : View) (slots : List Slot) (k : ℕ) (seen : Seen) : Type 0 where
  pub counts : (i : ℕ) → i < most_rows → (seen_at seen i).count ≡ of_row slots (shown i) k
  pub starts : (h : ℕ) → h < k
      → started (seen_at seen (row_of (slot_at slots h))) (step_of (slot_at slots h)) ≡ (slot_at slots h).start
  pub end : seen.end ≡ end_before L slots k
  pub rows-there : length seen.rows ≡ most_rows
  pub starts-there : (i : ℕ) → i < most_rows → length (seen_at seen i).starts ≡ most_steps

-- and none of them is refused
pub record Before (L : View) (slots : List Slot) (k : ℕ) (seen : Seen) : Type 0 where
  pub clean : first_fault_to (slot_fault L slots) k ≡ Ok tt
  pub kept : SeenTo L slots k seen
