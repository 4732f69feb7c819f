-- One slot is asked a turn. Before the first nothing was seen. A slot that is right is kept, and the first that is
-- refused is what the schedule check finds.
use Prim.Native.Nat.{ℕ, ◌+◌, ◌<◌}
use mathlib.Core.List.{List}
use mathlib.Core.Path.{◌≡◌, sym, ◌∙◌}
use native.Mathlib.Numerals.{add-one}
use native.Mathlib.Omega.{arith}
use lib.ListN.{length}
use lib.Dec.{eqb}
use Rattle.std.specs.Prelude.{Ok, Err}
use Rattle.counting.specs.Sums.{bit}
use Rattle.counting.proofs.sums.SumLaws.{sum_to-zero}
use Rattle.refusals.specs.declared.Refusal.{Refusal}
use Rattle.refusals.specs.Checked.{Checked}
use Rattle.refusals.specs.FirstMet.{first_met, first_fault_to}
use Rattle.refusals.proofs.FirstMetLaws.{first_fault_to-zero, first_fault_to-one_more}
use Rattle.refusals.proofs.FirstMetLaws.{first_fault_to-refused}
use Rattle.load.specs.declared.Load.{Load}
use Rattle.load.specs.Load.{most_rows, most_steps, shown}
use Rattle.load.specs.View.{view_of}
use Rattle.load.specs.Acceptable.{Acceptable}
use Rattle.load.specs.Check.{check_load}
use Rattle.load.proofs.AcceptableLaws.{check-acceptable}
use Rattle.rules.specs.declared.Slot.{Slot}
use Rattle.rules.specs.Slots.{slot_at}
use Rattle.rules.specs.Check.{slot_fault}
use Rattle.schedule.specs.declared.seen.Seen.{Seen}
use Rattle.schedule.specs.inner.Seen.{seen_at, slot_tests, with_slot}
use Rattle.schedule.proofs.turns.SeenLaws.{Before}
use Rattle.schedule.proofs.turns.RightLaws.{tests-right}
use Rattle.schedule.proofs.turns.StepLaws.{tests_same}
use Rattle.schedule.proofs.turns.KeepLaws.{advanced-seen}

module _ (load : Load) (slots : List Slot) where
  -- of no slot nothing was seen
  pub before-zero : (seen : Seen) → seen.end ≡ 0 → length seen.rows ≡ most_rows
      → ((i : ℕ) → i < most_rows → ((seen_at seen i).count ≡ 0) × (length (seen_at seen i).starts ≡ most_steps))
      → Before (view_of load) slots 0 seen
  before-zero seen end rows each =
      record {
        clean = first_fault_to-zero _;
        kept =
            record {
              counts = λ i l. (each i l).0 ∙ sym (sum_to-zero (λ h. bit (eqb (slot_at slots h).row (shown i))));
              starts = λ h l. absurd (omega arith);
              end = end;
              rows-there = rows;
              starts-there = λ i l. (each i l).1;
            };
      }

  module _ (accepted : check_load load ≡ Ok tt) (k : ℕ) (seen : Seen) (b : Before (view_of load) slots k seen)
      (below : k < length slots) where
    ok : Acceptable (view_of load)
    ok = check-acceptable load accepted

    abbrev x : Slot
    x = slot_at slots k

    abbrev mine : Checked
    mine = first_met (slot_tests load seen x.row x.step x.start)

    found : mine ≡ slot_fault (view_of load) slots k
    found = tests_same load ok slots k seen b.kept b.clean below

    pub turn-refused : (r : Refusal) → mine ≡ Err r
        → first_fault_to (slot_fault (view_of load) slots) (length slots) ≡ Err r
    turn-refused r e =
        first_fault_to-refused (slot_fault (view_of load) slots) (length slots) k r below b.clean (sym found ∙ e)

    pub turn-kept : mine ≡ Ok tt → Before (view_of load) slots (k + 1) (with_slot load seen x.row x.step x.start)
    unfolding view_of
    turn-kept e =
        let passed : slot_fault (view_of load) slots k ≡ Ok tt = sym found ∙ e in
        record {
          clean = first_fault_to-one_more _ k b.clean passed;
          kept =
              rw add-one
              (advanced-seen load ok slots k seen b.kept b.clean (tests-right (view_of load) slots k passed));
        }
