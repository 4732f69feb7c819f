-- What the fold of the check over the slots finds is what the rules find of them all: a slot that is right is kept, and
-- the first that is refused is found and stays.
use Prim.Native.Nat.{ℕ, zero, suc, ◌+◌, ◌≤◌, ◌<◌}
use mathlib.Core.List.{List, [], ◌∷◌, foldl}
use mathlib.Core.Path.{◌≡◌, refl, ap, sym, ◌∙◌}
use native.Mathlib.Omega.{arith}
use lib.ListN.{length, drop}
use Rattle.std.specs.Prelude.{Ok, Err}
use Rattle.refusals.specs.declared.Refusal.{Refusal}
use Rattle.refusals.specs.Checked.{Checked}
use Rattle.refusals.specs.FirstMet.{first_met, first_fault_to}
use Rattle.refusals.specs.Given.{given, found_in}
use Rattle.load.specs.declared.Load.{Load}
use Rattle.load.specs.View.{view_of}
use Rattle.load.specs.Check.{check_load}
use Rattle.rules.specs.declared.Slot.{Slot}
use Rattle.rules.specs.Slots.{slot_at}
use Rattle.rules.specs.Check.{slot_fault}
use Rattle.schedule.specs.declared.seen.Seen.{Seen}
use Rattle.schedule.specs.inner.Seen.{slot_tests, with_slot, seen_of}
use Rattle.schedule.proofs.turns.SeenLaws.{Before}
use Rattle.schedule.proofs.turns.TurnLaws.{turn-refused, turn-kept}
use Rattle.schedule.proofs.walks.FoldLaws.{fold_end, fold-turn}

module _ (load : Load) (slots : List Slot) where
  -- what is found of the slot at a place, and what is kept with it, behind those that were seen
  abbrev mine : ℕ → Seen → Checked
  mine k seen = first_met (slot_tests load seen (slot_at slots k).row (slot_at slots k).step (slot_at slots k).start)

  abbrev kept : ℕ → Seen → Seen
  kept k seen = with_slot load seen (slot_at slots k).row (slot_at slots k).step (slot_at slots k).start

  -- what the check finds of the slots from a place on
  abbrev pub found_from : ℕ → Seen → Checked
  found_from k seen = found_in (foldl (seen_of load) (Ok seen) (drop k slots))

  refusal-stays : (refusal : Refusal) (rest : List Slot) → foldl (seen_of load) (Err refusal) rest ≡ Err refusal
  refusal-stays refusal [] = refl
  refusal-stays refusal (slot ∷ rest) = refusal-stays refusal rest

  fold-stays : (k : ℕ) (seen : Seen) (refusal : Refusal) → k < length slots → mine k seen ≡ Err refusal
      → found_from k seen ≡ Err refusal
  fold-stays k seen refusal below e =
      ap found_in
      (sym (fold-turn (seen_of load) slots k (Ok seen) (Err refusal) below
      (sym (ap (λ (c : Checked). given c (kept k seen)) e)))
      ∙ refusal-stays refusal (drop (k + 1) slots))

  fold-next : (k : ℕ) (seen : Seen) → k < length slots → mine k seen ≡ Ok tt
      → found_from (k + 1) (kept k seen) ≡ found_from k seen
  fold-next k seen below e =
      ap found_in
      (fold-turn (seen_of load) slots k (Ok seen) (Ok (kept k seen)) below
      (sym (ap (λ (c : Checked). given c (kept k seen)) e)))

  -- the slot at the place, by its numbers, is refused or kept
  module _ (k : ℕ) (seen : Seen) (row step start : ℕ) where
    pub fold-refused : (refusal : Refusal) → first_met (slot_tests load seen row step start) ≡ Err refusal
        → k < length slots → record { row = row; step = step; start = start } ≡ slot_at slots k
        → found_from k seen ≡ Err refusal
    fold-refused refusal e below here =
        fold-stays k seen refusal below
        (ap (λ (x : Slot). first_met (slot_tests load seen x.row x.step x.start)) (sym here) ∙ e)

    pub fold-kept : (next : Seen) → first_met (slot_tests load seen row step start) ≡ Ok tt
        → next ≡ with_slot load seen row step start → k < length slots
        → record { row = row; step = step; start = start } ≡ slot_at slots k
        → found_from (k + 1) next ≡ found_from k seen
    fold-kept next e is below here =
        ap (found_from (k + 1)) (is ∙ ap (λ (x : Slot). with_slot load seen x.row x.step x.start) here)
        ∙ fold-next k seen below
        (ap (λ (x : Slot). first_met (slot_tests load seen x.row x.step x.start)) (sym here) ∙ e)

  pub fold-done : (k : ℕ) (seen : Seen) → length slots ≤ k → found_from k seen ≡ Ok tt
  fold-done k seen l = ap found_in (fold_end (seen_of load) slots k (Ok seen) l)

  module _ (accepted : check_load load ≡ Ok tt) where
    abbrev all_found : Checked
    all_found = first_fault_to (slot_fault (view_of load) slots) (length slots)

    pub fold-checks : (n k : ℕ) (seen : Seen) → k + n ≡ length slots → Before (view_of load) slots k seen
        → found_from k seen ≡ all_found
    fold-checks zero k seen e b =
        let all : k ≡ length slots = omega arith in
        fold-done k seen (omega arith) ∙ sym (rw all at b.clean)
    fold-checks (suc n) k seen e b = go (mine k seen) refl (fold-checks n (k + 1) (kept k seen) (omega arith))
      where
        below : k < length slots
        below = omega arith

        go : (found : Checked) → mine k seen ≡ found
            → (Before (view_of load) slots (k + 1) (kept k seen) → found_from (k + 1) (kept k seen) ≡ all_found)
            → found_from k seen ≡ all_found
        go (Ok done) q rest =
            sym (fold-next k seen below q)
            ∙ rest (turn-kept load slots accepted k seen b below q)
        go (Err refusal) q rest =
            fold-stays k seen refusal below q ∙ sym (turn-refused load slots accepted k seen b below refusal q)
