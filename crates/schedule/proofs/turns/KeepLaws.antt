-- A slot that is right is kept: the counts, the table of starts and the last end are right again behind it.
use Prim.Native.Nat.{ℕ, suc, ◌≤◌, ◌<◌}
use mathlib.Core.List.{List}
use mathlib.Core.Path.{◌≡◌, refl, ap, sym, ◌∙◌}
use native.Mathlib.Decide.{ℕ_discrete}
use native.Mathlib.Omega.{arith}
use lib.Dec.{eqb}
use lib.ListN.{length, length-set}
use lib.Seq.{get_or-set_same, get_or-set_other}
use borrow.Author.Tests.{eq-eqb, ne_eqb}
use Rattle.counting.specs.Sums.{bit}
use Rattle.counting.proofs.sums.ChangeLaws.{sum_to-suc}
use Rattle.std.specs.Prelude.{Ok}
use Rattle.refusals.specs.FirstMet.{first_fault_to}
use Rattle.load.specs.declared.Load.{Load}
use Rattle.load.specs.Load.{most_rows, most_steps, shown}
use Rattle.load.specs.View.{view_of}
use Rattle.load.specs.Acceptable.{Acceptable}
use Rattle.rules.specs.declared.Slot.{Slot}
use Rattle.rules.specs.Slots.{slot_at, row_of, step_of, slot_end}
use Rattle.rules.specs.Check.{slot_fault}
use Rattle.rules.proofs.slots.SlotLaws.{of_row}
use Rattle.rules.proofs.slots.NextLaws.{of_row-lt}
use Rattle.schedule.specs.declared.seen.RowSeen.{RowSeen}
use Rattle.schedule.specs.declared.seen.Seen.{Seen}
use Rattle.schedule.specs.inner.Seen.{no_row_seen, seen_at, started, row_advanced, advanced}
use Rattle.schedule.proofs.turns.SeenLaws.{SeenTo}
use Rattle.schedule.proofs.turns.RightLaws.{Right}
use Rattle.schedule.proofs.turns.StepLaws.{right}

module _ (load : Load) (ok : Acceptable (view_of load)) (slots : List Slot) (k : ℕ) (seen : Seen)
    (kept : SeenTo (view_of load) slots k seen)
    (clean : first_fault_to (slot_fault (view_of load) slots) k ≡ Ok tt)
    (mine : Right (view_of load) slots k (slot_at slots k)) where
  abbrev x : Slot
  x = slot_at slots k

  abbrev i : ℕ
  i = row_of x

  abbrev mine-seen : RowSeen
  mine-seen = row_advanced (seen_at seen i) x.step x.start

  abbrev next : Seen
  next = advanced seen x.row x.step x.start (slot_end (view_of load) x)

  i_lt : i < (view_of load).rows
  i_lt = omega (arith, mine.row_from, mine.row-to)

  i-few : i < most_rows
  i-few = omega (arith, i_lt, ok.rows-most)

  step-few : x.step ≤ most_steps
  step-few = omega (arith, mine.step-to, ok.steps-most i i_lt)

  -- the row of the slot, and every other row
  here : (r : ℕ) → r ≡ i → seen_at next r ≡ mine-seen
  here r e =
      ap (seen_at next) e ∙ get_or-set_same seen.rows i mine-seen no_row_seen (omega (arith, kept.rows-there, i-few))

  elsewhere : (r : ℕ) → (r ≡ i → ⊥) → seen_at next r ≡ seen_at seen r
  elsewhere r e = get_or-set_other seen.rows i r mine-seen no_row_seen e

  counts : (r : ℕ) → r < most_rows → (seen_at next r).count ≡ of_row slots (shown r) (suc k)
  counts r l =
      elim (ℕ_discrete r i) [
        | yes e ↦
            (let row : x.row ≡ shown r = omega (arith, mine.row_from) in
            omega (
              arith,
              ap (λ (s : RowSeen). s.count) (here r e),
              mine.next,
              ap (λ y. of_row slots y k) row,
              sum_to-suc (λ h. bit (eqb (slot_at slots h).row (shown r))) k,
              ap bit (eq-eqb x.row (shown r) row),
            ))
        | no e ↦
            (let other : x.row ≡ shown r → ⊥ = λ q. e (omega arith) in
            omega (
              arith,
              ap (λ (s : RowSeen). s.count) (elsewhere r e),
              kept.counts r l,
              sum_to-suc (λ h. bit (eqb (slot_at slots h).row (shown r))) k,
              ap bit (ne_eqb x.row (shown r) other),
            ))
      ]

  abbrev Starts : ℕ → Type 0
  Starts h = started (seen_at next (row_of (slot_at slots h))) (step_of (slot_at slots h)) ≡ (slot_at slots h).start

  -- an earlier slot of the row is for a lower step
  same_row : (h : ℕ) → h < k → row_of (slot_at slots h) ≡ i → Starts h
  same_row h q e =
      let y = slot_at slots h in
      let its = right load ok slots k seen kept clean h q in
      let row : y.row ≡ x.row = omega (arith, its.row_from, mine.row_from) in
      let differ : step_of y ≡ step_of x → ⊥ =
      λ p. omega (
        arith,
        its.step_from,
        mine.step_from,
        of_row-lt slots x.row h k q row,
        its.next,
        mine.next,
        ap (λ z. of_row slots z h) row,
      ) in
      ap (λ s. started s (step_of y)) (here (row_of y) e)
      ∙ get_or-set_other (seen_at seen i).starts (step_of x) (step_of y) x.start 0 differ
      ∙ ap (λ r. started (seen_at seen r) (step_of y)) (sym e)
      ∙ kept.starts h q

  starts : (h : ℕ) → h < suc k → Starts h
  starts h l =
      elim (ℕ_discrete h k) [
        | yes e ↦
            rw e
            (ap (λ s. started s (step_of x)) (here i refl)
            ∙ get_or-set_same (seen_at seen i).starts (step_of x) x.start 0
            (omega (arith, kept.starts-there i i-few, step-few, mine.step_from)))
        | no e ↦
            elim (ℕ_discrete (row_of (slot_at slots h)) i) [
              | yes same ↦ same_row h (omega arith) same
              | no other ↦
                  ap (λ s. started s (step_of (slot_at slots h))) (elsewhere (row_of (slot_at slots h)) other)
                  ∙ kept.starts h (omega arith)
            ]
      ]

  starts-there : (r : ℕ) → r < most_rows → length (seen_at next r).starts ≡ most_steps
  starts-there r l =
      elim (ℕ_discrete r i) [
        | yes e ↦
            ap (λ (s : RowSeen). length s.starts) (here r e)
            ∙ length-set (seen_at seen i).starts (step_of x) x.start
            ∙ kept.starts-there i i-few
        | no e ↦ ap (λ (s : RowSeen). length s.starts) (elsewhere r e) ∙ kept.starts-there r l
      ]

  pub advanced-seen : SeenTo (view_of load) slots (suc k) next
  advanced-seen =
      record {
        counts = counts;
        starts = starts;
        end = refl;
        rows-there = length-set seen.rows i mine-seen ∙ kept.rows-there;
        starts-there = starts-there;
      }
