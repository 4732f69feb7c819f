-- What the slots made so far and the state say of each other, kept by every start and tick: how many slots each row
-- has, when its last step ended, and when the first step of its open window started.
use Prim.Native.Nat.{ℕ, ◌≤◌, ◌<◌}
use mathlib.Core.List.{List, []}
use mathlib.Core.Path.{◌≡◌, refl, sym}
use native.Mathlib.Omega.{arith}
use lib.ListN.{length}
use Rattle.counting.specs.Sums.{sum_to}
use Rattle.counting.proofs.sums.SumLaws.{sum_to-none}
use Rattle.load.specs.Load.{shown}
use Rattle.load.specs.View.{View}
use Rattle.load.specs.Acceptable.{window_of as window_at}
use Rattle.rules.specs.declared.Slot.{Slot}
use Rattle.rules.specs.State.{State, fresh}
use Rattle.rules.specs.Move.{ticked}
use Rattle.rules.specs.Slots.{slot_at, slot_end}
use Rattle.rules.proofs.slots.SlotLaws.{AfterLower, of_row, Fits}

pub record Made (L : View) (s : State) (slots : List Slot) : Type 0 where
  pub fits : (k : ℕ) → k < length slots → Fits L slots k (slot_at slots k)
  pub lower : (k : ℕ) → k < length slots → AfterLower L slots k (slot_at slots k)
  pub count : (i : ℕ) → i < L.rows → of_row slots (shown i) (length slots) ≡ s.finished i
  pub in_all : length slots ≡ sum_to s.finished L.rows
  pub ended : (h : ℕ) → h < length slots → slot_end L (slot_at slots h) ≤ s.clock
  pub steps-le : (h i : ℕ) → h < length slots → i < L.rows → (slot_at slots h).row ≡ shown i
      → (slot_at slots h).step ≤ s.finished i
  pub last-end : (h i : ℕ) → h < length slots → i < L.rows → (slot_at slots h).row ≡ shown i
      → (slot_at slots h).step ≡ s.finished i → slot_end L (slot_at slots h) ≡ s.end i
  pub opened : (h i p : ℕ) → h < length slots → i < L.rows → p < length (L.windows i)
      → (slot_at slots h).row ≡ shown i → (slot_at slots h).step ≡ (window_at L i p).first
      → (window_at L i p).first ≤ s.finished i → s.finished i < (window_at L i p).last
      → s.opening i ≡ (slot_at slots h).start

pub fresh-made : (L : View) → Made L fresh []
unfolding fresh sum_to
fresh-made L =
    record {
      fits = λ k l. absurd (omega arith);
      lower = λ k l. absurd (omega arith);
      count = λ i l. refl;
      in_all = sym (sum_to-none (λ i. 0) L.rows (λ i l. refl));
      ended = λ h l. absurd (omega arith);
      steps-le = λ h i l. absurd (omega arith);
      last-end = λ h i l. absurd (omega arith);
      opened = λ h i p l. absurd (omega arith);
    }

pub tick-made : (L : View) (s : State) (slots : List Slot) → Made L s slots → Made L (ticked s) slots
unfolding ticked
tick-made L s slots m =
    record {
      fits = m.fits;
      lower = m.lower;
      count = m.count;
      in_all = m.in_all;
      ended = λ h l. omega (arith, m.ended h l);
      steps-le = m.steps-le;
      last-end = m.last-end;
      opened = m.opened;
    }
