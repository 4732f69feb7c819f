-- What the slots before a slot say of it: everything that the rules of a schedule ask of the slot, but for its row's
-- deadline. It looks at the slots before it alone, so slots that follow change nothing.
use Prim.Native.Nat.{ℕ, suc, ◌+◌, ◌≤◌, ◌<◌, min}
use mathlib.Core.Bool.{true}
use mathlib.Core.List.{List, [], ◌∷◌, ◌++◌}
use mathlib.Core.Path.{◌≡◌, refl, ap, ap₂, sym, ◌∙◌}
use native.Mathlib.Omega.{arith}
use lib.Dec.{eqb}
use lib.ListN.{length, length-append, get_or-append}
use lib.Seq.{get_or_at}
use Rattle.counting.specs.Sums.{bit, count_to}
use Rattle.counting.proofs.sums.SumLaws.{sum_to-ext}
use Rattle.load.specs.Load.{shown}
use Rattle.load.specs.View.{View, is_free}
use Rattle.load.specs.Acceptable.{window_of as window_at}
use Rattle.rules.specs.declared.Slot.{Slot}
use Rattle.rules.specs.Slots.{no_slot, slot_at, row_of, step_of, slot_end}
use Rattle.rules.specs.ScheduleRules.{NamesStep}

-- how many of the slots before place k are of a row, counted from 1
abbrev pub of_row : List Slot → ℕ → ℕ → ℕ
of_row slots row k = count_to (λ h. eqb (slot_at slots h).row row) k

-- a slot is of step j of row i
pub record IsSlot (i j : ℕ) (x : Slot) : Type 0 where
  pub its-row : x.row ≡ shown i
  pub its-step : x.step ≡ shown j

-- what the slots before place k say of a slot there
pub record Fits (L : View) (slots : List Slot) (k : ℕ) (x : Slot) : Type 0 where
  pub names : NamesStep L x
  -- its row's next step
  pub next : x.step ≡ shown (of_row slots x.row k)
  -- after the slots before it
  pub after : (h : ℕ) → h < k → slot_end L (slot_at slots h) ≤ x.start
  -- after its phase
  pub phase : (i : ℕ) → IsSlot i 0 x → L.phase i ≤ x.start
  -- after the step before it in the row and its wait
  pub wait : (h i j : ℕ) → h < k → IsSlot i j (slot_at slots h) → IsSlot i (suc j) x
      → slot_end L (slot_at slots h) + L.wait i j ≤ x.start
  -- within the limit of a window that it ends
  pub window : (h i p : ℕ) → h < k → i < L.rows → p < length (L.windows i) → (slot_at slots h).row ≡ shown i
      → x.row ≡ shown i → (slot_at slots h).step ≡ (window_at L i p).first → x.step ≡ (window_at L i p).last
      → slot_end L x ≤ (slot_at slots h).start + (window_at L i p).limit

-- a slot at place k of a free step stands after all lower steps of all rows
abbrev pub AfterLower : View → List Slot → ℕ → Slot → Type 0
AfterLower L slots k x =
    (i j r : ℕ) → IsSlot i j x → is_free L i j ≡ true → r < L.rows → min j (L.steps r) ≤ of_row slots (shown r) k

-- the end of a slot, by its step
pub slot_end-is : (L : View) (i j : ℕ) (x : Slot) → IsSlot i j x → slot_end L x ≡ x.start + L.cost i j
slot_end-is L i j x e =
    let a : row_of x ≡ i = omega (arith, e.its-row) in
    let b : step_of x ≡ j = omega (arith, e.its-step) in
    ap₂ (λ r t. x.start + L.cost r t) a b

module _ (slots : List Slot) (x : Slot) where
  pub slot_at-before : (h : ℕ) → h < length slots → slot_at (slots ++ x ∷ []) h ≡ slot_at slots h
  slot_at-before h l = get_or-append slots (x ∷ []) no_slot h l

  pub slot_at-last : slot_at (slots ++ x ∷ []) (length slots) ≡ x
  slot_at-last = get_or_at slots x [] no_slot (length slots) refl

  pub length_last : length (slots ++ x ∷ []) ≡ length slots + 1
  length_last = length-append slots (x ∷ [])

  pub of_row-before : (row k : ℕ) → k ≤ length slots → of_row (slots ++ x ∷ []) row k ≡ of_row slots row k
  of_row-before row k l =
      sum_to-ext (λ h. bit (eqb (slot_at (slots ++ x ∷ []) h).row row)) (λ h. bit (eqb (slot_at slots h).row row)) k
      (λ h lh. ap (λ (y : Slot). bit (eqb y.row row)) (slot_at-before h (omega arith)))

  -- slots that follow change nothing
  pub fits-before : (L : View) (k : ℕ) (y : Slot) → k ≤ length slots → Fits L slots k y → Fits L (slots ++ x ∷ []) k y
  fits-before L k y l f =
      record {
        names = f.names;
        next = f.next ∙ ap shown (sym (of_row-before y.row k l));
        after = λ h lh. rw (slot_at-before h (omega arith)) (f.after h lh);
        phase = f.phase;
        wait = λ h i j lh a b.
            rw (slot_at-before h (omega arith)) (f.wait h i j lh (rw (slot_at-before h (omega arith)) at a) b);
        window = λ h i p lh li lp a b c d.
            rw (slot_at-before h (omega arith))
            (f.window h i p lh li lp (rw (slot_at-before h (omega arith)) at a) b
            (rw (slot_at-before h (omega arith)) at c) d);
      }

  pub lower-before : (L : View) (k : ℕ) (y : Slot) → k ≤ length slots → AfterLower L slots k y
      → AfterLower L (slots ++ x ∷ []) k y
  lower-before L k y l f i j r a b lr = rw (of_row-before (shown r) k l) (f i j r a b lr)
