-- A slot is found right or wrong as the rules find it, and what is kept behind it is right again.
use Prim.Native.Nat.{ℕ, zero, suc, ◌+◌, ◌-◌, ◌≤◌, ◌<◌}
use mathlib.Core.Bool.{Bool, true, false, cond, ◌&&◌, not}
use mathlib.Core.List.{List}
use mathlib.Core.Path.{◌≡◌, refl, ap, ap₂, sym, ◌∙◌}
use native.Mathlib.Decide.{dec_lt}
use native.Mathlib.Omega.{arith}
use lib.Dec.{eqb, ltb}
use lib.ListN.{length, drop}
use borrow.Author.Tests.{ltb-false, le-ltb, lt-leb, eqb-true, eq-eqb, not-false}
use Rattle.counting.specs.Lists.{any_in}
use Rattle.counting.proofs.tests.TestLaws.{and_left, and_right, and_both, any_to-ext}
use Rattle.counting.proofs.lists.MemberLaws.{First, true-any_in, any_in-true, any_in-any_to}
use Rattle.refusals.specs.declared.Refusal.TheVariants.{NoSuchSlot, SlotOverlaps, SlotEarly}
use Rattle.refusals.specs.declared.Refusal.TheVariants.{WindowLate, RowLate}
use Rattle.std.specs.Prelude.{Ok, Err}
use Rattle.refusals.specs.Checked.{Checked}
use Rattle.refusals.specs.FirstMet.{first_met, first_fault_to}
use Rattle.refusals.proofs.FirstMetLaws.{first_fault_to-good}
use Rattle.load.specs.declared.Load.{Load}
use Rattle.load.specs.declared.Window.{Window}
use Rattle.load.specs.Load.{last_moment, most_rows, most_steps, row_at, no_window, shown}
use Rattle.load.specs.View.{View, view_of, row_windows}
use Rattle.load.specs.Acceptable.{Acceptable, window_of}
use Rattle.load.specs.Faults.{outside}
use Rattle.rules.specs.declared.Slot.{Slot}
use Rattle.rules.specs.Ready.{release}
use Rattle.rules.specs.Slots.{no_slot, slot_at, row_of, step_of, slot_end, is_for, slot_for}
use Rattle.rules.specs.Check.{
  slot_tests as rule_tests,
  slot_fault,
  overlaps,
  not_next,
  starts_early,
  ends_window_late,
  ends_row_late,
}
use Rattle.rules.proofs.slots.SlotLaws.{of_row}
use Rattle.rules.proofs.slots.NextLaws.{Ranked, count_to-ranked}
use Rattle.schedule.specs.declared.seen.Seen.{Seen}
use Rattle.schedule.specs.inner.Seen.{seen_at, started, released_at, end_at, late_window, step_tests, slot_tests}
use Rattle.schedule.proofs.turns.RightLaws.{Right, tests-right}
use Rattle.schedule.proofs.turns.SeenLaws.{rest-ext, name-ext, both-tests, end_before, SeenTo}

module _ (load : Load) (ok : Acceptable (view_of load)) (slots : List Slot) (k : ℕ) (seen : Seen)
    (kept : SeenTo (view_of load) slots k seen)
    (clean : first_fault_to (slot_fault (view_of load) slots) k ≡ Ok tt) where
  abbrev L : View
  L = view_of load

  pub right : (h : ℕ) → h < k → Right L slots h (slot_at slots h)
  right h l = tests-right L slots h (first_fault_to-good (slot_fault L slots) k clean h l)

  -- a step of a row that stands before place k is looked up there, and the table has its start
  record There (i j : ℕ) : Type 0 where
    its-row : (slot_for slots (shown i) (shown j)).row ≡ shown i
    its-step : (slot_for slots (shown i) (shown j)).step ≡ shown j
    its-start : started (seen_at seen i) j ≡ (slot_for slots (shown i) (shown j)).start

  there : k ≤ length slots → (i j : ℕ) → j < of_row slots (shown i) k → There i j
  unfolding slot_for
  there all i j l =
      record {
        its-row = ap (λ (x : Slot). x.row) f.is ∙ row;
        its-step = ap (λ (x : Slot). x.step) f.is ∙ step;
        its-start =
            ap₂ (λ a b. started (seen_at seen a) b) at-row at-step
            ∙ (kept.starts f.place before ∙ ap (λ (x : Slot). x.start) (sym f.is));
      }
    where
      r : Ranked (λ y. eqb (slot_at slots y).row (shown i)) k j
      r = count_to-ranked (λ y. eqb (slot_at slots y).row (shown i)) k j l

      h : ℕ
      h = r.place

      h-row : (slot_at slots h).row ≡ shown i
      h-row = eqb-true (slot_at slots h).row (shown i) r.has

      h-step : (slot_at slots h).step ≡ shown j
      h-step = (right h r.below).next ∙ ap shown (ap (λ row. of_row slots row h) h-row ∙ r.rank)

      h-for : is_for (shown i) (shown j) (slot_at slots h) ≡ true
      h-for =
          and_both (eqb (slot_at slots h).row (shown i)) (eqb (slot_at slots h).step (shown j))
          (eq-eqb (slot_at slots h).row (shown i) h-row) (eq-eqb (slot_at slots h).step (shown j) h-step)

      f : First (is_for (shown i) (shown j)) no_slot slots
      f =
          any_in-true (is_for (shown i) (shown j)) no_slot slots
          (true-any_in (is_for (shown i) (shown j)) no_slot slots h (omega (arith, r.below)) h-for)

      before : f.place < k
      before =
          elim (dec_lt h f.place) [
            | yes q ↦ absurd (let z : true ≡ false = sym h-for ∙ f.before h q in
                let w : ◌≡◌ {A = ℕ} 0 1 = cc in omega arith)
            | no q ↦ omega (arith, r.below)
          ]

      row : (slot_at slots f.place).row ≡ shown i
      row =
          eqb-true (slot_at slots f.place).row (shown i)
          (and_left (eqb (slot_at slots f.place).row (shown i)) (eqb (slot_at slots f.place).step (shown j))
          f.has)

      step : (slot_at slots f.place).step ≡ shown j
      step =
          eqb-true (slot_at slots f.place).step (shown j)
          (and_right (eqb (slot_at slots f.place).row (shown i)) (eqb (slot_at slots f.place).step (shown j))
          f.has)

      at-row : i ≡ row_of (slot_at slots f.place)
      at-row = omega (arith, row)

      at-step : j ≡ step_of (slot_at slots f.place)
      at-step = omega (arith, step)

  module _ (below : k < length slots) where
    abbrev x : Slot
    x = slot_at slots k

    abbrev i : ℕ
    i = row_of x

    -- how many of the slots before it are of its row
    abbrev n : ℕ
    n = of_row slots x.row k

    module _ (row_from : 1 ≤ x.row) (row-to : x.row ≤ L.rows) (step_from : 1 ≤ x.step)
        (step-to : x.step ≤ L.steps (row_of x)) where
      row_is : shown i ≡ x.row
      row_is = omega (arith, row_from)

      i_lt : i < L.rows
      i_lt = omega (arith, row_from, row-to)

      count-is : (seen_at seen i).count ≡ n
      count-is = kept.counts i (omega (arith, i_lt, ok.rows-most)) ∙ ap (λ row. of_row slots row k) row_is

      next-same : not (eqb x.step (shown (seen_at seen i).count)) ≡ not_next slots k x
      next-same = ap (λ m. not (eqb x.step (shown m))) count-is

      overlap-same : ltb x.start seen.end ≡ overlaps L slots k x
      overlap-same = go k kept.end
        where
          go : (m : ℕ) → seen.end ≡ end_before L slots m → ltb x.start seen.end ≡ overlaps L slots m x
          go zero e = rw e (le-ltb x.start 0 (omega arith))
          go (suc h) e = ap (ltb x.start) e

      module _ (next : x.step ≡ shown n) where
        -- a lower step of its row
        lower : (j : ℕ) → shown j < x.step → There i j
        lower j l =
            there (omega (arith, below)) i j (omega (arith, next, ap (λ row. of_row slots row k) row_is))

        early-same : ltb x.start (released_at (row_at load i) (seen_at seen i) x.step) ≡ starts_early L slots x
        unfolding view_of
        early-same = ap (ltb x.start) (go (step_of x) refl)
          where
            go : (j : ℕ) → step_of x ≡ j
                → released_at (row_at load i) (seen_at seen i) x.step
                ≡ release L i (step_of x) (slot_end L (slot_for slots x.row (step_of x)))
            go zero e =
                let one : x.step ≡ 1 = omega (arith, step_from) in
                rw (e, one)
            go (suc j) e =
                let two : x.step - 2 ≡ j = omega arith in
                let t = lower j (omega (arith, step_from)) in
                let y = slot_for slots x.row (suc j) in
                let same : slot_for slots (shown i) (shown j) ≡ y =
                ap₂ (slot_for slots) row_is (omega arith) in
                let its-row : row_of y ≡ i = omega (arith, ap (λ (z : Slot). z.row) same, t.its-row) in
                let its-step : step_of y ≡ j = omega (arith, ap (λ (z : Slot). z.step) same, t.its-step) in
                let start : started (seen_at seen i) j ≡ y.start = t.its-start ∙ ap (λ (z : Slot). z.start) same in
                rw (e, lt-leb x.step 1 (omega (arith, step_from)), two, start, its-row, its-step)

        -- a window whose last step is the slot's ends late
        abbrev late : Window → Bool
        late w = eqb x.step w.last && ltb ((slot_for slots x.row w.first).start + w.limit) (slot_end L x)

        late-same : (w : Window) → 1 ≤ w.first → w.first < w.last → (b : Bool) → eqb x.step w.last ≡ b
            → (eqb x.step w.last && ltb (started (seen_at seen i) (w.first - 1) + w.limit) (slot_end L x)) ≡ late w
        late-same w least long false e = rw e
        late-same w least long true e =
            let step = eqb-true x.step w.last e in
            let t = lower (w.first - 1) (omega (arith, least, long, step)) in
            let same : slot_for slots (shown i) (shown (w.first - 1)) ≡ slot_for slots x.row w.first =
            ap₂ (slot_for slots) row_is (omega (arith, least)) in
            let start : started (seen_at seen i) (w.first - 1) ≡ (slot_for slots x.row w.first).start =
            t.its-start ∙ ap (λ (z : Slot). z.start) same in
            ap (λ m. eqb x.step w.last && ltb (m + w.limit) (slot_end L x)) start

        abbrev mine : Window → Bool
        mine = late_window (seen_at seen i) x.step (end_at (row_at load i) x.step x.start)

        window_same : any_in mine (row_windows (row_at load i)) ≡ ends_window_late L slots x
        unfolding view_of
        window_same =
            any_in-any_to mine no_window (L.windows i)
            ∙ any_to-ext (λ p. mine (window_of L i p)) (λ p. late (window_of L i p)) (length (L.windows i))
            (λ p l. late-same (window_of L i p) (ok.first-least i p i_lt l) (ok.first-last i p i_lt l)
            (eqb x.step (window_of L i p).last) refl)
            ∙ sym (any_in-any_to late no_window (L.windows i))

      -- behind the numbers of the row and the step the tests are the same
      rest-same : first_met (drop 3 (step_tests (row_at load i) (seen_at seen i) seen.end x.step x.start))
          ≡ first_met (drop 1 (rule_tests L slots k x))
      unfolding step_tests rule_tests view_of
      rest-same =
          rest-ext (not (eqb x.step (shown (seen_at seen i).count))) (ltb last_moment x.start)
          (ltb x.start seen.end) (ltb x.start (released_at (row_at load i) (seen_at seen i) x.step))
          (any_in (late_window (seen_at seen i) x.step (end_at (row_at load i) x.step x.start))
          (row_windows (row_at load i)))
          (not_next slots k x) (overlaps L slots k x) (starts_early L slots x) (ends_window_late L slots x)
          (Err NoSuchSlot) (Err SlotOverlaps) (Err SlotEarly) (Err WindowLate)
          (cond (ends_row_late L x) (Err RowLate) (Ok tt)) next-same overlap-same (λ e. early-same (is-next e))
          (λ e. window_same (is-next e))
        where
          is-next : not (eqb x.step (shown (seen_at seen i).count)) ≡ false → x.step ≡ shown n
          is-next e =
              eqb-true x.step (shown n) (not-false (eqb x.step (shown n)) (sym next-same ∙ e))

    pub tests_same : first_met (slot_tests load seen x.row x.step x.start) ≡ slot_fault L slots k
    unfolding step_tests rule_tests view_of
    tests_same =
        name-ext (ltb x.row 1) (ltb load.rows x.row) (ltb most_rows x.row) (Err NoSuchSlot) _ step-rest
        (λ a b. le-ltb most_rows x.row (omega (arith, ltb-false load.rows x.row b, ok.rows-most)))
        (λ a b. of-step (ltb-false x.row 1 a) (ltb-false load.rows x.row b))
        ∙ both-tests (outside 1 load.rows x.row) (outside 1 last x.step) (Err NoSuchSlot) rest
      where
        last : ℕ
        last = (row_at load i).steps

        rest : Checked
        rest = first_met (drop 1 (rule_tests L slots k x))

        step-rest : Checked
        step-rest = cond (outside 1 last x.step) (Err NoSuchSlot) rest

        of-step : 1 ≤ x.row → x.row ≤ load.rows
            → first_met (step_tests (row_at load i) (seen_at seen i) seen.end x.step x.start) ≡ step-rest
        of-step from to =
            name-ext (ltb x.step 1) (ltb last x.step) (ltb most_steps x.step) (Err NoSuchSlot) _ rest
            (λ e g. le-ltb most_steps x.step
            (omega (arith, ltb-false last x.step g, ok.steps-most i (omega (arith, from, to)))))
            (λ e g. rest-same from to (ltb-false x.step 1 e) (ltb-false last x.step g))
