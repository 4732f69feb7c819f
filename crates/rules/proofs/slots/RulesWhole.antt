-- Slots that keep the rules are whole: a row's step has before it just the row's lower steps, each once, so it is the
-- row's next, and each row has as many slots as steps.
use Prim.Native.Nat.{ℕ, zero, suc, ◌+◌, ◌≤◌, ◌<◌}
use mathlib.Core.List.{List}
use mathlib.Core.Path.{◌≡◌, refl, ap, ap₂, sym, ◌∙◌, subst}
use native.Mathlib.Omega.{arith}
use lib.Dec.{eqb}
use lib.ListN.{length}
use Rattle.counting.proofs.sums.SumLaws.{sum_to-zero, sum_to-ext}
use Rattle.counting.specs.Sums.{bit}
use Rattle.load.specs.Load.{shown}
use Rattle.load.specs.View.{View}
use Rattle.load.specs.Acceptable.{window_of as window_at}
use Rattle.rules.specs.declared.Slot.{Slot}
use Rattle.rules.specs.Slots.{slot_at, row_of, step_of, slot_end}
use Rattle.rules.specs.ScheduleRules.{HasSlot, OneRow, SlotRules}
use Rattle.rules.proofs.slots.SlotLaws.{of_row, IsSlot}
use Rattle.rules.proofs.slots.NextLaws.{slot_is, EachNext, lower-first}
use Rattle.rules.proofs.slots.RowCounts.{of_row-none, of_row-one, of_row-all, after-all}
use Rattle.rules.proofs.slots.WholeLaws.{Whole}

module _ (L : View) (slots : List Slot) (rules : SlotRules L slots) where
  -- two slots of row i
  both : (i a b : ℕ) → a < length slots → b < length slots → (slot_at slots a).row ≡ shown i
      → (slot_at slots b).row ≡ shown i → OneRow slots a b
  both i a b la lb p q = record { first = la; second = lb; same = p ∙ sym q }

  -- a step has before it just the row's lower steps
  of_row-step : (j i k : ℕ) → i < L.rows → k < length slots → IsSlot i j (slot_at slots k)
      → of_row slots (shown i) k ≡ j
  of_row-step zero i k li l e =
      of_row-none slots (shown i) 0 k (omega arith)
      (λ h lo lh q. omega (
        arith,
        rules.in_order h k (both i h k (omega arith) l q e.its-row) lh,
        (rules.only h (omega arith)).step_from,
        e.its-step,
      ))
      ∙ sum_to-zero (λ y. bit (eqb (slot_at slots y).row (shown i)))
  of_row-step (suc j) i k li l e =
      of_row-one slots (shown i) a.place k first a.its-row
      (λ h lo lh q. omega (
        arith,
        rules.in_order a.place h (both i a.place h a.below (omega arith) a.its-row q) lo,
        rules.in_order h k (both i h k (omega arith) l q e.its-row) lh,
        a.its-step,
        e.its-step,
      ))
      ∙ ap suc
      (of_row-step j i a.place li a.below (record { its-row = a.its-row; its-step = a.its-step }))
    where
      its : row_of (slot_at slots k) ≡ i
      its = omega (arith, e.its-row)

      a : HasSlot slots i j
      a = rules.each i j li (omega (arith, (rules.only k l).step-to, ap L.steps its, e.its-step))

      first : a.place < k
      first =
          lower-first slots rules.in_order a.place k (both i a.place k a.below l a.its-row e.its-row)
          (omega (arith, a.its-step, e.its-step))

  rules-next : EachNext slots
  rules-next k l =
      let n = rules.only k l in
      let is = slot_is L (slot_at slots k) n in
      let li : row_of (slot_at slots k) < L.rows = omega (arith, n.row_from, n.row-to) in
      is.its-step
      ∙ ap shown
      (sym
      (ap (λ row. of_row slots row k) is.its-row
      ∙ of_row-step (step_of (slot_at slots k)) (row_of (slot_at slots k)) k li l is))

  -- each row has as many slots as steps
  rules-count : (i : ℕ) → i < L.rows → of_row slots (shown i) (length slots) ≡ L.steps i
  rules-count i li = go (L.steps i) refl
    where
      past : (h : ℕ) → h < length slots → (slot_at slots h).row ≡ shown i → (slot_at slots h).step ≤ L.steps i
      past h l q =
          let its : row_of (slot_at slots h) ≡ i = omega arith in
          omega (arith, (rules.only h l).step-to, ap L.steps its)

      go : (n : ℕ) → L.steps i ≡ n → of_row slots (shown i) (length slots) ≡ n
      go zero e =
          of_row-none slots (shown i) 0 (length slots) (omega arith)
          (λ h lo lh q. omega (arith, past h lh q, (rules.only h lh).step_from))
          ∙ sum_to-zero (λ y. bit (eqb (slot_at slots y).row (shown i)))
      go (suc j) e =
          let a = rules.each i j li (omega arith) in
          of_row-one slots (shown i) a.place (length slots) a.below a.its-row
          (λ h lo lh q. omega (
            arith,
            rules.in_order a.place h (both i a.place h a.below lh a.its-row q) lo,
            past h lh q,
            a.its-step,
          ))
          ∙ ap suc
          (of_row-step j i a.place li a.below (record { its-row = a.its-row; its-step = a.its-step }))

  rules-window : (k h i p : ℕ) → k < length slots → h < k → i < L.rows → p < length (L.windows i)
      → (slot_at slots h).row ≡ shown i → (slot_at slots k).row ≡ shown i → (slot_at slots h).step
      ≡ (window_at L i p).first
      → (slot_at slots k).step ≡ (window_at L i p).last
      → slot_end L (slot_at slots k) ≤ (slot_at slots h).start + (window_at L i p).limit
  rules-window k h i p l lh li lp a b first last =
      subst
      (λ q. p < length (L.windows q) → (slot_at slots h).step ≡ (window_at L q p).first
      → (slot_at slots k).step ≡ (window_at L q p).last
      → slot_end L (slot_at slots k) ≤ (slot_at slots h).start + (window_at L q p).limit)
      its (λ lp' f t. rules.windows h k p (both i h k (omega arith) l a b) lp' f t) lp first last
    where
      its : row_of (slot_at slots h) ≡ i
      its = omega arith

  pub rules-whole : Whole L slots
  rules-whole =
      record {
        fits = λ k l.
            record {
              names = rules.only k l;
              next = rules-next k l;
              after = λ h lh. after-all L slots rules.no-overlap k h l lh;
              phase = λ i e.
                  (let its : row_of (slot_at slots k) ≡ i = omega (arith, e.its-row) in
                  omega (arith, rules.phases k l e.its-step, ap L.phase its));
              wait = λ h i j lh a b.
                  (let er : row_of (slot_at slots h) ≡ i = omega (arith, a.its-row) in
                  let ej : step_of (slot_at slots h) ≡ j = omega (arith, a.its-step) in
                  omega (
                    arith,
                    rules.waits h k (both i h k (omega arith) l a.its-row b.its-row)
                        (omega (arith, a.its-step, b.its-step)),
                    ap₂ L.wait er ej,
                  ));
              window = λ h i p lh li lp a b first last. rules-window k h i p l lh li lp a b first last;
            };
        count = rules-count;
        in_all =
            sym (of_row-all L slots (length slots) rules.only)
            ∙ sum_to-ext (λ i. of_row slots (shown i) (length slots)) L.steps L.rows rules-count;
      }
