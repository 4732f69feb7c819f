-- The test of a state's shape is exactly its facts: the test gives each of them, and all of them give the test.
use Prim.Native.Nat.{ℕ, ◌≤◌, ◌<◌}
use mathlib.Core.Bool.{Bool, true, false, cond, ◌&&◌}
use mathlib.Core.Path.{◌≡◌, refl, sym, ◌∙◌}
use native.Mathlib.Omega.{arith}
use lib.Dec.{eqb, leb}
use borrow.Author.Tests.{eqb-true, leb-true, le-leb, eq-eqb}
use Rattle.counting.specs.Sums.{all_to, all_from}
use Rattle.counting.proofs.tests.TestLaws.{
  and_left,
  and_right,
  and_both,
  true-false,
  all_to-true,
  true-all_to,
  all_from-true,
  true-all_from,
}
use Rattle.load.specs.Load.{last_moment, most_rows}
use Rattle.load.specs.View.{View}
use Rattle.load.proofs.WindowLaws.{within-opens_at, opens_at-embedded, embedded-place}
use Rattle.rules.specs.State.{State, is_open, end_fits, opening_fits, row_shaped, row_unused, shaped}
use Rattle.rules.specs.Shape.{HasOpen, Unused, Shape}

module _ (L : View) (s : State) where
  pub has_open-is_open : (i : ℕ) → HasOpen L s i → is_open L s i ≡ true
  has_open-is_open i h = within-opens_at L i (s.finished i) h.place h.there h.begun h.going

  pub is_open-has_open : (i : ℕ) → is_open L s i ≡ true → HasOpen L s i
  is_open-has_open i e =
      let o = embedded-place L i (s.finished i) (sym (opens_at-embedded L i (s.finished i)) ∙ e) in
      record { place = o.place; there = o.below; begun = o.begun; going = o.going }

  pub has_open-none : (i : ℕ) → ¬ HasOpen L s i → is_open L s i ≡ false
  has_open-none i none = go (is_open L s i) refl
    where
      go : (b : Bool) → is_open L s i ≡ b → b ≡ false
      go true e = absurd (none (is_open-has_open i e))
      go false e = refl

  -- from the test to the facts
  module _ (e : shaped L s ≡ true) where
    clock-rows : (leb s.clock last_moment && all_to (row_shaped L s) L.rows) ≡ true
    unfolding shaped
    clock-rows = and_left (leb s.clock last_moment && all_to (row_shaped L s) L.rows) _ e

    row-shaped : (i : ℕ) → i < L.rows → row_shaped L s i ≡ true
    row-shaped = all_to-true (row_shaped L s) L.rows (and_right (leb s.clock last_moment) _ clock-rows)

    finished-end : (i : ℕ) → i < L.rows → (leb (s.finished i) (L.steps i) && end_fits s i) ≡ true
    finished-end i l = and_left (leb (s.finished i) (L.steps i) && end_fits s i) (opening_fits L s i) (row-shaped i l)

    end_fits-true : (i : ℕ) → i < L.rows → s.end i ≤ cond (eqb (s.finished i) 0) 0 s.clock
    end_fits-true i l = leb-true (s.end i) _
        (and_right (leb (s.finished i) (L.steps i)) (end_fits s i) (finished-end i l))

    opening-fits : (i : ℕ) → i < L.rows → s.opening i ≤ cond (is_open L s i) (s.end i) 0
    opening-fits i l =
        leb-true (s.opening i) _
        (and_right (leb (s.finished i) (L.steps i) && end_fits s i) (opening_fits L s i) (row-shaped i l))

    no-opening : (i : ℕ) → i < L.rows → ¬ HasOpen L s i → s.opening i ≡ 0
    no-opening i l none =
        let h : s.opening i ≤ 0 = rw (has_open-none i none) at (opening-fits i l) in
        omega arith

    row-unused : (i : ℕ) → L.rows ≤ i → i < most_rows → Unused s i
    unfolding shaped
    row-unused i a b =
        let u = all_from-true (row_unused s) L.rows most_rows
        (and_right (leb s.clock last_moment && all_to (row_shaped L s) L.rows) _ e) i a b in
        let both = and_left (eqb (s.finished i) 0 && eqb (s.end i) 0) (eqb (s.opening i) 0) u in
        record {
          no_steps = eqb-true (s.finished i) 0 (and_left (eqb (s.finished i) 0) (eqb (s.end i) 0) both);
          no_end = eqb-true (s.end i) 0 (and_right (eqb (s.finished i) 0) (eqb (s.end i) 0) both);
          no-opening =
              eqb-true (s.opening i) 0
              (and_right (eqb (s.finished i) 0 && eqb (s.end i) 0) (eqb (s.opening i) 0) u);
        }

    end-le : (i : ℕ) → (b : Bool) → s.end i ≤ cond b 0 s.clock → s.end i ≤ s.clock
    end-le i true h = omega arith
    end-le i false h = h

    pub shaped-shape : Shape L s
    shaped-shape =
        record {
          clock-most = leb-true s.clock last_moment (and_left (leb s.clock last_moment) _ clock-rows);
          finished-most = λ i l.
              leb-true (s.finished i) (L.steps i)
              (and_left (leb (s.finished i) (L.steps i)) (end_fits s i) (finished-end i l));
          end-most = λ i l. end-le i (eqb (s.finished i) 0) (end_fits-true i l);
          end_none = λ i l q.
              (let h = end_fits-true i l in
              let z : s.end i ≤ 0 = rw (eq-eqb (s.finished i) 0 q) at h in
              omega arith);
          opening-most = λ i l o. rw (has_open-is_open i o) at (opening-fits i l);
          opening-none = no-opening;
          unused = row-unused;
        }

  -- and back
  module _ (h : Shape L s) where
    fits-end : (i : ℕ) → i < L.rows → end_fits s i ≡ true
    fits-end i l = le-leb (s.end i) (cond (eqb (s.finished i) 0) 0 s.clock) (go (eqb (s.finished i) 0) refl)
      where
        go : (b : Bool) → eqb (s.finished i) 0 ≡ b → s.end i ≤ cond b 0 s.clock
        go true e = omega (arith, h.end_none i l (eqb-true (s.finished i) 0 e))
        go false e = h.end-most i l

    fits-opening : (i : ℕ) → i < L.rows → opening_fits L s i ≡ true
    fits-opening i l = le-leb (s.opening i) (cond (is_open L s i) (s.end i) 0) (go (is_open L s i) refl)
      where
        go : (b : Bool) → is_open L s i ≡ b → s.opening i ≤ cond b (s.end i) 0
        go true e = h.opening-most i l (is_open-has_open i e)
        go false e =
            omega (arith, h.opening-none i l (λ o. true-false (is_open L s i) (has_open-is_open i o) e))

    unused-row : (i : ℕ) → L.rows ≤ i → i < most_rows → row_unused s i ≡ true
    unused-row i a b =
        let u = h.unused i a b in
        rw (
          eq-eqb (s.finished i) 0 u.no_steps,
          eq-eqb (s.end i) 0 u.no_end,
          eq-eqb (s.opening i) 0 u.no-opening,
        )

    pub shape-shaped : shaped L s ≡ true
    unfolding shaped
    shape-shaped =
        and_both (leb s.clock last_moment && all_to (row_shaped L s) L.rows)
        (all_from (row_unused s) L.rows most_rows)
        (and_both (leb s.clock last_moment) (all_to (row_shaped L s) L.rows)
        (le-leb s.clock last_moment h.clock-most)
        (true-all_to (row_shaped L s) L.rows
        (λ i l. and_both (leb (s.finished i) (L.steps i) && end_fits s i) (opening_fits L s i)
        (and_both (leb (s.finished i) (L.steps i)) (end_fits s i)
        (le-leb (s.finished i) (L.steps i) (h.finished-most i l)) (fits-end i l))
        (fits-opening i l))))
        (true-all_from (row_unused s) L.rows most_rows unused-row)
