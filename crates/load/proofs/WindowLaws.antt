-- The windows of an acceptable load, seen from its steps. A row's window is open exactly while its next step is
-- embedded; one window is open then, and still open at the step after it where that is embedded too; a window begins
-- at the free step before its first embedded one, and ends at its last.
use Prim.Native.Nat.{ℕ, suc, ◌≤◌, ◌<◌}
use mathlib.Core.Bool.{Bool, true, false, ◌&&◌, not}
use mathlib.Core.Path.{◌≡◌, refl, ap, sym, ◌∙◌, subst}
use native.Mathlib.Decide.{dec_lt}
use native.Mathlib.Omega.{arith}
use borrow.Author.Tests.{ltb-true, leb-true, eqb-false, lt-ltb, le-leb, ne_eqb, not-true}
use lib.Dec.{eqb, leb, ltb}
use lib.ListN.{length}
use Rattle.counting.proofs.tests.TestLaws.{and_left, and_right, and_both, true-false, test-ext}
use Rattle.counting.proofs.lists.MemberLaws.{any_in-true, true-any_in, any_in-ext, first_in-only}
use Rattle.load.specs.declared.Window.{Window}
use Rattle.load.specs.Load.{shown, no_window}
use Rattle.load.specs.View.{View, embedded_in, embedded, open_with, opens_at, open_at}
use Rattle.load.specs.Acceptable.{Acceptable, window_of, chain_in}

module _ (j : ℕ) (w : Window) where
  pub open_with-first : open_with j w ≡ true → w.first ≤ j
  open_with-first e = leb-true w.first j (and_left (leb w.first j) (ltb j w.last) e)

  pub open_with-last : open_with j w ≡ true → j < w.last
  open_with-last e = ltb-true j w.last (and_right (leb w.first j) (ltb j w.last) e)

  pub within-open_with : w.first ≤ j → j < w.last → open_with j w ≡ true
  within-open_with f l = and_both (leb w.first j) (ltb j w.last) (le-leb w.first j f) (lt-ltb j w.last l)

  embedded_in-open_with : embedded_in (shown j) w ≡ true → open_with j w ≡ true
  embedded_in-open_with e =
      let first : Bool = eqb (shown j) w.first in
      let from : Bool = leb w.first (shown j) in
      let to : Bool = leb (shown j) w.last in
      let f = leb-true w.first (shown j) (and_left from to (and_left (from && to) (not first) e)) in
      let l = leb-true (shown j) w.last (and_right from to (and_left (from && to) (not first) e)) in
      let n = eqb-false (shown j) w.first (not-true first (and_right (from && to) (not first) e)) in
      within-open_with (omega arith) (omega arith)

  open_with-embedded_in : open_with j w ≡ true → embedded_in (shown j) w ≡ true
  open_with-embedded_in e =
      let f = open_with-first e in
      let l = open_with-last e in
      rw (
        le-leb w.first (shown j) (omega arith),
        le-leb (shown j) w.last (omega arith),
        ne_eqb (shown j) w.first (omega arith),
      )

  -- open with j steps finished, and having step j embedded, are one
  pub open_with-is : open_with j w ≡ embedded_in (shown j) w
  open_with-is = test-ext (open_with j w) (embedded_in (shown j) w) open_with-embedded_in embedded_in-open_with

-- a row has an open window exactly while its next step is embedded
pub opens_at-embedded : (L : View) (i j : ℕ) → opens_at L i j ≡ embedded L i j
unfolding opens_at embedded
opens_at-embedded L i j = any_in-ext (open_with j) (embedded_in (shown j)) (L.windows i) (open_with-is j)

-- the place of the window that is open
pub record OpenPlace (L : View) (i j : ℕ) : Type 0 where
  pub place : ℕ
  pub below : place < length (L.windows i)
  pub is : open_at L i j ≡ window_of L i place
  pub begun : (window_of L i place).first ≤ j
  pub going : j < (window_of L i place).last

pub embedded-place : (L : View) (i j : ℕ) → embedded L i j ≡ true → OpenPlace L i j
unfolding opens_at open_at
embedded-place L i j e =
    let f = any_in-true (open_with j) no_window (L.windows i) (opens_at-embedded L i j ∙ e) in
    record {
      place = f.place;
      below = f.below;
      is = f.is;
      begun = open_with-first j (window_of L i f.place) f.has;
      going = open_with-last j (window_of L i f.place) f.has;
    }

module _ (L : View) (i j p : ℕ) (l : p < length (L.windows i)) (from : (window_of L i p).first ≤ j)
    (to : j < (window_of L i p).last) where
  -- a row is open while one of its windows is
  pub within-opens_at : opens_at L i j ≡ true
  unfolding opens_at
  within-opens_at =
      true-any_in (open_with j) no_window (L.windows i) p l (within-open_with j (window_of L i p) from to)

  -- and its next step is embedded
  within-embedded : embedded L i j ≡ true
  within-embedded = sym (opens_at-embedded L i j) ∙ within-opens_at

module _ (L : View) (ok : Acceptable L) (i : ℕ) (r : i < L.rows) where
  -- windows share no step: two that have a step, counted from 1, in common are one
  pub windows-apart : (p q a : ℕ) → p < length (L.windows i) → q < length (L.windows i)
      → (window_of L i p).first ≤ a → a ≤ (window_of L i p).last → (window_of L i q).first ≤ a → a
      ≤ (window_of L i q).last
      → p ≡ q
  windows-apart p q a lp lq fp tp fq tq =
      elim (dec_lt p q) [
        | yes h ↦ absurd (omega (arith, ok.ascending i q r lq p h))
        | no h ↦ elim (dec_lt q p) [
          | yes g ↦ absurd (omega (arith, ok.ascending i p r lp q g))
          | no g ↦ omega arith
        ]
      ]

  -- a window that is open is the one that is found
  pub open_at-is : (j p : ℕ) → p < length (L.windows i) → (window_of L i p).first ≤ j → j < (window_of L i p).last
      → open_at L i j ≡ window_of L i p
  unfolding open_at
  open_at-is j p l from to =
      first_in-only (open_with j) no_window (L.windows i) p l (within-open_with j (window_of L i p) from to)
      (λ q h e. windows-apart q p j h l
      (open_with-first j (window_of L i q) e)
      (omega (arith, open_with-last j (window_of L i q) e))
      from
      (omega arith))

  module _ (j : ℕ) (e : embedded L i j ≡ true) where
    stands : OpenPlace L i j
    stands = embedded-place L i j e

    -- what holds of every window of the row holds of the one that is open
    open_at-all : (P : Window → Type 0) → ((p : ℕ) → p < length (L.windows i) → P (window_of L i p))
        → P (open_at L i j)
    open_at-all P h = subst P (sym stands.is) (h stands.place stands.below)

    pub open_at-first : (open_at L i j).first ≤ j
    open_at-first = omega (arith, ap (λ (w : Window). w.first) stands.is, stands.begun)

    pub open_at-last : j < (open_at L i j).last
    open_at-last = omega (arith, ap (λ (w : Window). w.last) stands.is, stands.going)

    open_at-steps : (open_at L i j).last ≤ L.steps i
    open_at-steps = open_at-all (λ w. w.last ≤ L.steps i) (λ p l. ok.last-most i p r l)

    open_at-begins : 1 ≤ (open_at L i j).first
    open_at-begins = open_at-all (λ w. 1 ≤ w.first) (λ p l. ok.first-least i p r l)

    pub open_at-limit : chain_in L i (open_at L i j) ≤ (open_at L i j).limit
    open_at-limit = open_at-all (λ w. chain_in L i w ≤ w.limit) (λ p l. ok.limit-chain i p r l)

    pub embedded-below : j < L.steps i
    embedded-below = omega (arith, open_at-last, open_at-steps)

    -- every step of the window after its first and until its last is embedded
    embedded-on : (k : ℕ) → (open_at L i j).first ≤ k → k < (open_at L i j).last → embedded L i k ≡ true
    embedded-on k from to =
        within-embedded L i k stands.place stands.below
        (omega (arith, ap (λ (w : Window). w.first) stands.is))
        (omega (arith, ap (λ (w : Window). w.last) stands.is))

  -- no row begins with an embedded step
  pub first-free : embedded L i 0 ≡ false
  first-free = go (embedded L i 0) refl
    where
      go : (b : Bool) → embedded L i 0 ≡ b → b ≡ false
      go false e = refl
      go true e = absurd (omega (arith, open_at-first 0 e, open_at-begins 0 e))

  module _ (j : ℕ) where
    -- an embedded step and an embedded step after it stand in one window
    pub open_at-next : embedded L i j ≡ true → embedded L i (suc j) ≡ true → open_at L i (suc j) ≡ open_at L i j
    open_at-next e f =
        let p = stands j e in
        let q = stands (suc j) f in
        let begun = p.begun in
        let going = p.going in
        let same =
        windows-apart q.place p.place (suc j) q.below p.below
        q.begun (omega (arith, q.going)) (omega arith) (omega arith) in
        q.is ∙ ap (window_of L i) same ∙ sym p.is

    -- a free step before an embedded one is its window's first
    pub open_at-opens : embedded L i j ≡ false → embedded L i (suc j) ≡ true → (open_at L i (suc j)).first ≡ shown j
    open_at-opens e f =
        let l = open_at-last (suc j) f in
        elim (dec_lt j (open_at L i (suc j)).first) [
          | yes h ↦ omega (arith, open_at-first (suc j) f)
          | no h ↦ absurd (true-false (embedded L i j) (embedded-on (suc j) f j (omega arith) (omega arith)) e)
        ]

    -- an embedded step before one that is not is its window's last
    pub open_at-closes : embedded L i j ≡ true → embedded L i (suc j) ≡ false → (open_at L i j).last ≡ shown j
    open_at-closes e f =
        let l = open_at-first j e in
        elim (dec_lt (suc j) (open_at L i j).last) [
          | yes h ↦ absurd (true-false (embedded L i (suc j)) (embedded-on j e (suc j) (omega arith) h) f)
          | no h ↦ omega (arith, open_at-last j e)
        ]
