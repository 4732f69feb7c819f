-- What a row keeps in the cut: its first m steps or all, then embedded steps, up to a step that is not embedded or the
-- row's end. So no window is cut in two, a kept step is embedded as it is in the load, and a free step of the cut load
-- lies below m and is free in the load. The only premise is that a row's windows end within its steps.
use Prim.Native.Nat.{ℕ, suc, ◌+◌, ◌-◌, ◌≤◌, ◌<◌}
use mathlib.Core.Bool.{Bool, true, false, ◌&&◌, not, and-true}
use mathlib.Core.Path.{◌≡◌, refl, ap, ap₂, sym, ◌∙◌}
use native.Mathlib.Decide.{dec_le, dec_lt}
use native.Mathlib.Omega.{arith}
use borrow.Author.Tests.{not-true, not-false, lt-ltb, le-ltb, le-leb, lt-leb}
use lib.Dec.{leb, ltb}
use Rattle.counting.proofs.searches.FirstToLaws.{IsFirst, first_to-first}
use Rattle.counting.proofs.tests.TestLaws.{true-false}
use Rattle.counting.proofs.sorting.SortLaws.{Every, Every-map}
use Rattle.counting.proofs.lists.EveryLaws.{any_in-every}
use Rattle.counting.proofs.lists.KeepLaws.{any_in-kept}
use Rattle.load.specs.declared.Window.{Window}
use Rattle.load.specs.Load.{shown}
use Rattle.load.specs.View.{View, embedded_in, embedded, is_free, open_with}
use Rattle.load.proofs.WindowLaws.{open_with-first, open_with-last, within-open_with, open_with-is}
use Rattle.rules.specs.Cut.{first_kept, followers, kept, cut}

module _ (L : View) (m i : ℕ) where
  kept_first : IsFirst (λ d. not (embedded L i (first_kept L m i + d))) (L.steps i - first_kept L m i)
      (followers L i (first_kept L m i))
  kept_first = first_to-first (λ d. not (embedded L i (first_kept L m i + d))) (L.steps i - first_kept L m i)

  pub first_kept-le : first_kept L m i ≤ kept L m i
  unfolding kept
  first_kept-le = omega arith

  pub kept-le : kept L m i ≤ L.steps i
  unfolding kept
  kept-le = omega (arith, kept_first.most)

  -- from place m on every kept step is embedded
  pub kept-embedded : (j : ℕ) → m ≤ j → j < kept L m i → embedded L i j ≡ true
  unfolding kept
  kept-embedded j h l =
      let e : first_kept L m i + (j - first_kept L m i) ≡ j = omega arith in
      ap (embedded L i) (sym e)
      ∙ not-false (embedded L i (first_kept L m i + (j - first_kept L m i)))
      (kept_first.before (j - first_kept L m i) (omega arith))

  -- the step after the kept ones is not embedded, or is not there
  pub kept-stops : kept L m i < L.steps i → embedded L i (kept L m i) ≡ false
  unfolding kept
  kept-stops l = not-true (embedded L i (kept L m i)) (kept_first.has (omega arith))

-- the windows of row i end within its steps
abbrev pub Within : View → ℕ → Type 0
Within L i = Every (λ w. w.last ≤ L.steps i) (L.windows i)

-- a window that n steps hold whole, or not at all
pub data Uncut (n : ℕ) (w : Window) : Type 0 where
  whole : w.last ≤ n → Uncut n w
  dropped : n < w.first → Uncut n w

-- no window is cut in two
pub kept-uncut : (L : View) (m i : ℕ) → Within L i → Every (Uncut (kept L m i)) (L.windows i)
unfolding embedded
kept-uncut L m i within =
    elim (dec_lt n (L.steps i)) [
      | yes l ↦
          Every-map (λ w. embedded_in (shown n) w ≡ false) (Uncut n) (L.windows i) (λ w e. stopped w e)
          (any_in-every (embedded_in (shown n)) (L.windows i) (kept-stops L m i l))
      | no l ↦
          Every-map (λ w. w.last ≤ L.steps i) (Uncut n) (L.windows i) (λ w h. whole (omega arith)) within
    ]
  where
    n : ℕ
    n = kept L m i

    stopped : (w : Window) → embedded_in (shown n) w ≡ false → Uncut n w
    stopped w e =
        elim (dec_le w.last n) [
          | yes l ↦ whole l
          | no l ↦
              elim (dec_lt n w.first) [
                | yes f ↦ dropped f
                | no f ↦
                    (let o = within-open_with n w (omega arith) (omega arith) in
                    absurd (true-false (open_with n w) o (open_with-is n w ∙ e)))
              ]
        ]

-- a step of a window that is not cut is kept where the window is
uncut-embedded_in : (n j : ℕ) (w : Window) → Uncut n w
    → (embedded_in (shown j) w && leb w.last n) ≡ (embedded_in (shown j) w && ltb j n)
uncut-embedded_in n j w u = go (embedded_in (shown j) w) refl u
  where
    go : (b : Bool) → embedded_in (shown j) w ≡ b → Uncut n w → (b && leb w.last n) ≡ (b && ltb j n)
    go false e u = refl
    go true e (whole h) =
        let before = open_with-last j w (open_with-is j w ∙ e) in
        le-leb w.last n h ∙ sym (lt-ltb j n (omega arith))
    go true e (dropped h) =
        let after = open_with-first j w (open_with-is j w ∙ e) in
        let before = open_with-last j w (open_with-is j w ∙ e) in
        lt-leb w.last n (omega arith) ∙ sym (le-ltb j n (omega arith))

-- a kept step is embedded as it is in the load, and no other is
pub embedded-of-cut : (L : View) (m i j : ℕ) → Within L i
    → embedded (cut L m) i j ≡ (embedded L i j && ltb j (kept L m i))
unfolding embedded cut
embedded-of-cut L m i j within =
    any_in-kept (embedded_in (shown j)) (λ w. leb w.last (kept L m i)) (ltb j (kept L m i)) (L.windows i)
    (Every-map (Uncut (kept L m i))
    (λ w. (embedded_in (shown j) w && leb w.last (kept L m i)) ≡ (embedded_in (shown j) w && ltb j (kept L m i)))
    (L.windows i) (λ w. uncut-embedded_in (kept L m i) j w) (kept-uncut L m i within))

pub embedded-kept : (L : View) (m i j : ℕ) → Within L i → j < kept L m i → embedded (cut L m) i j ≡ embedded L i j
embedded-kept L m i j within h =
    embedded-of-cut L m i j within
    ∙ ap (λ t. embedded L i j && t) (lt-ltb j (kept L m i) h)
    ∙ and-true (embedded L i j)

pub steps-of-cut : (L : View) (m i : ℕ) → (cut L m).steps i ≡ kept L m i
unfolding cut
steps-of-cut L m i = refl

-- a kept step is free as it is in the load
is_free-kept : (L : View) (m i j : ℕ) → Within L i
    → is_free (cut L m) i j ≡ (ltb j (kept L m i) && not (embedded L i j))
is_free-kept L m i j within =
    ap₂ (λ n b. ltb j n && not b) (steps-of-cut L m i) (embedded-of-cut L m i j within)
    ∙ same (ltb j (kept L m i)) (embedded L i j)
  where
    same : (t b : Bool) → (t && not (b && t)) ≡ (t && not b)
    same true b = ap not (and-true b)
    same false b = refl

-- below m the cut load has the free steps of the load
pub is_free-of-cut : (L : View) (m i j : ℕ) → Within L i → j < m → is_free (cut L m) i j ≡ is_free L i j
is_free-of-cut L m i j within l =
    is_free-kept L m i j within ∙ ap (λ t. t && not (embedded L i j)) (there (dec_lt j (L.steps i)))
  where
    there : Dec (j < L.steps i) → ltb j (kept L m i) ≡ ltb j (L.steps i)
    there (yes h) =
        lt-ltb j (kept L m i) (omega (arith, first_kept-le L m i)) ∙ sym (lt-ltb j (L.steps i) h)
    there (no h) = le-ltb j (kept L m i) (omega (arith, kept-le L m i)) ∙ sym (le-ltb j (L.steps i) (omega arith))

-- and from m on it has none
pub is_free-past : (L : View) (m i j : ℕ) → Within L i → m ≤ j → is_free (cut L m) i j ≡ false
is_free-past L m i j within l = is_free-kept L m i j within ∙ there (dec_lt j (kept L m i))
  where
    there : Dec (j < kept L m i) → (ltb j (kept L m i) && not (embedded L i j)) ≡ false
    there (yes h) = rw (lt-ltb j (kept L m i) h, kept-embedded L m i j l h)
    there (no h) = rw (le-ltb j (kept L m i) (omega arith))

-- a kept wait between two kept steps is the load's
pub wait-of-cut : (L : View) (m i j : ℕ) → suc j < kept L m i → (cut L m).wait i j ≡ L.wait i j
unfolding cut
wait-of-cut L m i j h = rw (lt-ltb (suc j) (kept L m i) h)
