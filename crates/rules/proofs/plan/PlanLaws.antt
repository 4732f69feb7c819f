-- The plan over a list of rows: what it looks at, that a tick changes nothing while the first row waits, that it passes
-- when begun sooner or asked for less, and that it leaves every row of the list in time.
use Prim.Native.Nat.{ℕ, ◌+◌, ◌≤◌, ◌<◌}
use mathlib.Core.Bool.{true, ◌&&◌}
use mathlib.Core.List.{List, [], ◌∷◌}
use mathlib.Core.Path.{◌≡◌, refl}
use native.Mathlib.Omega.{arith}
use lib.Dec.{leb}
use borrow.Author.Tests.{leb-true, le-leb}
use Rattle.counting.proofs.tests.TestLaws.{and_left, and_right, and_both}
use Rattle.counting.proofs.sorting.SortLaws.{Every, Every-map}
use Rattle.rules.specs.Plan.{Jobs, finish, in_time_by}

-- the plan asks the same of row i in both
pub record SameJob (a b : Jobs) (i : ℕ) : Type 0 where
  pub key-same : a.key i ≡ b.key i
  pub release-same : a.release i ≡ b.release i
  pub left-same : a.left i ≡ b.left i
  pub due-same : a.due i ≡ b.due i

-- the plan asks no more of row i in the second than in the first
pub record EasierJob (a b : Jobs) (i : ℕ) : Type 0 where
  pub release-le : b.release i ≤ a.release i
  pub left_le : b.left i ≤ a.left i
  pub due-le : a.due i ≤ b.due i

-- the first of the stack cannot go on yet
abbrev pub FirstWaits : (ℕ → ℕ) → ℕ → List ℕ → Type 0
FirstWaits release t [] = Unit {0}
FirstWaits release t (i ∷ rest) = t < release i

module _ (a b : Jobs) where
  pub in_time_by-ext : (t : ℕ) (l : List ℕ) → Every (SameJob a b) l → in_time_by a t l ≡ in_time_by b t l
  unfolding in_time_by
  in_time_by-ext t [] e = refl
  in_time_by-ext t (i ∷ rest) e =
      let same : finish a t i ≡ finish b t i = omega (arith, e.0.release-same, e.0.left-same) in
      rw (same, e.0.due-same, in_time_by-ext (finish b t i) rest e.1)

  pub in_time_by-sooner : (t t' : ℕ) (l : List ℕ) → Every (EasierJob a b) l → t' ≤ t → in_time_by a t l ≡ true
      → in_time_by b t' l ≡ true
  unfolding in_time_by
  in_time_by-sooner t t' [] e h p = refl
  in_time_by-sooner t t' (i ∷ rest) e h p =
      let sooner = e.0.release-le in
      let less = e.0.left_le in
      let later = e.0.due-le in
      let first = and_left (leb (finish a t i) (a.due i)) (in_time_by a (finish a t i) rest) p in
      let f = leb-true (finish a t i) (a.due i) first in
      and_both (leb (finish b t' i) (b.due i)) (in_time_by b (finish b t' i) rest)
      (le-leb (finish b t' i) (b.due i) (omega arith))
      (in_time_by-sooner (finish a t i) (finish b t' i) rest e.1 (omega arith)
      (and_right (leb (finish a t i) (a.due i)) (in_time_by a (finish a t i) rest) p))

module _ (a : Jobs) where
  pub in_time_by-next : (t i : ℕ) (rest : List ℕ)
      → in_time_by a t (i ∷ rest) ≡ (leb (finish a t i) (a.due i) && in_time_by a (finish a t i) rest)
  unfolding in_time_by
  in_time_by-next t i rest = refl

  pub in_time_by-none : (t : ℕ) → in_time_by a t [] ≡ true
  unfolding in_time_by
  in_time_by-none t = refl

  pub in_time_by-tick : (t : ℕ) (l : List ℕ) → FirstWaits a.release t l → in_time_by a (t + 1) l ≡ in_time_by a t l
  unfolding in_time_by
  in_time_by-tick t [] h = refl
  in_time_by-tick t (i ∷ rest) h =
      let q : finish a (t + 1) i ≡ finish a t i = omega arith in
      rw q

  -- every row of the list, begun at once, would be in time
  pub in_time_by-true : (t : ℕ) (l : List ℕ) → in_time_by a t l ≡ true → Every (λ i. t + a.left i ≤ a.due i) l
  unfolding in_time_by
  in_time_by-true t [] p = tt
  in_time_by-true t (i ∷ rest) p =
      let first = and_left (leb (finish a t i) (a.due i)) (in_time_by a (finish a t i) rest) p in
      let f = leb-true (finish a t i) (a.due i) first in (
        omega arith,
        Every-map (λ k. finish a t i + a.left k ≤ a.due k) (λ k. t + a.left k ≤ a.due k) rest
            (λ k h. omega arith)
            (in_time_by-true (finish a t i) rest
            (and_right (leb (finish a t i) (a.due i)) (in_time_by a (finish a t i) rest) p)),
      )
