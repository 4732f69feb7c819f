-- The worst of some places: one place more is the worst only where its W is larger. So it goes by the places that are
-- asked, and places with no W at the end do not count.
use Prim.Native.Nat.{ℕ, ◌+◌, ◌-◌, ◌≤◌, ◌<◌}
use mathlib.Core.Bool.{cond}
use mathlib.Core.Path.{◌≡◌, ap, sym, ◌∙◌}
use native.Mathlib.Decide.{ℕ_discrete}
use native.Mathlib.Omega.{arith}
use borrow.Author.Tests.{lt-ltb, le-ltb, eq-eqb, ne_eqb}
use Rattle.counting.specs.Sums.{max_to}
use Rattle.counting.specs.Searches.{first_largest}
use Rattle.counting.proofs.sums.SumLaws.{max_to-zero}
use Rattle.counting.proofs.searches.LargestLaws.{
  first_largest-none,
  first_largest-next,
  first_largest-le,
  first_largest-ext,
  first_largest-shorter,
}
use Rattle.rules.specs.declared.LargestW.{LargestW}
use Rattle.rules.specs.declared.Blame.{Blame}
use Rattle.rules.specs.Blame.{nobody, worst_place, row_of_place, blame_among}

-- a place and a row
abbrev both : ℕ → ℕ → Blame
both place row = record { place = place; row = row }

module _ (places : ℕ → LargestW) where
  abbrev left : ℕ → ℕ
  left j = (places j).left

  -- places that are equally bad
  blame_among-worst : (n k : ℕ) → first_largest left n ≡ k → blame_among places n ≡ both k (row_of_place places k)
  unfolding blame_among
  blame_among-worst n k e = ap (λ p. both p (row_of_place places p)) e

  pub blame_among-zero : nobody ≡ blame_among places 0
  blame_among-zero = sym (blame_among-worst 0 0 (first_largest-none left 0 (max_to-zero left)))

  -- one place more, whose W is larger
  pub blame_among-larger : (j : ℕ) → max_to left j < left j → both (j + 1) (places j).row ≡ blame_among places (j + 1)
  blame_among-larger j l =
      let worst : first_largest left (j + 1) ≡ j + 1 =
      first_largest-next left j
      ∙ ap (λ b. cond b (j + 1) (first_largest left j)) (lt-ltb (max_to left j) (left j) l)
      in
      let back : j + 1 - 1 ≡ j = omega arith in
      sym
      (blame_among-worst (j + 1) (j + 1) worst
      ∙ ap (both (j + 1))
      (ap (λ b. cond b 0 (places (j + 1 - 1)).row) (ne_eqb (j + 1) 0 (λ e. omega arith))
      ∙ ap (λ i. (places i).row) back))

  -- one whose W is not
  pub blame_among-smaller : (j : ℕ) → left j ≤ max_to left j → blame_among places j ≡ blame_among places (j + 1)
  unfolding blame_among
  blame_among-smaller j l =
      sym
      (ap (λ p. both p (row_of_place places p))
      (first_largest-next left j
      ∙ ap (λ b. cond b (j + 1) (first_largest left j)) (le-ltb (max_to left j) (left j) l)))

module _ (f g : ℕ → LargestW) (n : ℕ) (same : (j : ℕ) → j < n → f j ≡ g j) where
  row_of_place-ext : (place : ℕ) → place ≤ n → row_of_place f place ≡ row_of_place g place
  row_of_place-ext place h =
      elim (ℕ_discrete place 0) [
        | yes e ↦ rw (eq-eqb place 0 e)
        | no e ↦ rw (ne_eqb place 0 e) (ap (λ (w : LargestW). w.row) (same (place - 1) (omega arith)))
      ]

  -- what the worst place of either is blamed on
  alike : (k : ℕ) → worst_place f k ≡ worst_place g n → blame_among f k ≡ blame_among g n
  unfolding blame_among
  alike k e =
      ap (λ p. both p (row_of_place f p)) e
      ∙ ap (both (worst_place g n)) (row_of_place-ext (worst_place g n) (first_largest-le (λ j. (g j).left) n))

  pub blame_among-ext : blame_among f n ≡ blame_among g n
  blame_among-ext =
      alike n
      (first_largest-ext (λ j. (f j).left) (λ j. (g j).left) n (λ j l. ap (λ (w : LargestW). w.left) (same j l)))

  -- places from n on that have no W
  pub blame_among-shorter : (k : ℕ) → n ≤ k → ((j : ℕ) → n ≤ j → j < k → (f j).left ≡ 0) → blame_among f k
      ≡ blame_among g n
  blame_among-shorter k h zeros =
      alike k
      (first_largest-shorter (λ j. (f j).left) (λ j. (g j).left) n k h (λ j l. ap (λ (w : LargestW). w.left) (same j l))
      zeros)
