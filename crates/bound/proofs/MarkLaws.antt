-- Rows that are marked: taking one mark away leaves the others, and the costs of those are as small.
use Prim.Native.Nat.{ℕ, ◌+◌}
use mathlib.Core.Bool.{Bool, false, ◌&&◌, not}
use mathlib.Core.List.{List}
use mathlib.Core.Path.{◌≡◌, refl, sym, ap, ◌∙◌}
use native.Mathlib.Decide.{ℕ_discrete, dec_lt}
use native.Mathlib.Omega.{arith}
use borrow.Author.Tests.{eq-eqb, ne_eqb}
use lib.Dec.{eqb}
use lib.ListN.{length, set, get_or-eq_default}
use lib.Seq.{set_out, get_or-set_same, get_or-set_other}
use Rattle.counting.specs.Lists.{is_marked}
use Rattle.counting.proofs.tests.TestLaws.{and_right}
use Rattle.counting.proofs.sorting.PairLaws.{pairs_below, pairs_smallest, pairs_smallest-ext}
use Rattle.load.specs.declared.Load.{Load}
use Rattle.bound.specs.inner.Marks.{cost_at, is_other, Costed}

-- how many of the costs that the first n rows give at place j and the next, where they are marked, are below t
abbrev pub costs_below : Load → ℕ → List Bool → ℕ → ℕ → ℕ
costs_below load j marks n t = pairs_below (cost_at load j) (cost_at load (j + 1)) (is_marked marks) n t

module _ (marks : List Bool) (i : ℕ) where
  unmarked : is_marked (set marks i false) i ≡ false
  unmarked =
      elim (dec_lt i (length marks)) [
        | yes h ↦ get_or-set_same marks i false false h
        | no h ↦
            ap (λ l. is_marked l i) (set_out marks i false (omega arith))
            ∙ get_or-eq_default marks false {n = i} (omega arith)
      ]

  -- the marks without row i's
  pub is_other-is : (k : ℕ) → is_marked (set marks i false) k ≡ is_other marks i k
  is_other-is k =
      elim (ℕ_discrete k i) [
        | yes e ↦
            ap (is_marked (set marks i false)) e
            ∙ unmarked
            ∙ sym (ap (λ b. not b && is_marked marks k) (eq-eqb k i e))
        | no e ↦ get_or-set_other marks i k false false e ∙ sym (ap (λ b. not b && is_marked marks k) (ne_eqb k i e))
      ]

  pub Costed-others : (load : Load) (n j : ℕ) → Costed load n j marks → Costed load n j (set marks i false)
  Costed-others load n j costed =
      record {
        few = costed.few;
        between = costed.between;
        small = λ k l e. costed.small k l (and_right (not (eqb k i)) (is_marked marks k) (sym (is_other-is k) ∙ e));
      }

  pub pairs_smallest-others : (f g : ℕ → ℕ) (n : ℕ)
      → pairs_smallest f g (is_marked (set marks i false)) n ≡ pairs_smallest f g (is_other marks i) n
  pairs_smallest-others f g n =
      pairs_smallest-ext f f g g (is_marked (set marks i false)) (is_other marks i) n (λ k l. refl) (λ k l. refl)
      (λ k l. is_other-is k)
