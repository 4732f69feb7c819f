-- When the rows of a list are finished one after the other: no sooner where they are begun later, and no sooner than
-- what is left of them all takes. What stands behind them is begun then.
use Prim.Native.Nat.{ℕ, ◌+◌, ◌≤◌, max}
use mathlib.Core.Bool.{Bool, true, false, cond, ◌&&◌, and_assoc}
use mathlib.Core.List.{List, [], ◌∷◌, ◌++◌}
use mathlib.Core.Path.{◌≡◌, refl, ap, sym, ◌∙◌}
use native.Mathlib.Omega.{arith}
use borrow.Author.Tests.{leb-true}
use lib.Dec.{leb}
use Rattle.counting.specs.Sorting.{inserted}
use Rattle.counting.proofs.tests.TestLaws.{and_left, and_right}
use Rattle.counting.proofs.sorting.SortLaws.{total_in, Every, at-Every}
use Rattle.rules.specs.Plan.{Jobs, finish, in_time_by}
use Rattle.rules.proofs.plan.PlanLaws.{SameJob, EasierJob, in_time_by-sooner, in_time_by-next}

-- when the rows of a list are finished one after the other, begun at a moment
unfoldable pub end_by : Jobs → ℕ → List ℕ → ℕ
end_by jobs t [] = t
end_by jobs t (k ∷ rest) = end_by jobs (finish jobs t k) rest

-- when a window is finished behind the rows of a list, all begun at a moment: it goes on a wait after that moment, and
-- rest is what is left of it then
abbrev pub window_end : Jobs → ℕ → List ℕ → ℕ → ℕ → ℕ
window_end jobs t l wait rest = max (end_by jobs t l) (t + wait) + rest

module _ (a : Jobs) where
  pub end_by-none : (t : ℕ) → end_by a t [] ≡ t
  unfolding end_by
  end_by-none t = refl

  pub end_by-next : (t k : ℕ) (rest : List ℕ) → end_by a t (k ∷ rest) ≡ end_by a (finish a t k) rest
  unfolding end_by
  end_by-next t k rest = refl

  -- one list, and then the other
  pub in_time_by-append : (t : ℕ) (l m : List ℕ)
      → in_time_by a t (l ++ m) ≡ (in_time_by a t l && in_time_by a (end_by a t l) m)
  unfolding in_time_by end_by
  in_time_by-append t [] m = refl
  in_time_by-append t (k ∷ l) m =
      ap (λ p. leb (finish a t k) (a.due k) && p) (in_time_by-append (finish a t k) l m)
      ∙ sym (and_assoc (leb (finish a t k) (a.due k)) (in_time_by a (finish a t k) l)
      (in_time_by a (end_by a (finish a t k) l) m))

  pub end_by-mono : (t t' : ℕ) (l : List ℕ) → t ≤ t' → end_by a t l ≤ end_by a t' l
  unfolding end_by
  end_by-mono t t' [] h = h
  end_by-mono t t' (k ∷ l) h = end_by-mono (finish a t k) (finish a t' k) l (omega arith)

  pub window_end-mono : (t t' : ℕ) (l : List ℕ) (wait rest : ℕ) → t ≤ t'
      → window_end a t l wait rest ≤ window_end a t' l wait rest
  window_end-mono t t' l wait rest h = omega (arith, end_by-mono t t' l h)

  -- what is left of them all takes its time
  pub total_in-le : (t : ℕ) (l : List ℕ) → t + total_in a.left l ≤ end_by a t l
  unfolding end_by total_in
  total_in-le t [] = omega arith
  total_in-le t (k ∷ l) = omega (arith, total_in-le (finish a t k) l)

  -- what passes, passes when begun sooner
  pub in_time_by-begun : (t t' : ℕ) (l : List ℕ) → t' ≤ t → in_time_by a t l ≡ true → in_time_by a t' l ≡ true
  in_time_by-begun t t' l =
      in_time_by-sooner a a t t' l
      (at-Every (EasierJob a a) l 0
      (λ n h. record { release-le = omega arith; left_le = omega arith; due-le = omega arith }))

  -- wherever row i stands in the list, it is finished no sooner than if it were the first
  pub inserted-in-time : (before : ℕ → ℕ → Bool) (i t : ℕ) (l : List ℕ) → in_time_by a t (inserted before i l) ≡ true
      → finish a t i ≤ a.due i
  unfolding inserted
  inserted-in-time before i t [] p =
      leb-true (finish a t i) (a.due i)
      (and_left (leb (finish a t i) (a.due i)) (in_time_by a (finish a t i) []) (sym (in_time_by-next a t i []) ∙ p))
  inserted-in-time before i t (k ∷ l) p = go (before i k) (inserted-in-time before i (finish a t k) l) p
    where
      go : (b : Bool) → (in_time_by a (finish a t k) (inserted before i l) ≡ true → finish a (finish a t k) i ≤ a.due i)
          → in_time_by a t (cond b (i ∷ k ∷ l) (k ∷ inserted before i l)) ≡ true → finish a t i ≤ a.due i
      go true ih q =
          leb-true (finish a t i) (a.due i)
          (and_left (leb (finish a t i) (a.due i)) (in_time_by a (finish a t i) (k ∷ l))
          (sym (in_time_by-next a t i (k ∷ l)) ∙ q))
      go false ih q =
          omega (
            arith,
            ih (and_right (leb (finish a t k) (a.due k)) (in_time_by a (finish a t k) (inserted before i l))
                (sym (in_time_by-next a t k (inserted before i l)) ∙ q)),
          )

pub end_by-ext : (a b : Jobs) (t : ℕ) (l : List ℕ) → Every (SameJob a b) l → end_by a t l ≡ end_by b t l
unfolding end_by
end_by-ext a b t [] e = refl
end_by-ext a b t (k ∷ l) e =
    let same : finish a t k ≡ finish b t k = omega (arith, e.0.release-same, e.0.left-same) in
    rw (same, end_by-ext a b (finish b t k) l e.1)
