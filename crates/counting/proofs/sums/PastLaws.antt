-- Past the end of a list stands what counts for nothing: a sum, and a largest, over as many places as a part of the
-- list has are those over all that were asked for.
use Rattle.std.proofs.Common.{ℕ, zero, suc, ◌+◌, ◌-◌, ◌≤◌, List, length, get_or, take, min}
use Rattle.std.proofs.Common.{◌≡◌, refl, sym, ◌∙◌, ap, arith}
use Rattle.std.proofs.lemmas.List.{get_or_past, length-take}
use Rattle.counting.specs.Sums.{sum_to, max_to}
use Rattle.counting.proofs.sums.SumLaws.{sum_to-none, sum_to-split, max_to-next}

module _ {A : Type 0} (f : A → ℕ) (z : A) (nothing : f z ≡ 0) (l : List A) where
  abbrev at : ℕ → ℕ
  at k = f (get_or l k z)

  none-past : (k : ℕ) → length l ≤ k → at k ≡ 0
  none-past k h = ap f (get_or_past l k z h) ∙ nothing

  pub sum_to-past : (n : ℕ) → sum_to at (length (take n l)) ≡ sum_to at n
  sum_to-past n =
      let m : ℕ = length (take n l) in
      let is : m ≡ min n (length l) = length-take n l in
      let none = sum_to-none (λ k. at (m + k)) (n - m) (λ k h. none-past (m + k) (omega (arith, is, h))) in
      let whole : m + (n - m) ≡ n = omega (arith, is) in
      sym (ap (sum_to at) (sym whole) ∙ sum_to-split at m (n - m) ∙ omega (arith, none))

  max_to-more : (m d : ℕ) → length l ≤ m → max_to at (m + d) ≡ max_to at m
  max_to-more m zero h = let e : m + 0 ≡ m = omega arith in ap (max_to at) e
  max_to-more m (suc d) h =
      let e : m + suc d ≡ m + d + 1 = omega arith in
      ap (max_to at) e
      ∙ omega (arith, max_to-next at (m + d), none-past (m + d) (omega arith), max_to-more m d h)

  pub max_to-past : (n : ℕ) → max_to at (length (take n l)) ≡ max_to at n
  max_to-past n = go (n - length l) (length (take n l)) (length-take n l) refl
    where
      go : (d m : ℕ) → m ≡ min n (length l) → d ≡ n - length l → max_to at m ≡ max_to at n
      go zero m is e = let same : m ≡ n = omega arith in ap (max_to at) same
      go (suc d) m is e =
          let whole : m + suc d ≡ n = omega arith in
          sym (max_to-more m (suc d) (omega arith)) ∙ ap (max_to at) whole
