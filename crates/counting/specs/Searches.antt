-- "The first that", "the lowest": searches over the numbers below n, and over a list.
use Rattle.std.specs.Prelude.{ℕ, zero, suc, Bool, true, false, cond, List, [], ◌∷◌, eqb}
use Rattle.counting.specs.Sums.{max_to}

-- the first number below n that has p, and n where none has
unfoldable pub first_to : (ℕ → Bool) → ℕ → ℕ
first_to p zero = 0
first_to p (suc n) = elim (p 0) [ true ↦ 0 | false ↦ suc (first_to (λ k. p (suc k)) n) ]

-- where the largest of f 0 .. f (n - 1) stands first, counted from 1, and 0 where all are 0
unfoldable pub first_largest : (ℕ → ℕ) → ℕ → ℕ
first_largest f n =
    cond (eqb (max_to f n) 0) 0 (suc (first_to (λ i. eqb (f i) (max_to f n)) n))

-- a number that was looked for
pub data Found : Type 0 where
  at : ℕ → Found
  none : Found

-- whether a number was found
abbrev pub is_found : Found → Bool
is_found (at i) = true
is_found none = false

-- the first member of a list that has p
unfoldable pub found : (ℕ → Bool) → List ℕ → Found
found p [] = none
found p (a ∷ rest) = elim (p a) [ true ↦ at a | false ↦ found p rest ]
