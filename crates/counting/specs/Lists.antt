-- Lists made from the numbers 0 .. n - 1, sums, tests and choices over a list, and what stands at a
-- place of one.
use Rattle.std.specs.Prelude.{ℕ, zero, suc, ◌+◌, ◌-◌, Bool, false, cond, ◌||◌, List, [], ◌∷◌, ◌++◌}
use Rattle.std.specs.Prelude.{get_or, replicate, eqb}

module _ {A : Type 0} where
  -- f 0 ++ f 1 ++ .. ++ f (n - 1)
  unfoldable pub join_to : (ℕ → List A) → ℕ → List A
  join_to f zero = []
  join_to f (suc n) = join_to f n ++ f n

  -- f 0, f 1, .., f (n - 1)
  abbrev pub list_to : (ℕ → A) → ℕ → List A
  list_to f n = join_to (λ i. f i ∷ []) n

  -- f 0, .., f (n - 1), and z in the places from n on and below the last
  abbrev pub filled : (ℕ → A) → ℕ → ℕ → A → List A
  filled f n last z = list_to f n ++ replicate (last - n) z

  -- f a ++ f b ++ .. for the members a, b, .. of a list
  unfoldable pub join_in : {B : Type 0} → (B → List A) → List B → List A
  join_in f [] = []
  join_in f (b ∷ bs) = f b ++ join_in f bs

  -- some member has p
  unfoldable pub any_in : (A → Bool) → List A → Bool
  any_in p [] = false
  any_in p (a ∷ rest) = p a || any_in p rest

  -- the members that have p, in their order
  unfoldable pub keep_in : (A → Bool) → List A → List A
  keep_in p [] = []
  keep_in p (a ∷ rest) = cond (p a) (a ∷ keep_in p rest) (keep_in p rest)

  -- the first member that has p, and z where none has
  unfoldable pub first_in : (A → Bool) → A → List A → A
  first_in p z [] = z
  first_in p z (a ∷ rest) = cond (p a) a (first_in p z rest)

-- the sum of a list
unfoldable pub sum_in : List ℕ → ℕ
sum_in [] = 0
sum_in (a ∷ rest) = a + sum_in rest

-- the member at a place of a list of numbers, and 0 past its end
abbrev pub member_at : List ℕ → ℕ → ℕ
member_at numbers i = get_or numbers i 0

-- whether a list marks a place; past its end none is marked
abbrev pub is_marked : List Bool → ℕ → Bool
is_marked marks i = get_or marks i false

-- the numbers below n that have p, rising
abbrev pub numbers_where : (ℕ → Bool) → ℕ → List ℕ
numbers_where p n = join_to (λ i. cond (p i) (i ∷ []) []) n

-- a function changed at one number
unfoldable pub changed : (ℕ → ℕ) → ℕ → ℕ → ℕ → ℕ
changed f k v i = cond (eqb i k) v (f i)
