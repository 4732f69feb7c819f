-- With which numbers a call can refuse: where each test of a list gives one of some numbers, so does the first that is
-- met, and so does the first finding of several. The definitions are lists of tests, so that each list is decided by
-- computing.
use Prim.Native.Nat.{ℕ}
use mathlib.Core.Bool.{Bool, true, false, ◌&&◌, ◌||◌}
use mathlib.Core.List.{List, [], ◌∷◌}
use mathlib.Core.Path.{◌≡◌, refl, sym, subst}
use lib.Dec.{eqb}
use borrow.Author.Tests.{eqb-true}
use Rattle.counting.specs.Lists.{any_in}
use Rattle.counting.proofs.tests.TestLaws.{and_left, and_right, true-false}
use Rattle.refusals.specs.declared.Refusal.{Refusal}
use Rattle.refusals.specs.Checked.{Checked}
use Rattle.std.specs.Prelude.{Ok}
use Rattle.refusals.specs.Refusals.{number_given}
use Rattle.refusals.specs.FirstMet.{first_met, and_then, first_fault_to}
use Rattle.refusals.proofs.FoundLaws.{
  each_passes,
  Passes,
  first_met-passes,
  and_then-passes,
  last-passes,
  first_fault_to-passes,
}
use Rattle.demands.specs.NumberLists.{OneOf}

-- what a check finds is Good, or its number is one of these
abbrev pub gives : List ℕ → Checked → Bool
gives numbers found = any_in (eqb (number_given found)) (0 ∷ numbers)

-- the same as a fact
abbrev pub Gives : List ℕ → Checked → Type 0
Gives numbers = Passes (gives numbers)

module _ (numbers : List ℕ) where
  good-gives : Gives numbers (Ok tt)
  unfolding any_in
  good-gives = record { passes = refl }

  pub tests-give : (ts : List (Bool × Refusal)) → each_passes (gives numbers) ts ≡ true → Gives numbers (first_met ts)
  tests-give = first_met-passes (gives numbers) good-gives

  pub then-gives : (a b : Checked) → Gives numbers a → Gives numbers b → Gives numbers (and_then a b)
  then-gives a b p q = and_then-passes (gives numbers) good-gives a b p (λ e. q)

  pub last-gives : (a : Checked) → Gives numbers a → Gives numbers (and_then a (Ok tt))
  last-gives = last-passes (gives numbers) good-gives

  pub faults_to-give : (f : ℕ → Checked) → ((i : ℕ) → Gives numbers (f i)) → (n : ℕ)
      → Gives numbers (first_fault_to f n)
  faults_to-give f each n = first_fault_to-passes (gives numbers) good-gives f n (λ i l. each i)

-- numbers that are all among others
abbrev pub each_among : List ℕ → List ℕ → Bool
each_among others [] = true
each_among others (a ∷ rest) = any_in (eqb a) (0 ∷ others) && each_among others rest

pub among : (numbers others : List ℕ) → each_among others numbers ≡ true → (n : ℕ) → any_in (eqb n) numbers ≡ true
    → OneOf others n
unfolding any_in
among [] others each n h = absurd (true-false false h refl)
among (a ∷ rest) others each n h =
    go (eqb n a) refl h (among rest others (and_right own (each_among others rest) each) n)
  where
    own : Bool
    own = any_in (eqb a) (0 ∷ others)

    go : (b : Bool) → eqb n a ≡ b → (b || any_in (eqb n) rest) ≡ true → (any_in (eqb n) rest ≡ true → OneOf others n)
        → OneOf others n
    go true q p later =
        subst (OneOf others) (sym (eqb-true n a q)) (and_left own (each_among others rest) each)
    go false q p later = later p

-- one of some numbers is one of more
pub OneOf-more : (numbers others : List ℕ) → each_among others numbers ≡ true → (n : ℕ) → OneOf numbers n
    → OneOf others n
unfolding any_in
OneOf-more numbers others each = among (0 ∷ numbers) others each

pub Gives-more : (numbers others : List ℕ) → each_among others numbers ≡ true → (found : Checked) → Gives numbers found
    → Gives others found
Gives-more numbers others each found g =
    record { passes = OneOf-more numbers others each (number_given found) g.passes }
