-- The step numbers that rows are tried with, marked one row at a time: what is marked stays so.
use Prim.Native.Nat.{ℕ, ◌<◌}
use mathlib.Core.Bool.{Bool, true, false}
use mathlib.Core.List.{List}
use mathlib.Core.Path.{◌≡◌}
use native.Mathlib.Omega.{arith}
use lib.ListN.{length}
use Rattle.counting.specs.Lists.{is_marked}
use Rattle.counting.specs.Sums.{any_to}
use Rattle.counting.proofs.tests.TestLaws.{any_to-false, true-false}
use Rattle.load.specs.Load.{most_steps}
use Rattle.plan.specs.inner.Searching.{NumbersIn}

module _ (finished : List ℕ) (opened : List Bool) (lowest : ℕ) where
  pub numbers-first : (numbers : List Bool) → length numbers ≡ most_steps
      → (lowest < most_steps → is_marked numbers lowest ≡ true) → NumbersIn finished opened lowest 0 numbers
  numbers-first numbers long here =
      record { long = long; of-lowest = here; of-open = λ i l. absurd (omega arith) }

  -- where no row has an open window, that is all
  pub numbers-all : (numbers : List Bool) (rows : ℕ) → any_to (is_marked opened) rows ≡ false
      → NumbersIn finished opened lowest 0 numbers → NumbersIn finished opened lowest rows numbers
  numbers-all numbers rows shut so =
      record {
        long = so.long;
        of-lowest = so.of-lowest;
        of-open = λ i l e. absurd (true-false (is_marked opened i) e (any_to-false (is_marked opened) rows shut i l));
      }
