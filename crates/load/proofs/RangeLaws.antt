-- A number is not outside its range exactly when it is at least the least and at most the most.
use Prim.Native.Nat.{ℕ, ◌≤◌}
use mathlib.Core.Bool.{false}
use mathlib.Core.Path.{◌≡◌}
use borrow.Author.Tests.{ltb-false, le-ltb}
use lib.Dec.{ltb}
use Rattle.counting.proofs.tests.TestLaws.{or_left, or_right, or-neither}
use Rattle.load.specs.Faults.{outside}

module _ (least most n : ℕ) where
  pub outside-least : outside least most n ≡ false → least ≤ n
  outside-least e = ltb-false n least (or_left (ltb n least) (ltb most n) e)

  pub outside-most : outside least most n ≡ false → n ≤ most
  outside-most e = ltb-false most n (or_right (ltb n least) (ltb most n) e)

  pub within-outside : least ≤ n → n ≤ most → outside least most n ≡ false
  within-outside l m = or-neither (ltb n least) (ltb most n) (le-ltb n least l) (le-ltb most n m)
