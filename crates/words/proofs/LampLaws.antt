-- The lamp word of the tests p 0, .., p (n - 1): it is below 2 ^ n, and its ones are as many as the tests that hold,
-- for any n.
use Prim.Native.Nat.{ℕ, zero, suc, ◌+◌, ◌*◌, ◌^◌, ◌<◌}
use mathlib.Core.Bool.{Bool, true, false}
use mathlib.Core.Path.{◌≡◌, refl, ap, ap₂, ◌∙◌}
use native.Mathlib.Nat.{pow-suc, add_comm}
use native.Mathlib.Omega.{arith}
use lib.Count.{ones, ones_cat}
use Rattle.counting.specs.Sums.{sum_to, bit, count_to}
use Rattle.words.specs.LampWord.{word_of}

pub word_of-lt : (p : ℕ → Bool) (n : ℕ) → word_of p n < 2 ^ n
unfolding sum_to
word_of-lt p zero = omega arith
word_of-lt p (suc n) = below (p n) (word_of-lt p n)
  where
    below : (b : Bool) → word_of p n < 2 ^ n → word_of p n + bit b * 2 ^ n < 2 ^ suc n
    below true h = rw (pow-suc 2 n) (omega arith)
    below false h = rw (pow-suc 2 n) (omega arith)

ones_bit : (b : Bool) → ones (bit b) ≡ bit b
unfolding ones
ones_bit true = refl
ones_bit false = refl

pub word_of-ones : (p : ℕ → Bool) (n : ℕ) → ones (word_of p n) ≡ count_to p n
unfolding sum_to ones
word_of-ones p zero = refl
word_of-ones p (suc n) =
    ap ones (add_comm (word_of p n) (bit (p n) * 2 ^ n))
    ∙ ones_cat n (bit (p n)) (word_of p n) (word_of-lt p n)
    ∙ ap₂ ◌+◌ (ones_bit (p n)) (word_of-ones p n)
    ∙ add_comm (bit (p n)) (count_to p n)
