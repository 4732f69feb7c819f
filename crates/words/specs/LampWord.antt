-- "A word with one bit per row for the lamps (bit 0 is row 1)": the word of the tests p 0, p 1, ..,
-- p (n - 1).
use Rattle.std.specs.Prelude.{ℕ, ◌*◌, ◌^◌, Bool}
use Rattle.counting.specs.Sums.{sum_to, bit}

-- the word whose bit i is set where p i holds, for i below n
abbrev pub word_of : (ℕ → Bool) → ℕ → ℕ
word_of p n = sum_to (λ i. bit (p i) * 2 ^ i) n
