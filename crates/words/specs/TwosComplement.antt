-- "Little-endian two's complement": the word of bits in which a whole number is written.
use Rattle.std.specs.Prelude.{ℕ, suc, ◌-◌, ◌^◌, ℤ, pos, negsuc}

-- a whole number from -2 ^ (bits - 1) on and below 2 ^ (bits - 1), as a word of bits; negsuc n is
-- -(n + 1)
abbrev pub twos_complement : ℕ → ℤ → ℕ
twos_complement bits (pos n) = n
twos_complement bits (negsuc n) = 2 ^ bits - suc n
