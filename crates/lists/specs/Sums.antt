-- Sums of numbers: integers, which a record holds in 64 bits of two's complement. Assumes nothing: these are definitions.
use Rattle.std.specs.Prelude.{ℕ, ◌-◌, ◌%◌, Bool, false, eqb, ltb, ℤ, pos, negsuc}
use Rattle.words.specs.Words.{signed}

-- how many values 64 bits have, and half of them
abbrev pub long_values : ℕ
long_values = 0x1_0000_0000_0000_0000

abbrev pub half_longs : ℕ
half_longs = 0x8000_0000_0000_0000

-- a sum is from -2^63 to 2^63 - 1; negsuc n is -(n + 1)
abbrev pub sum_fits : ℤ → Bool
sum_fits (pos n) = ltb n half_longs
sum_fits (negsuc n) = ltb n half_longs

-- the 64 bits of a sum: of -(n + 1) they are those of n, each turned over
unfoldable pub sum_bits : ℤ → ℕ
sum_bits (pos n) = n % long_values
sum_bits (negsuc n) = long_values - 1 - n % long_values

-- the sum that 64 bits stand for
abbrev pub sum_in : ℕ → ℤ
sum_in bits = signed half_longs bits

abbrev pub is_zero : ℤ → Bool
is_zero (pos n) = eqb n 0
is_zero (negsuc n) = false
