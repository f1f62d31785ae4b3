-- 64-bit FNV-1a of a word's four bytes, which of 16 registers a hash picks and what it gives that register. Assumes nothing: these are
-- definitions.
use Rattle.std.specs.Prelude.{ℕ, ◌+◌, ◌*◌, ◌/◌, ◌%◌, ◌^◌, List, [], ◌∷◌, bit_xor}
use mathlib.Core.List.{foldl}
use Rattle.std.specs.Int.Count.{count_leading_zeros}

abbrev pub offset_basis : ℕ
offset_basis = 14695981039346656037

abbrev pub prime : ℕ
prime = 1099511628211

-- a hash with one byte more: exclusive-or, then multiply
unfoldable pub mixed : ℕ → ℕ → ℕ
mixed hash byte = (bit_xor hash byte * prime) % 2 ^ 64

-- the hash of any bytes
abbrev pub hash_of_bytes : List ℕ → ℕ
hash_of_bytes bytes = foldl mixed offset_basis bytes

-- the four bytes of a word, low first
abbrev pub bytes_of : ℕ → List ℕ
bytes_of w = w % 0x100 ∷ w / 0x100 % 0x100 ∷ w / 0x1_0000 % 0x100 ∷ w / 0x100_0000 % 0x100 ∷ []

unfoldable pub hash_of : ℕ → ℕ
hash_of w = hash_of_bytes (bytes_of w)

-- the top four bits pick the register
abbrev pub picked_by : ℕ → ℕ
picked_by hash = hash / 2 ^ 60

-- one more than the zeros leading the other 60 bits: 61 if all are zero
unfoldable pub rank_in : ℕ → ℕ
rank_in hash = 1 + count_leading_zeros 60 (hash % 2 ^ 60)
