-- The published hashes of "", "a", "foobar" and "foob", which is a word; the bytes of words; and ranks at both ends.
use Rattle.std.proofs.Common.{◌≡◌, [], ◌∷◌, map, refl}
use lib.Count.{count_leading_zeros}
use Rattle.register_hashes.specs.Hashes.{mixed, hash_of_bytes, bytes_of, hash_of, rank_in}

pub empty : hash_of_bytes [] ≡ 0xCBF29CE484222325
empty = refl

pub letter : hash_of_bytes (97 ∷ []) ≡ 0xAF63DC4C8601EC8C
unfolding mixed
letter = refl

pub foobar : hash_of_bytes (102 ∷ 111 ∷ 111 ∷ 98 ∷ 97 ∷ 114 ∷ []) ≡ 0x85944171F73967E8
unfolding mixed
foobar = refl

-- the four bytes of a word, low first, and on both sides of where each begins: no other divisors give these
pub four_of_word : map bytes_of (0x04030201 ∷ 0x000000FF ∷ 0x00000100 ∷ 0x0000FFFF ∷ 0x00010000 ∷ 0x00FFFFFF ∷ 0x01000000 ∷ 0xFFFFFFFF ∷ [])
    ≡ (1 ∷ 2 ∷ 3 ∷ 4 ∷ [])
    ∷ (255 ∷ 0 ∷ 0 ∷ 0 ∷ []) ∷ (0 ∷ 1 ∷ 0 ∷ 0 ∷ [])
    ∷ (255 ∷ 255 ∷ 0 ∷ 0 ∷ []) ∷ (0 ∷ 0 ∷ 1 ∷ 0 ∷ [])
    ∷ (255 ∷ 255 ∷ 255 ∷ 0 ∷ []) ∷ (0 ∷ 0 ∷ 0 ∷ 1 ∷ [])
    ∷ (255 ∷ 255 ∷ 255 ∷ 255 ∷ []) ∷ []
four_of_word = refl

-- the word whose bytes are "foob", and the words 65,536 and 16,777,216
pub words_hashed : map hash_of (0x626F6F66 ∷ 0x00010000 ∷ 0x01000000 ∷ []) ≡ 0xDD120E790C2512AF ∷ 0x4D22107F9DCB30CC ∷ 0x4D25757F9DCE1242 ∷ []
unfolding hash_of mixed
words_hashed = refl

-- all 60 bits are zero; the last of them is not; the first is not
pub all_zero : rank_in 0xF000000000000000 ≡ 61
unfolding rank_in count_leading_zeros
all_zero = refl

pub last_one : rank_in 0xF000000000000001 ≡ 60
unfolding rank_in count_leading_zeros
last_one = refl

pub first_one : rank_in 0x0800000000000000 ≡ 1
unfolding rank_in count_leading_zeros
first_one = refl
