-- The sizes of a file hold: the short ones by computation, the longest by their lengths and their first word.
use Prim.Native.Nat.{ℕ, ◌*◌, ◌≤◌, ◌<◌}
use native.Mathlib.Omega.{arith}
use mathlib.Core.Path.{◌≡◌, refl, sym, ◌∙◌}
use mathlib.Core.List.{List}
use lib.ListN.{length, get_or, take, length-replicate}
use Rattle.sequences.specs.Sequences.{parts}
use Rattle.lists.specs.Gathering.{records_in}
use Rattle.std.proofs.Common.{Ok, Err}
use Rattle.print_reading.specs.Files.{word_bytes, little_endian, file_words, most_file_bytes, plan_at, parts_of, counts_right, parts_in, layout_of}
use Rattle.print_reading.specs.FileSizes.{zero_bytes, longest_with, FileSizesWorked}
use Rattle.print_reading.proofs.FileWords.{length_words, too_short, right_parts, too_long, whole, first_word}

-- a file of `words` words, the first of which is `n`
module _ (bytes : List ℕ) (n words : ℕ) (first : n ≡ little_endian (take word_bytes bytes)) (counted : length bytes ≡ words * word_bytes)
    (some : 2 ≤ words) (short : words * word_bytes ≤ most_file_bytes) where
  count : words ≡ length (file_words bytes)
  count = omega (arith, length_words bytes, counted)

  headed : n ≡ get_or (file_words bytes) 0 0
  headed = first ∙ first_word bytes (omega (arith, counted))

  read : parts_in (file_words bytes) ≡ layout_of bytes
  read = whole bytes (omega (arith, counted)) (omega (arith, counted))

  laid : plan_at n ≤ words → layout_of bytes ≡ Ok (parts_of n words)
  laid h = sym (right_parts (file_words bytes) n headed (omega (arith, count)) (omega (arith, count)) _ _ _ _ refl refl refl count ∙ read)

  past : words < plan_at n → layout_of bytes ≡ Err 1
  past h = sym (too_short (file_words bytes) n headed (omega (arith, count)) (omega (arith, count)) ∙ read)

longer : (n : ℕ) → most_file_bytes < n → layout_of (zero_bytes n) ≡ Err 1
longer n h = sym (too_long (zero_bytes n) (omega (arith, length-replicate {A = ℕ} n 0)))

pub file_sizes : FileSizesWorked
unfolding parts records_in little_endian file_words counts_right parts_in layout_of
file_sizes =
    let n = length-replicate {A = ℕ} 65536 0 in
    let m = length-replicate {A = ℕ} 65534 0 in
    record {
      longest = laid (zero_bytes 65536) 0 16384 refl n (omega arith) (omega arith) (omega arith);
      byte_longer = longer 65537 (omega arith);
      word_longer = longer 65540 (omega arith);
      most_rows_fact = laid (longest_with 0xAA 0x0A) 2730 16384 refl (omega (arith, m)) (omega arith) (omega arith) (omega arith);
      row_more = past (longest_with 0xAB 0x0A) 2731 16384 refl (omega (arith, m)) (omega arith) (omega arith) (omega arith);
      shortest = refl;
      byte_shorter = refl;
      word_shorter = refl;
      no_bytes = refl;
      byte_behind = refl;
      half_behind = refl;
    }
