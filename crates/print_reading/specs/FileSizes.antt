-- The size of the turn printer's file in literal bytes, on both sides of each limit. Assumes nothing: these are definitions.
use Rattle.std.specs.Prelude.{Result, Ok, Err, ℕ, ◌≡◌, List, [], ◌∷◌, replicate}
use Rattle.print_reading.specs.declared.FileParts.{FileParts}
use Rattle.print_reading.specs.Files.{layout_of}

-- the words where POS, OSP and the plan begin, and those of the file
abbrev pub laid_at : ℕ → ℕ → ℕ → ℕ → Result FileParts ℕ
laid_at pos osp plan words = Ok (record { pos = pos; osp = osp; plan = plan; words = words })

-- `n` bytes, all 0: a file of no rows
abbrev pub zero_bytes : ℕ → List ℕ
zero_bytes n = replicate n 0

-- 65,536 bytes whose row count is of these two
abbrev pub longest_with : ℕ → ℕ → List ℕ
longest_with low high = low ∷ high ∷ replicate 65534 0

pub record FileSizesWorked : Type 0 where
  -- 65,536 bytes are read; a byte more and a word more are refused by 1
  pub longest : layout_of (zero_bytes 65536) ≡ laid_at 2 2 2 16384
  pub byte_longer : layout_of (zero_bytes 65537) ≡ Err 1
  pub word_longer : layout_of (zero_bytes 65540) ≡ Err 1
  -- 65,536 bytes have room for 2,730 rows, and for no more
  pub most_rows_fact : layout_of (longest_with 0xAA 0x0A) ≡ laid_at 10922 13652 16382 16384
  pub row_more : layout_of (longest_with 0xAB 0x0A) ≡ Err 1
  -- two words are the least; bytes that are no whole words are refused
  pub shortest : layout_of (zero_bytes 8) ≡ laid_at 2 2 2 2
  pub byte_shorter : layout_of (zero_bytes 7) ≡ Err 1
  pub word_shorter : layout_of (zero_bytes 4) ≡ Err 1
  pub no_bytes : layout_of [] ≡ Err 1
  pub byte_behind : layout_of (zero_bytes 9) ≡ Err 1
  pub half_behind : layout_of (zero_bytes 10) ≡ Err 1
