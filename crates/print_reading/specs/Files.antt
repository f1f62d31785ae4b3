-- The turn printer's file: its words, the tests of its size, and where its parts begin. Assumes nothing: these are definitions.
use Rattle.std.specs.Prelude.{Result, Ok, Err, ℕ, ◌+◌, ◌*◌, ◌%◌, ◌≤◌, Bool, cond, ◌&&◌, List, [], ◌∷◌, map, eqb, leb, length, get_or}
use Rattle.sequences.specs.Sequences.{over}
use Rattle.tables.specs.Tables.{column_count}
use Rattle.lists.specs.Gathering.{records_in}
use Rattle.print_reading.specs.declared.FileParts.{FileParts}

-- ---- words
abbrev pub word_bytes : ℕ
word_bytes = 4

-- the number of some bytes, the low one first
unfoldable pub little_endian : List ℕ → ℕ
little_endian [] = 0
little_endian (b ∷ bs) = b + 256 * little_endian bs

-- the words of a file; bytes past the last whole word are in none
unfoldable pub file_words : List ℕ → List ℕ
file_words bytes = map little_endian (records_in word_bytes bytes)

-- ---- the parts of a file: row count, quantum, rows, POS, OSP, plan
abbrev pub most_file_bytes : ℕ
most_file_bytes = 65536

-- the row count and the quantum
abbrev pub row_count_in : List ℕ → ℕ
row_count_in words = get_or words 0 0

abbrev pub quantum_in : List ℕ → ℕ
quantum_in words = get_or words 1 0

-- the word where each part begins, of a file with `n` rows: the words of each row, then a row number of each in POS and in OSP
abbrev pub rows_at : ℕ
rows_at = 2

abbrev pub pos_at : ℕ → ℕ
pos_at n = rows_at + column_count * n

abbrev pub osp_at : ℕ → ℕ
osp_at n = rows_at + (column_count + 1) * n

abbrev pub plan_at : ℕ → ℕ
plan_at n = rows_at + (column_count + 2) * n

-- the parts of a file with `n` rows and `count` words; the plan is all that is left
abbrev pub parts_of : ℕ → ℕ → FileParts
parts_of n count = record { pos = pos_at n; osp = osp_at n; plan = plan_at n; words = count }

-- the parts follow each other
abbrev pub Laid : FileParts → Type 0
Laid p = (rows_at ≤ p.pos) × (p.pos ≤ p.osp) × (p.osp ≤ p.plan) × (p.plan ≤ p.words)

-- ---- the answer: where the parts begin, or refused by 1
-- words that are not fewer than their counts say
unfoldable pub counts_right : List ℕ → Bool
counts_right words = leb rows_at (length words) && leb (plan_at (row_count_in words)) (length words)

unfoldable pub parts_in : List ℕ → Result FileParts ℕ
parts_in words = cond (counts_right words) (Ok (parts_of (row_count_in words) (length words))) (Err 1)

-- a file that is not too long and in whole words
abbrev pub is_file_short : List ℕ → Bool
is_file_short bytes = leb (length bytes) most_file_bytes

abbrev pub is_whole : List ℕ → Bool
is_whole bytes = eqb (length bytes % word_bytes) 0

unfoldable pub layout_of : List ℕ → Result FileParts ℕ
layout_of bytes = cond (is_file_short bytes && is_whole bytes) (parts_in (file_words bytes)) (Err 1)

-- what reading a file answers, and the buffer of words at exit
pub record FileRead : Type 0 where
  pub answer : Result FileParts ℕ
  pub words : List ℕ

-- by the answer: the words of a file that is accepted are read, and a refusal leaves all as they were
abbrev pub words_as : List ℕ → List ℕ → Result FileParts ℕ → List ℕ
words_as bytes words (Ok p) = over (file_words bytes) words
words_as bytes words (Err x) = words

abbrev pub read_of : List ℕ → List ℕ → FileRead
read_of bytes words = record { answer = layout_of bytes; words = words_as bytes words (layout_of bytes) }
