-- The words of a file, one after the other, and the cases of its size.
use Prim.Native.Nat.{ℕ, suc, ◌+◌, ◌*◌, ◌/◌, ◌%◌, ◌≤◌, ◌<◌}
use native.Mathlib.Omega.{arith}
use native.Mathlib.Numerals.{add-one}
use mathlib.Core.Path.{◌≡◌, sym, ◌∙◌, ap}
use mathlib.Core.List.{List, [], ◌∷◌}
use lib.ListN.{length, get_or, take, drop, set, length-map, get_or-map}
use lib.Seq.{drop-cons, take-suc, take_all, length-take-le}
use borrow.Author.Tests.{le-leb, lt-leb, eq-eqb, ne_eqb}
use Rattle.sequences.specs.Sequences.{over}
use Rattle.sequences.proofs.Buffers.{over_next}
use Rattle.lists.specs.Gathering.{records_in}
use Rattle.lists.proofs.Records.{length_records}
use Rattle.sequences.proofs.Parts.{part_at}
use Rattle.std.proofs.Common.{Ok, Err}
use Rattle.print_reading.specs.Files.{word_bytes, little_endian, file_words, most_file_bytes, pos_at, osp_at, plan_at, rows_at}
use Rattle.print_reading.specs.Files.{counts_right, parts_in, layout_of, words_as, read_of}

-- ---- four bytes
-- the first elements from a place on
take_cons : (k at : ℕ) (xs : List ℕ) → at < length xs → take (suc k) (drop at xs) ≡ get_or xs at 0 ∷ take k (drop (suc at) xs)
take_cons k at xs h = rw (drop-cons xs at 0)

first_four : (at : ℕ) (xs : List ℕ) → at + 4 ≤ length xs
    → take 4 (drop at xs) ≡ get_or xs at 0 ∷ get_or xs (at + 1) 0 ∷ get_or xs (at + 2) 0 ∷ get_or xs (at + 3) 0 ∷ []
first_four at xs h =
    let one : suc at ≡ at + 1 = omega arith in
    let two : suc (at + 1) ≡ at + 2 = omega arith in
    let three : suc (at + 2) ≡ at + 3 = omega arith in
    let a = take_cons 3 at xs (omega arith) ∙ ap (λ (k : ℕ). get_or xs at 0 ∷ take 3 (drop k xs)) one in
    let b = take_cons 2 (at + 1) xs (omega arith) ∙ ap (λ (k : ℕ). get_or xs (at + 1) 0 ∷ take 2 (drop k xs)) two in
    let c = take_cons 1 (at + 2) xs (omega arith) ∙ ap (λ (k : ℕ). get_or xs (at + 2) 0 ∷ take 1 (drop k xs)) three in
    let d = take_cons 0 (at + 3) xs (omega arith) in
    a
    ∙ ap (λ (t : List ℕ). get_or xs at 0 ∷ t)
    (b ∙ ap (λ (t : List ℕ). get_or xs (at + 1) 0 ∷ t) (c ∙ ap (λ (t : List ℕ). get_or xs (at + 2) 0 ∷ t) d))

pub four_bytes : (at : ℕ) (xs : List ℕ) → at + word_bytes ≤ length xs
    → little_endian (take word_bytes (drop at xs))
    ≡ get_or xs at 0 + 256 * get_or xs (at + 1) 0 + 65536 * (get_or xs (at + 2) 0 + 256 * get_or xs (at + 3) 0)
unfolding little_endian
four_bytes at xs h =
    ap little_endian (first_four at xs h) ∙ omega arith

-- ---- the words
module _ (bytes : List ℕ) where
  pub length_words : length (file_words bytes) ≡ length bytes / word_bytes
  unfolding file_words
  length_words = length-map (records_in word_bytes bytes) little_endian ∙ length_records word_bytes bytes

  pub word_in : (i : ℕ) → i < length bytes / word_bytes
      → little_endian (take word_bytes (drop (i * word_bytes) bytes)) ≡ get_or (file_words bytes) i 0
  unfolding file_words little_endian records_in
  word_in i h =
      ap little_endian (sym (part_at word_bytes (length bytes / word_bytes) bytes i h))
      ∙ sym (get_or-map little_endian (records_in word_bytes bytes) i [])

-- words in front of a buffer: one more
pub over_more : (ws buffer : List ℕ) (i : ℕ) → i < length ws → length ws ≤ length buffer
    → set (over (take i ws) buffer) i (get_or ws i 0) ≡ over (take (i + 1) ws) buffer
over_more ws buffer i h l =
    let n : length (take i ws) ≡ i = length-take-le i ws (omega arith) in
    let a = get_or ws i 0 in
    ap (λ (k : ℕ). set (over (take i ws) buffer) k a) (sym n)
    ∙ over_next (take i ws) buffer a (omega arith)
    ∙ ap (λ (t : List ℕ). over t buffer) (sym (take-suc ws i 0 h) ∙ ap (λ (k : ℕ). take k ws) (sym (add-one i)))

pub over_all : (ws buffer : List ℕ) (i : ℕ) → length ws ≤ i → over (take i ws) buffer ≡ over ws buffer
over_all ws buffer i h = ap (λ (t : List ℕ). over t buffer) (take_all i ws h)

-- ---- where the parts begin
module _ (ws : List ℕ) where
  pub too_few : length ws < rows_at → Err 1 ≡ parts_in ws
  unfolding parts_in counts_right
  too_few h = rw (lt-leb rows_at (length ws) h)

  module _ (n : ℕ) (e : n ≡ get_or ws 0 0) (head : rows_at ≤ length ws) where
    pub too_short : length ws < plan_at n → Err 1 ≡ parts_in ws
    unfolding parts_in counts_right
    too_short h = rw (le-leb rows_at (length ws) head, ← e, lt-leb (plan_at n) (length ws) h)

    pub right_parts : plan_at n ≤ length ws → (pos osp plan count : ℕ)
        → pos ≡ pos_at n → osp ≡ osp_at n → plan ≡ plan_at n → count ≡ length ws
        → Ok (record { pos = pos; osp = osp; plan = plan; words = count }) ≡ parts_in ws
    unfolding parts_in counts_right
    right_parts h pos osp plan count p q r s = rw (le-leb rows_at (length ws) head, ← e, le-leb (plan_at n) (length ws) h, p, q, r, s)

-- ---- the file
module _ (bytes : List ℕ) where
  pub too_long : most_file_bytes < length bytes → Err 1 ≡ layout_of bytes
  unfolding layout_of
  too_long h = rw (lt-leb (length bytes) most_file_bytes h)

  pub not_whole : length bytes ≤ most_file_bytes → (length bytes % word_bytes ≡ 0 → ⊥) → Err 1 ≡ layout_of bytes
  unfolding layout_of
  not_whole short h = rw (le-leb (length bytes) most_file_bytes short, ne_eqb (length bytes % word_bytes) 0 h)

  pub whole : length bytes ≤ most_file_bytes → length bytes % word_bytes ≡ 0 → parts_in (file_words bytes) ≡ layout_of bytes
  unfolding layout_of
  whole short h = rw (le-leb (length bytes) most_file_bytes short, eq-eqb (length bytes % word_bytes) 0 h)

  -- the first word
  pub first_word : 1 ≤ length bytes / word_bytes → little_endian (take word_bytes (drop 0 bytes)) ≡ get_or (file_words bytes) 0 0
  first_word h = word_in bytes 0 (omega arith)

  module _ (words : List ℕ) where
    -- a refusal changes no word
    pub read_refused : (x : ℕ) → (read_of bytes words).answer ≡ Err x → (read_of bytes words).words ≡ words
    read_refused x e = ap (words_as bytes words) e
