-- Records as words: what is written is read back, record by record and list by list, with the sums that their 64 bits stand for; and words are
-- written back as they were read.
use Prim.Native.Nat.{ℕ, zero, suc, ◌+◌, ◌/◌, ◌%◌, ◌≤◌, ◌<◌}
use native.Mathlib.Omega.{arith}
use native.Mathlib.Decide.{dec_lt}
use mathlib.Core.Path.{◌≡◌, refl, sym, ◌∙◌, ap, ap₂}
use mathlib.Core.List.{List, [], ◌∷◌, ◌++◌, map, flatten}
use lib.ListN.{length, get_or, take, drop, length-append, length-take, drop_of_length-le, take-append-drop, get_or-eq_default}
use lib.Seq.{take_at, drop-cons, get_or-append-add, get_or-take, get_or-drop, length-take-le}
use Rattle.sequences.specs.Sequences.{parts}
use Rattle.lists.specs.Groups.{Group, totals_width, word_values, two_words, pair_at, group_words, group_in}
use Rattle.lists.specs.Gathering.{records_in, groups_in}
use Rattle.lists.specs.Sums.{sum_bits, sum_in}
use Rattle.sequences.proofs.Each.{Each}
use Rattle.lists.proofs.Sums.{bits_in}
use Rattle.lists.proofs.Records.{Wide, records_flatten, flatten_records, wide_records}

-- the words after the keys
abbrev total_words : Group → List ℕ
total_words g = two_words g.rows ++ (two_words g.numbers ++ (two_words (sum_bits g.sum) ++ (g.least ∷ g.greatest ∷ [])))

pub length_words : (g : Group) → length (group_words g) ≡ length g.keys + totals_width
unfolding group_words
length_words g = length-append g.keys (total_words g)

-- the word with a number among those after the keys
after_keys : (keys rest : List ℕ) (n i j : ℕ) → length keys ≡ n → j ≡ n + i → get_or (keys ++ rest) j 0 ≡ get_or rest i 0
after_keys keys rest n i j h e =
    ap (λ k. get_or (keys ++ rest) k 0) (let p : j ≡ length keys + i = omega arith in p) ∙ get_or-append-add keys rest i 0

-- ---- one record
-- a record with the sum that the bits of its sum stand for
abbrev pub wrapped : Group → Group
wrapped g =
    record {
      keys = g.keys;
      rows = g.rows;
      numbers = g.numbers;
      sum = sum_in (sum_bits g.sum);
      least = g.least;
      greatest = g.greatest;
    }

pub group_in_words : (n : ℕ) (g : Group) → length g.keys ≡ n → group_in n (group_words g) ≡ wrapped g
unfolding group_in group_words
group_in_words n g h =
    let at : (i j : ℕ) → j ≡ n + i → get_or (g.keys ++ total_words g) j 0 ≡ get_or (total_words g) i 0 =
    λ i j. after_keys g.keys (total_words g) n i j h in
    let a0 = at 0 n (omega arith) in
    let a1 = at 1 (suc n) (omega arith) in
    let a2 = at 2 (n + 2) (omega arith) in
    let a3 = at 3 (suc (n + 2)) (omega arith) in
    let a4 = at 4 (n + 4) (omega arith) in
    let a5 = at 5 (suc (n + 4)) (omega arith) in
    let a6 = at 6 (n + 6) (omega arith) in
    let a7 = at 7 (n + 7) (omega arith) in
    let k : take n (g.keys ++ total_words g) ≡ g.keys = take_at g.keys (total_words g) n h in
    let c : pair_at (g.keys ++ total_words g) n ≡ g.rows = omega arith in
    let m : pair_at (g.keys ++ total_words g) (n + 2) ≡ g.numbers = omega arith in
    let s : sum_in (pair_at (g.keys ++ total_words g) (n + 4)) ≡ sum_in (sum_bits g.sum) =
    ap sum_in (let z : pair_at (g.keys ++ total_words g) (n + 4) ≡ sum_bits g.sum = omega arith in z) in
    λ i. record { keys = k i; rows = c i; numbers = m i; sum = s i; least = a6 i; greatest = a7 i }

-- each word is one of 32 bits
abbrev pub Words : List ℕ → Type 0
Words ws = (i : ℕ) → get_or ws i 0 < word_values

pub words_drop : (n : ℕ) (ws : List ℕ) → Words ws → Words (drop n ws)
words_drop n ws b i = let e = get_or-drop n ws i 0 in let l = b (n + i) in omega arith

pub words_take : (n : ℕ) (ws : List ℕ) → Words ws → Words (take n ws)
words_take n ws b i =
    elim (dec_lt i n) [
      | yes h ↦ omega (arith, get_or-take n ws i 0 h, b i)
      | no h ↦ omega (arith, get_or-eq_default (take n ws) 0 {n = i} (let e = length-take n ws in omega arith))
    ]

-- the words from a number on, one by one
next_word : (ws : List ℕ) (i j : ℕ) → i < length ws → j ≡ suc i → drop i ws ≡ get_or ws i 0 ∷ drop j ws
next_word ws i j l e = drop-cons ws i 0 l ∙ ap (λ k. get_or ws i 0 ∷ drop k ws) (sym e)

last_words : (n : ℕ) (ws : List ℕ) → length ws ≡ n + totals_width
    → drop n ws
    ≡ get_or ws n 0 ∷ get_or ws (suc n) 0 ∷ get_or ws (n + 2) 0 ∷ get_or ws (suc (n + 2)) 0
    ∷ get_or ws (n + 4) 0 ∷ get_or ws (suc (n + 4)) 0 ∷ get_or ws (n + 6) 0 ∷ get_or ws (n + 7) 0 ∷ []
last_words n ws h =
    rw (
      next_word ws n (suc n) (omega arith) refl,
      next_word ws (suc n) (n + 2) (omega arith) (omega arith),
      next_word ws (n + 2) (suc (n + 2)) (omega arith) refl,
      next_word ws (suc (n + 2)) (n + 4) (omega arith) (omega arith),
      next_word ws (n + 4) (suc (n + 4)) (omega arith) refl,
      next_word ws (suc (n + 4)) (n + 6) (omega arith) (omega arith),
      next_word ws (n + 6) (n + 7) (omega arith) (omega arith),
      next_word ws (n + 7) (n + 8) (omega arith) (omega arith),
      drop_of_length-le ws {i = n + 8} (omega arith),
    )

pub words_in_group : (n : ℕ) (ws : List ℕ) → length ws ≡ n + totals_width → Words ws → group_words (group_in n ws) ≡ ws
unfolding group_words group_in
words_in_group n ws h b =
    let low : (i : ℕ) → pair_at ws i % word_values ≡ get_or ws i 0 = λ i. (let l = b i in omega arith) in
    let high : (i : ℕ) → pair_at ws i / word_values ≡ get_or ws (suc i) 0 = λ i. (let l = b i in omega arith) in
    let sum : sum_bits (sum_in (pair_at ws (n + 4))) ≡ pair_at ws (n + 4) =
    bits_in (pair_at ws (n + 4)) ∙ (let l = b (n + 4) in let k = b (suc (n + 4)) in omega arith) in
    rw (low n, high n, low (n + 2), high (n + 2), sum, low (n + 4), high (n + 4), ← last_words n ws h) (take-append-drop n ws)

-- ---- lists of records
-- records that have n keys each
abbrev pub HaveKeys : ℕ → List Group → Type 0
HaveKeys n gs = Each (λ (g : Group). length g.keys ≡ n) gs

pub wide_words_lem : (n : ℕ) (gs : List Group) → HaveKeys n gs → Wide (n + totals_width) (map group_words gs)
wide_words_lem n [] h = tt
wide_words_lem n (g ∷ gs) h = (length_words g ∙ ap (λ k. k + totals_width) h.0, wide_words_lem n gs h.1)

read_each : (n : ℕ) (gs : List Group) → HaveKeys n gs → map (group_in n) (map group_words gs) ≡ map wrapped gs
read_each n [] h = refl
read_each n (g ∷ gs) h = ap₂ ◌∷◌ (group_in_words n g h.0) (read_each n gs h.1)

pub groups_in_words : (vs : List ℕ) (gs : List Group) → HaveKeys (length vs) gs
    → groups_in vs (flatten (map group_words gs)) ≡ map wrapped gs
groups_in_words vs gs h =
    ap (map (group_in (length vs)))
    (records_flatten (length vs + totals_width) (omega arith) (map group_words gs) (wide_words_lem (length vs) gs h))
    ∙ read_each (length vs) gs h

-- records that are read have their keys
pub keys_in_lem : (n : ℕ) (ws : List ℕ) → n ≤ length ws → length (group_in n ws).keys ≡ n
unfolding group_in
keys_in_lem n ws h = length-take-le n ws h

read_have : (n : ℕ) (xs : List (List ℕ)) → Wide (n + totals_width) xs → HaveKeys n (map (group_in n) xs)
read_have n [] h = tt
read_have n (x ∷ xs) h = (keys_in_lem n x (let e = h.0 in omega arith), read_have n xs h.1)

pub have_keys_in : (vs ws : List ℕ) → HaveKeys (length vs) (groups_in vs ws)
have_keys_in vs ws = read_have (length vs) (records_in (length vs + totals_width) ws) (wide_records (length vs + totals_width) ws)

words_parts : (w n : ℕ) (ws : List ℕ) → Words ws → Each Words (parts w n ws)
unfolding parts
words_parts w zero ws b = tt
words_parts w (suc n) ws b = ((λ i. words_take w ws b i), words_parts w n (drop w ws) (λ i. words_drop w ws b i))

write_each : (n : ℕ) (xs : List (List ℕ)) → Wide (n + totals_width) xs → Each Words xs → map group_words (map (group_in n) xs) ≡ xs
write_each n [] h b = refl
write_each n (x ∷ xs) h b = ap₂ ◌∷◌ (words_in_group n x h.0 b.0) (write_each n xs h.1 b.1)

-- words of whole records are written back as they were read
pub words_in_groups : (vs ws : List ℕ) → length ws % (length vs + totals_width) ≡ 0 → Words ws
    → flatten (map group_words (groups_in vs ws)) ≡ ws
unfolding records_in
words_in_groups vs ws h b =
    let w = length vs + totals_width in
    ap flatten (write_each (length vs) (records_in w ws) (wide_records w ws) (words_parts w (length ws / w) ws b))
    ∙ flatten_records w ws h
