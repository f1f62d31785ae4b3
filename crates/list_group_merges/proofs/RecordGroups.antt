-- Records of a list of words, one by one: the groups that they stand for, their words, and two of them together.
use Prim.Native.Nat.{ℕ, zero, suc, ◌+◌, ◌*◌, ◌-◌, ◌/◌, ◌≤◌, ◌<◌}
use native.Mathlib.Omega.{arith}
use native.Mathlib.Nat.{suc-mul, div-mul-le_self}
use mathlib.Core.Path.{◌≡◌, refl, sym, ◌∙◌, ap, ap₂}
use mathlib.Core.Bool.{true}
use mathlib.Core.List.{List, [], ◌∷◌, ◌++◌, map, map-append}
use lib.ListN.{length, take, drop, length-drop}
use lib.Seq.{take-take, drop-drop, length-take-le}
use borrow.Author.Tests.{lt-ltb}
use Rattle.sequences.specs.Sequences.{parts}
use Rattle.lists.specs.Groups.{Group, totals_width, pair_at, together, group_words, group_in}
use Rattle.lists.specs.Gathering.{records_in, groups_in, group_fits}
use Rattle.lists.specs.Sums.{long_values}
use Rattle.lists.proofs.Sums.{in_fits, bits_both}
use Rattle.list_group_totals.specs.GroupTotals.{totals_in}
use Rattle.list_group_merges.specs.MergingBackwards.{record_at, join_words, join_fits}
use Rattle.lists.proofs.GroupWords.{Words, words_take, words_drop, words_in_group}
use Rattle.list_group_totals.proofs.TotalsWords.{group_split, part_rest}
use Rattle.list_group_merges.proofs.BackWalks.{first}

-- ---- parts of a list, one more at the end, and of its first words
parts_last : (w n : ℕ) (ws : List ℕ) → parts w (suc n) ws ≡ parts w n ws ++ (take w (drop (n * w) ws) ∷ [])
unfolding parts
parts_last w zero ws = ap (λ k. take w (drop k ws) ∷ []) (let z : 0 ≡ 0 * w = omega arith in z)
parts_last w (suc n) ws =
    ap (λ l. take w ws ∷ l) (parts_last w n (drop w ws))
    ∙ ap (λ l. take w ws ∷ (parts w n (drop w ws) ++ (take w l ∷ [])))
    (drop-drop (n * w) w ws ∙ ap (λ k. drop k ws) (let s = suc-mul n w in let z : w + n * w ≡ suc n * w = omega arith in z))

parts_front : (w n k : ℕ) (ws : List ℕ) → n * w ≤ k → k ≤ length ws → parts w n (take k ws) ≡ parts w n ws
unfolding parts
parts_front w zero k ws h l = refl
parts_front w (suc n) k ws h l =
    let s = suc-mul n w in
    let d = length-drop w ws in
    ap₂ ◌∷◌ (take-take w k ws (omega arith))
    (ap (parts w n) (ap (λ i. drop w (take i ws)) (let z : k ≡ w + (k - w) = omega arith in z) ∙ part_rest w (k - w) ws (omega arith))
    ∙ parts_front w n (k - w) (drop w ws) (omega arith) (omega arith))

-- the group of the record with a number
abbrev pub group_at : ℕ → List ℕ → ℕ → Group
group_at g ws p = group_in g (record_at g ws (p * (g + totals_width)))

first_parts : (g n : ℕ) (ws : List ℕ) → first (group_at g ws) n ≡ map (group_in g) (parts (g + totals_width) n ws)
unfolding first parts
first_parts g zero ws = refl
first_parts g (suc n) ws =
    ap (λ l. l ++ (group_at g ws n ∷ [])) (first_parts g n ws)
    ∙ sym (ap (map (group_in g)) (parts_last (g + totals_width) n ws)
    ∙ map-append (group_in g) (parts (g + totals_width) n ws) (record_at g ws (n * (g + totals_width)) ∷ []))

-- the groups of the first words of a buffer, read from the buffer
pub groups_first : (vs ws : List ℕ) (k : ℕ) → k ≤ length ws
    → groups_in vs (take k ws) ≡ first (group_at (length vs) ws) (k / (length vs + totals_width))
unfolding records_in
groups_first vs ws k h =
    let g = length vs in
    let w = g + totals_width in
    ap (λ n. map (group_in g) (parts w (n / w) (take k ws))) (length-take-le k ws h)
    ∙ ap (map (group_in g)) (parts_front w (k / w) k ws (div-mul-le_self k w) h)
    ∙ sym (first_parts g (k / w) ws)

pub groups_all : (vs ws : List ℕ) → groups_in vs ws ≡ first (group_at (length vs) ws) (length ws / (length vs + totals_width))
unfolding records_in
groups_all vs ws = sym (first_parts (length vs) (length ws / (length vs + totals_width)) ws)

-- ---- one record
module _ (g : ℕ) (ws : List ℕ) (words : Words ws) (x : ℕ) (h : x + (g + totals_width) ≤ length ws) where
  pub record_length : length (record_at g ws x) ≡ g + totals_width
  record_length = let d = length-drop x ws in length-take-le (g + totals_width) (drop x ws) (omega arith)

  pub record_words : Words (record_at g ws x)
  record_words = words_take (g + totals_width) (drop x ws) (words_drop x ws words)

  pub record_back : group_words (group_in g (record_at g ws x)) ≡ record_at g ws x
  record_back = words_in_group g (record_at g ws x) record_length record_words

  pub record_keys_lem : length (group_in g (record_at g ws x)).keys ≡ g
  unfolding group_in
  record_keys_lem = let l = record_length in length-take-le g (record_at g ws x) (omega arith)

-- the totals of words fit in 64 bits
pub record_fits : (g : ℕ) (r : List ℕ) → Words r → group_fits (group_in g r) ≡ true
unfolding group_in
record_fits g r b =
    let pair : (i : ℕ) → pair_at r i < long_values = λ i. (let l = b i in let m = b (suc i) in omega arith) in
    rw (lt-ltb (pair_at r g) long_values (pair g), lt-ltb (pair_at r (g + 2)) long_values (pair (g + 2)), in_fits (pair_at r (g + 4)) (pair (g + 4)))

-- ---- two records of one group
pub join_words_lem : (g : ℕ) (r s : List ℕ) → group_words (together (group_in g r) (group_in g s)) ≡ join_words g r s
unfolding group_words join_words
join_words_lem g r s =
    ap₂ (λ a b. group_words (together a b)) (group_split g r) (group_split g s)
    ∙ rw (bits_both (totals_in (drop g r)).sum (totals_in (drop g s)).sum)

pub join_fits_lem : (g : ℕ) (r s : List ℕ) → group_fits (together (group_in g r) (group_in g s)) ≡ join_fits g r s
unfolding join_fits
join_fits_lem g r s = ap₂ (λ a b. group_fits (together a b)) (group_split g r) (group_split g s)
