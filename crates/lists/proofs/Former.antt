-- Of the terms that there were before numbers had a sign: rows and group records come in the order in which they came, least, greatest and sum are
-- as they were, and a sum that does not pass 2^63 - 1 has the words that it had.
use Prim.Native.Nat.{ℕ, zero, suc, ◌+◌, ◌*◌, ◌-◌, ◌%◌, ◌≤◌, ◌<◌}
use native.Mathlib.Omega.{arith}
use mathlib.Core.Path.{◌≡◌, refl, sym, ◌∙◌, ap, ap₂}
use mathlib.Core.Bool.{Bool, true, false, cond}
use mathlib.Core.List.{List, [], ◌∷◌, map}
use lib.Dec.{eqb, ltb, leb}
use lib.ListN.{get_or}
use lib.IntN.{pos, ◌+ℤ◌}
use borrow.Author.Tests.{eqb-true, eq-eqb, ne_eqb, lt-ltb, le-ltb, ltb-true, ltb-false}
use Rattle.words.specs.Words.{number_kind, variable_kind, term_kind, term_values, term_value, is_number, key_rank, last_rank}
use Rattle.words.specs.Words.{variable, low, kind, falling_kind, unbound}
use Rattle.words.specs.Former.{former_rank, former_key_rank, Former}
use Rattle.sequences.specs.Sequences.{lex_before}
use Rattle.sequences.proofs.Each.{Each}
use Rattle.sequences.proofs.Orders.{Three, less, same, more, three, lex_less, lex_same, lex_more}
use Rattle.words.proofs.Ranks.{rank_bound, rank_unbound, rank_below}
use Rattle.words.proofs.Former.{value_as_before, at_most_as_before, key_less_as_before}
use Rattle.lists.specs.Sums.{long_values, half_longs, sum_fits, sum_bits}
use Rattle.lists.specs.Rows.{index_of, rank_by, key_value, row_ranks, row_before}
use Rattle.lists.specs.Groups.{Group, lesser, greater, keys_before, two_words}
use Rattle.lists.specs.Former.{former_rank_by, former_row_before, former_keys_before, former_sum, Delivered}
use Rattle.lists.proofs.Extremes.{lesser_numbers, greater_numbers}
use Rattle.lists.proofs.Totals.{sum_of}

-- ---- lists of places, which stand to each other as others do
abbrev Alike : ℕ → ℕ → ℕ → ℕ → Type 0
Alike a b c d = (ltb a b ≡ ltb c d) × (ltb b a ≡ ltb d c)

-- first by their heads
module _ (a b c d : ℕ) (e : Alike a b c d) (xs ys us vs : List ℕ) (rest : lex_before xs ys ≡ lex_before us vs) where
  heads : lex_before (a ∷ xs) (b ∷ ys) ≡ lex_before (c ∷ us) (d ∷ vs)
  heads = go (three a b)
    where
      go : Three a b → lex_before (a ∷ xs) (b ∷ ys) ≡ lex_before (c ∷ us) (d ∷ vs)
      go (less h) = lex_less xs ys h ∙ sym (lex_less us vs (ltb-true c d (sym e.0 ∙ lt-ltb a b h)))
      go (same h) =
          let p = ltb-false c d (sym e.0 ∙ le-ltb a b (omega arith)) in
          let q = ltb-false d c (sym e.1 ∙ le-ltb b a (omega arith)) in
          let f : c ≡ d = omega arith in
          lex_same xs ys h ∙ rest ∙ sym (lex_same us vs f)
      go (more h) = lex_more xs ys h ∙ sym (lex_more us vs (ltb-true d c (sym e.1 ∙ lt-ltb b a h)))

keys_alike : (ks ls : List ℕ) → Each Former ks → Each Former ls
    → lex_before (map key_rank ks) (map key_rank ls) ≡ lex_before (map former_key_rank ks) (map former_key_rank ls)
unfolding lex_before
keys_alike [] [] p q = refl
keys_alike [] (l ∷ ls) p q = refl
keys_alike (k ∷ ks) [] p q = refl
keys_alike (k ∷ ks) (l ∷ ls) p q =
    heads (key_rank k) (key_rank l) (former_key_rank k) (former_key_rank l)
    (key_less_as_before k l p.0 q.0, key_less_as_before l k q.0 p.0)
    (map key_rank ks) (map key_rank ls) (map former_key_rank ks) (map former_key_rank ls) (keys_alike ks ls p.1 q.1)

pub groups_as_before : (g h : Group) → Each Former g.keys → Each Former h.keys → keys_before g h ≡ former_keys_before g.keys h.keys
unfolding keys_before former_keys_before
groups_as_before g h p q = keys_alike g.keys h.keys p q

-- ---- rows
-- a falling key reverses the order
reversed : (a b : ℕ) → a ≤ last_rank → b ≤ last_rank → ltb (last_rank - a) (last_rank - b) ≡ ltb b a
reversed a b h k = go (ltb b a) refl
  where
    go : (t : Bool) → ltb b a ≡ t → ltb (last_rank - a) (last_rank - b) ≡ t
    go true e = let l = ltb-true b a e in lt-ltb (last_rank - a) (last_rank - b) (omega arith)
    go false e = let l = ltb-false b a e in le-ltb (last_rank - a) (last_rank - b) (omega arith)

-- no place is past the last one
most_rank_lem : (w : ℕ) → w ≤ unbound → (key_rank w ≤ last_rank) × (former_key_rank w ≤ last_rank)
most_rank_lem w h =
    elim (three w unbound) [
      | less l ↦
          let r = rank_bound w l in
          let b = rank_below w in
          let n : former_key_rank w ≡ 1 + term_kind w * term_values + term_value w = rw (ne_eqb (term_kind w) variable_kind (λ e. omega arith)) in
          (omega arith, omega arith)
      | same l ↦
          let r = rank_unbound w (omega arith) (omega arith) in
          let n : former_key_rank w ≡ 0 = rw (eq-eqb (term_kind w) variable_kind (omega arith)) in
          (omega arith, omega arith)
      | more l ↦ absurd (omega arith)
    ]

by_key : (key v w : ℕ) → Delivered v → Delivered w → ltb (rank_by key v) (rank_by key w) ≡ ltb (former_rank_by key v) (former_rank_by key w)
by_key key v w p q = go (eqb (kind key) falling_kind)
  where
    go : (b : Bool) → ltb (cond b (last_rank - key_rank v) (key_rank v)) (cond b (last_rank - key_rank w) (key_rank w))
        ≡ ltb (cond b (last_rank - former_key_rank v) (former_key_rank v)) (cond b (last_rank - former_key_rank w) (former_key_rank w))
    go true =
        reversed (key_rank v) (key_rank w) (most_rank_lem v p.1).0 (most_rank_lem w q.1).0
        ∙ key_less_as_before w v q.0 p.0
        ∙ sym (reversed (former_key_rank v) (former_key_rank w) (most_rank_lem v p.1).1 (most_rank_lem w q.1).1)
    go false = key_less_as_before v w p.0 q.0

-- a row has such a word for each key, or none
none_there : Delivered unbound
none_there = (λ e. absurd (omega arith), omega arith)

word_there : (row : List ℕ) (i : ℕ) → Each Delivered row → Delivered (get_or row i unbound)
word_there [] i p = none_there
word_there (w ∷ ws) zero p = p.0
word_there (w ∷ ws) (suc i) p = word_there ws i p.1

module _ (vs x y : List ℕ) (p : Each Delivered x) (q : Each Delivered y) where
  rows_alike : (keys : List ℕ)
      → lex_before (map (λ key. rank_by key (key_value vs x key)) keys) (map (λ key. rank_by key (key_value vs y key)) keys)
      ≡ lex_before (map (λ key. former_rank_by key (key_value vs x key)) keys) (map (λ key. former_rank_by key (key_value vs y key)) keys)
  rows_alike [] = refl
  rows_alike (key ∷ keys) =
      let v = word_there x (index_of (variable (low key)) vs) p in
      let w = word_there y (index_of (variable (low key)) vs) q in
      heads (rank_by key (key_value vs x key)) (rank_by key (key_value vs y key)) (former_rank_by key (key_value vs x key))
      (former_rank_by key (key_value vs y key)) (
        by_key key (key_value vs x key) (key_value vs y key) v w,
        by_key key (key_value vs y key) (key_value vs x key) w v,
      ) _ _ _ _ (rows_alike keys)

  pub rows_as_before : (keys : List ℕ) → row_before vs keys x y ≡ former_row_before vs keys x y
  unfolding row_before row_ranks former_row_before
  rows_as_before keys = rows_alike keys

-- ---- least and greatest
module _ (a b : ℕ) (p : is_number a ≡ true) (q : is_number b ≡ true) (f : Former a) (g : Former b) where
  one_kind : term_kind a ≡ term_kind b
  one_kind = eqb-true (term_kind a) number_kind p ∙ sym (eqb-true (term_kind b) number_kind q)

  pub lesser_as_before : lesser a b ≡ cond (leb (former_rank a) (former_rank b)) a b
  lesser_as_before = lesser_numbers a b p q ∙ ap (λ t. cond t a b) (at_most_as_before a b f g one_kind)

  pub greater_as_before : greater a b ≡ cond (leb (former_rank a) (former_rank b)) b a
  greater_as_before = greater_numbers a b p q ∙ ap (λ t. cond t b a) (at_most_as_before a b f g one_kind)

-- ---- the sum of some numbers
pub sum_as_before : (xs : List ℕ) → Each (λ x. is_number x ≡ true) xs → Each Former xs → sum_of xs ≡ pos (former_sum xs)
unfolding sum_of former_sum
sum_as_before [] p f = refl
sum_as_before (x ∷ xs) p f =
    ap₂ ◌+ℤ◌ (value_as_before x (eqb-true (term_kind x) number_kind p.0) f.0) (sum_as_before xs p.1 f.1)

-- ---- its words, and that it fits
pub words_as_before : (n : ℕ) → n < half_longs → two_words (sum_bits (pos n)) ≡ two_words n
unfolding sum_bits
words_as_before n h = ap two_words (let e : n % long_values ≡ n = omega arith in e)

pub fits_as_before : (n : ℕ) → n < half_longs → sum_fits (pos n) ≡ true
fits_as_before n h = lt-ltb n half_longs h
