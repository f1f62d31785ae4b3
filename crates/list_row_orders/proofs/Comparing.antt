-- Rows compared key by key: where a word stands among others, the rank by a key, and which comes first by the keys from one on.
use Prim.Native.Nat.{ℕ, suc, ◌+◌, ◌-◌, ◌≤◌, ◌<◌}
use native.Mathlib.Omega.{arith}
use native.Mathlib.Numerals.{add-one}
use mathlib.Core.Path.{◌≡◌, refl, sym, ◌∙◌, ap}
use mathlib.Core.Bool.{Bool, true, false, cond, ◌||◌}
use mathlib.Core.List.{List, [], ◌∷◌}
use lib.Dec.{eqb, ltb}
use lib.ListN.{length, get_or, drop, drop_of_length-le}
use lib.Seq.{drop-cons}
use borrow.Author.Tests.{eq-eqb, ne_eqb, ltb-false}
use Rattle.std.specs.List.{position_or_len}
use Rattle.std.specs.Option.{unwrap_or}
use Rattle.std.specs.Prelude.{Some, None}
use Rattle.std.proofs.lemmas.Grind.{common_steps}
use Rattle.std.proofs.lemmas.List.Recursion.{is_position_or_len}
use Rattle.words.specs.Words.{variable, low, kind, falling_kind, key_rank, last_rank, unbound}
use Rattle.sequences.specs.Sequences.{all, member, lex_before}
use Rattle.sequences.proofs.Booleans.{absurd_true}
use Rattle.words.proofs.Bound.{any_default}
use Rattle.sequences.proofs.Elements.{all_at_lem}
use Rattle.sequences.proofs.Orders.{lex_less, lex_same, lex_more}
use Rattle.plans.specs.Endings.{key_among}
use Rattle.lists.specs.Rows.{index_of, rank_by, key_value, row_ranks, row_before}

-- ---- where a word stands among others
index_in : (w : ℕ) (xs : List ℕ) → index_of w xs ≤ length xs
unfolding index_of
index_in w [] = omega arith
index_in w (x ∷ xs) =
    let h = index_in w xs in
    elim (eqb w x) as (λ b. cond b 0 (suc (index_of w xs)) ≤ suc (length xs)) [ true ↦ omega arith | false ↦ omega arith ]

-- as a search answers it, or their number
abbrev first_place : ℕ → List ℕ → ℕ
first_place w = position_or_len (λ x. eqb x w)

turned : (a b : ℕ) → eqb a b ≡ eqb b a
turned a b = grind (arith, common_steps)

index_is : (w : ℕ) (xs : List ℕ) → index_of w xs ≡ first_place w xs
unfolding index_of
index_is w xs =
    is_position_or_len (index_of w) (λ x. eqb x w) refl
    (λ x ys. let n : suc (index_of w ys) ≡ 1 + index_of w ys = omega arith in
    ap (λ b. cond b 0 (suc (index_of w ys))) (turned w x) ∙ ap (cond (eqb x w) 0) n) xs

pub index_found : (w : ℕ) (xs : List ℕ)
    → unwrap_or (cond (ltb (first_place w xs) (length xs)) (Some (first_place w xs)) None) (length xs) ≡ index_of w xs
index_found w xs = rw (← (index_is w xs)) (go (index_of w xs) (index_in w xs) (ltb (index_of w xs) (length xs)) refl)
  where
    go : (n : ℕ) → n ≤ length xs → (b : Bool) → ltb n (length xs) ≡ b → unwrap_or (cond b (Some n) None) (length xs) ≡ n
    go n h true e = refl
    go n h false e = let l = ltb-false n (length xs) e in omega arith

-- a word that is there stands at one of the places
pub index_there : (w : ℕ) (xs : List ℕ) → member w xs ≡ true → index_of w xs < length xs
unfolding index_of member
index_there w [] m = absurd_true refl (sym m)
index_there w (x ∷ xs) m = go (eqb w x) refl m (index_there w xs)
  where
    go : (b : Bool) → eqb w x ≡ b → b || member w xs ≡ true → (member w xs ≡ true → index_of w xs < length xs)
        → cond b 0 (suc (index_of w xs)) < suc (length xs)
    go true e p ih = omega arith
    go false e p ih = let l = ih p in omega arith

-- ---- the rank by a key
pub rank_falling : (key w : ℕ) → kind key ≡ falling_kind → rank_by key w ≡ last_rank - key_rank w
rank_falling key w e = rw (eq-eqb (kind key) falling_kind e)

pub rank_rising : (key w : ℕ) → (kind key ≡ falling_kind → ⊥) → rank_by key w ≡ key_rank w
rank_rising key w n = rw (ne_eqb (kind key) falling_kind n)

-- ---- by the first key, and by the rest where it does not tell two rows apart
abbrev rank : List ℕ → List ℕ → ℕ → ℕ
rank vs row key = rank_by key (key_value vs row key)

module _ (vs : List ℕ) (key : ℕ) (keys a b : List ℕ) where
  first_less : rank vs a key < rank vs b key → row_before vs (key ∷ keys) a b ≡ true
  unfolding row_before row_ranks
  first_less l = lex_less (row_ranks vs keys a) (row_ranks vs keys b) l

  first_same : rank vs a key ≡ rank vs b key → row_before vs (key ∷ keys) a b ≡ row_before vs keys a b
  unfolding row_before row_ranks
  first_same e = lex_same (row_ranks vs keys a) (row_ranks vs keys b) e

  first_more : rank vs b key < rank vs a key → row_before vs (key ∷ keys) a b ≡ false
  unfolding row_before row_ranks
  first_more l = lex_more (row_ranks vs keys a) (row_ranks vs keys b) l

by_none : (vs a b : List ℕ) → row_before vs [] a b ≡ false
unfolding row_before row_ranks lex_before
by_none vs a b = refl

-- ---- the keys from the one with a number on
module _ (vs keys a b : List ℕ) (i : ℕ) where
  pub before_end : length keys ≤ i → row_before vs (drop i keys) a b ≡ false
  before_end h = rw (drop_of_length-le keys h, by_none vs a b)

  module _ (h : i < length keys) where
    -- the key's column is there, where each key is among the variables
    pub column_there : all (key_among vs) keys ≡ true → index_of (variable (low (get_or keys i 0))) vs < length vs
    column_there among = index_there (variable (low (get_or keys i 0))) vs (all_at_lem (key_among vs) keys i 0 among h)

    -- the ranks of two rows by that key, read at its column
    module _ (column x y : ℕ) (ec : column ≡ index_of (variable (low (get_or keys i 0))) vs) (la : column < length a)
        (lb : column < length b) (ex : x ≡ rank_by (get_or keys i 0) (get_or a column 0))
        (ey : y ≡ rank_by (get_or keys i 0) (get_or b column 0)) where
      rank_of : (row : List ℕ) (z : ℕ) → column < length row → z ≡ rank_by (get_or keys i 0) (get_or row column 0)
          → z ≡ rank vs row (get_or keys i 0)
      rank_of row z l e =
          e ∙ ap (rank_by (get_or keys i 0)) (any_default row column 0 unbound l ∙ ap (λ n. get_or row n unbound) ec)

      abbrev key : ℕ
      key = get_or keys i 0

      abbrev rest : List ℕ
      rest = drop (suc i) keys

      pub before_less : x < y → row_before vs (drop i keys) a b ≡ true
      before_less l =
          let p = rank_of a x la ex in
          let q = rank_of b y lb ey in
          rw (drop-cons keys i 0 h, first_less vs key rest a b (omega arith))

      pub before_more : y < x → row_before vs (drop i keys) a b ≡ false
      before_more l =
          let p = rank_of a x la ex in
          let q = rank_of b y lb ey in
          rw (drop-cons keys i 0 h, first_more vs key rest a b (omega arith))

      pub before_same : x ≤ y → y ≤ x → row_before vs (drop i keys) a b ≡ row_before vs (drop (i + 1) keys) a b
      before_same l m =
          let p = rank_of a x la ex in
          let q = rank_of b y lb ey in
          rw (add-one, drop-cons keys i 0 h, first_same vs key rest a b (omega arith))
