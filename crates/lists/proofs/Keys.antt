-- Keys that are values: one word has each rank, and lists of keys are the same exactly where neither comes before the other.
use Prim.Native.Nat.{ℕ}
use native.Mathlib.Omega.{arith}
use mathlib.Core.Path.{◌≡◌, refl, sym, ◌∙◌, ap₂}
use mathlib.Core.Bool.{Bool, true, false, ◌&&◌, ◌||◌, not, true≢false}
use mathlib.Core.List.{List, [], ◌∷◌, map}
use lib.Dec.{eqb}
use lib.ListN.{length}
use borrow.Author.Tests.{eqb-true, eq-eqb}
use Rattle.words.specs.Words.{is_variable, term_kind, unbound, key_rank, is_value}
use Rattle.sequences.specs.Sequences.{all, lex_before}
use Rattle.sequences.proofs.Booleans.{absurd_true, and_left, and_right}
use Rattle.sequences.proofs.Orders.{Three, less, same, more, three, lex_less, lex_same, lex_asym}
use Rattle.words.proofs.Ranks.{rank_below, rank_one}

pub rank_same : (a b : ℕ) → is_value a ≡ true → is_value b ≡ true → key_rank a ≡ key_rank b → a ≡ b
rank_same a b p q e = go (is_variable a) refl (is_variable b) refl p q e
  where
    go : (x : Bool) → is_variable a ≡ x → (y : Bool) → is_variable b ≡ y → not x || eqb a unbound ≡ true
        → not y || eqb b unbound ≡ true → key_rank a ≡ key_rank b → a ≡ b
    go true h true k p q e = let i = eqb-true a unbound p in let j = eqb-true b unbound q in omega arith
    go true h false k p q e = let z = rw (h, k) at e in absurd (omega arith)
    go false h true k p q e = let z = rw (h, k) at e in absurd (omega arith)
    go false h false k p q e =
        let z = rw (h, k) at e in
        let i = rank_below a in
        let j = rank_below b in
        let kinds : term_kind a ≡ term_kind b = omega arith in
        rank_one a b kinds (omega arith)

-- the ranks of keys
abbrev pub ranks : List ℕ → List ℕ
ranks ks = map key_rank ks

pub keys_same : (ks ls : List ℕ) → length ks ≡ length ls → all is_value ks ≡ true → all is_value ls ≡ true
    → lex_before (ranks ks) (ranks ls) ≡ false → lex_before (ranks ls) (ranks ks) ≡ false → ks ≡ ls
unfolding all
keys_same [] [] l p q e f = refl
keys_same [] (b ∷ ls) l p q e f = absurd (omega (arith, l))
keys_same (a ∷ ks) [] l p q e f = absurd (omega (arith, l))
keys_same (a ∷ ks) (b ∷ ls) l p q e f =
    go (three (key_rank a) (key_rank b))
    (keys_same ks ls (omega (arith, l)) (and_right (is_value a) (all is_value ks) p) (and_right (is_value b) (all is_value ls) q))
  where
    go : Three (key_rank a) (key_rank b)
        → (lex_before (ranks ks) (ranks ls) ≡ false → lex_before (ranks ls) (ranks ks) ≡ false → ks ≡ ls) → a ∷ ks ≡ b ∷ ls
    go (less h) ih = absurd_true (lex_less (ranks ks) (ranks ls) h) e
    go (same h) ih =
        ap₂ ◌∷◌ (rank_same a b (and_left (is_value a) (all is_value ks) p) (and_left (is_value b) (all is_value ls) q) h)
        (ih (sym (lex_same (ranks ks) (ranks ls) h) ∙ e) (sym (lex_same (ranks ls) (ranks ks) (sym h)) ∙ f))
    go (more h) ih = absurd_true (lex_less (ranks ls) (ranks ks) h) f

-- ---- the order of keys: nothing comes before itself
pub lex_irreflexive : (xs : List ℕ) → lex_before xs xs ≡ false
lex_irreflexive xs = go (lex_before xs xs) refl
  where
    go : (b : Bool) → lex_before xs xs ≡ b → lex_before xs xs ≡ false
    go true e = lex_asym xs xs e
    go false e = e

-- ---- the same words, one by one
unfoldable pub same_words : List ℕ → List ℕ → Bool
same_words [] [] = true
same_words [] (y ∷ ys) = false
same_words (x ∷ xs) [] = false
same_words (x ∷ xs) (y ∷ ys) = eqb x y && same_words xs ys

pub same_words_lem : (xs ys : List ℕ) → same_words xs ys ≡ true → xs ≡ ys
unfolding same_words
same_words_lem [] [] e = refl
same_words_lem [] (y ∷ ys) e = absurd (true≢false (sym e))
same_words_lem (x ∷ xs) [] e = absurd (true≢false (sym e))
same_words_lem (x ∷ xs) (y ∷ ys) e =
    ap₂ ◌∷◌ (eqb-true x y (and_left (eqb x y) (same_words xs ys) e)) (same_words_lem xs ys (and_right (eqb x y) (same_words xs ys) e))

pub words_same : (xs : List ℕ) → same_words xs xs ≡ true
unfolding same_words
words_same [] = refl
words_same (x ∷ xs) = rw (eq-eqb x x refl) (words_same xs)

-- keys that are values stand at one place exactly where they are the same words
pub place_keys : (ks ls : List ℕ) → length ks ≡ length ls → all is_value ks ≡ true → all is_value ls ≡ true
    → not (lex_before (ranks ks) (ranks ls)) && not (lex_before (ranks ls) (ranks ks)) ≡ same_words ks ls
place_keys ks ls l p q = go (same_words ks ls) refl (lex_before (ranks ks) (ranks ls)) refl (lex_before (ranks ls) (ranks ks)) refl
  where
    go : (s : Bool) → same_words ks ls ≡ s → (x : Bool) → lex_before (ranks ks) (ranks ls) ≡ x
        → (y : Bool) → lex_before (ranks ls) (ranks ks) ≡ y → not x && not y ≡ s
    go true h true e y f = absurd_true e (rw (same_words_lem ks ls h) (lex_irreflexive (ranks ls)))
    go true h false e true f = absurd_true f (rw (same_words_lem ks ls h) (lex_irreflexive (ranks ls)))
    go true h false e false f = refl
    go false h true e y f = refl
    go false h false e true f = refl
    go false h false e false f =
        absurd_true (rw (keys_same ks ls l p q e f) (words_same ls)) h
