-- A character's bytes after its first one, and what comes behind them.
use Prim.Native.Nat.{ℕ, suc, ◌+◌, ◌≤◌, ◌<◌}
use native.Mathlib.Omega.{arith}
use native.Mathlib.Numerals.{add-one}
use mathlib.Core.Path.{◌≡◌, refl, sym, ◌∙◌, ap}
use mathlib.Core.Bool.{true, false, ◌&&◌}
use mathlib.Core.List.{List, [], ◌∷◌}
use lib.Dec.{leb}
use lib.ListN.{length, get_or, drop, length-drop, drop_of_length-le}
use lib.Seq.{drop-cons, drop-drop}
use borrow.Author.Tests.{le-leb}
use Rattle.sequences.proofs.Booleans.{absurd_true, and_right, and_both}
use Rattle.dictionaries.specs.Utf8.{Span, is_in, formed_from, well_formed}
use Rattle.dictionary_checks.specs.Steps.{each_in_span}
use Rattle.dictionary_checks.proofs.Ascii.{and_three, and-true, one_byte}

-- the bytes that are still to come are in their spans, and what is left is well-formed
pub spans_rest : (bs : List ℕ) (ss : List Span) → formed_from bs ss ≡ each_in_span bs ss && well_formed (drop (length ss) bs)
unfolding formed_from each_in_span
spans_rest bs [] = refl
spans_rest [] (s ∷ ss) = refl
spans_rest (b ∷ bs) (s ∷ ss) = ap (λ x. is_in s b && x) (spans_rest bs ss) ∙ and_three (is_in s b) (each_in_span bs ss) (well_formed (drop (length ss) bs))

pub spans_fit : (bs : List ℕ) (ss : List Span) → each_in_span bs ss ≡ true → length ss ≤ length bs
unfolding each_in_span
spans_fit bs [] e = omega arith
spans_fit [] (s ∷ ss) e = absurd_true e refl
spans_fit (b ∷ bs) (s ∷ ss) e = let f = spans_fit bs ss (and_right (is_in s b) (each_in_span bs ss) e) in omega arith

first_span : (bs : List ℕ) (s : Span) (ss : List Span) → each_in_span bs (s ∷ ss) ≡ each_in_span bs (s ∷ []) && each_in_span (drop 1 bs) ss
unfolding each_in_span
first_span [] s ss = refl
first_span (b ∷ bs) s ss = rw (and-true (is_in s b)) refl

-- from a place on: the first span, and the others
pub span_more : (bs : List ℕ) (i : ℕ) (s : Span) (ss : List Span)
    → each_in_span (drop i bs) (s ∷ ss) ≡ each_in_span (drop i bs) (s ∷ []) && each_in_span (drop (i + 1) bs) ss
span_more bs i s ss = first_span (drop i bs) s ss ∙ ap (λ x. each_in_span (drop i bs) (s ∷ []) && each_in_span x ss) (drop-drop 1 i bs)

pub span_none : (bs : List ℕ) (i : ℕ) (s : Span) → length bs ≤ i → each_in_span (drop i bs) (s ∷ []) ≡ false
unfolding each_in_span
span_none bs i s h = rw (drop_of_length-le bs {i = i} h) refl

pub span_at : (bs : List ℕ) (i : ℕ) (s : Span) → i < length bs → each_in_span (drop i bs) (s ∷ []) ≡ is_in s (get_or bs i 0)
unfolding each_in_span
span_at bs i s h = rw (drop-cons bs i 0 h) (and-true (is_in s (get_or bs i 0)))

pub span_goes : (bs : List ℕ) (i : ℕ) (s : Span) (ss : List Span) → each_in_span (drop i bs) (s ∷ []) ≡ true
    → each_in_span (drop i bs) (s ∷ ss) ≡ each_in_span (drop (i + 1) bs) ss
span_goes bs i s ss e = span_more bs i s ss ∙ ap (λ b. b && each_in_span (drop (i + 1) bs) ss) e

pub span_stops : (bs : List ℕ) (i : ℕ) (s : Span) (ss : List Span) → each_in_span (drop i bs) (s ∷ []) ≡ false
    → each_in_span (drop i bs) (s ∷ ss) ≡ false
span_stops bs i s ss e = span_more bs i s ss ∙ ap (λ b. b && each_in_span (drop (i + 1) bs) ss) e

pub spans_none : (bs : List ℕ) → each_in_span bs [] ≡ true
unfolding each_in_span
spans_none bs = refl

-- ---- a character
pub ascii_more : (bs : List ℕ) (i : ℕ) → i < length bs → get_or bs i 0 ≤ 0x7F → well_formed (drop i bs) ≡ well_formed (drop (i + 1) bs)
ascii_more bs i h k =
    let b = get_or bs i 0 in
    let ascii = and_both (leb 0x00 b) (leb b 0x7F) (le-leb 0x00 b (omega arith)) (le-leb b 0x7F k) in
    rw (add-one i, drop-cons bs i 0 h) (one_byte b (drop (suc i) bs) ascii)

-- the place behind a character's bytes, which are in their spans
pub behind_fits : (bs : List ℕ) (j n : ℕ) (ss : List Span) → each_in_span (drop j bs) ss ≡ true → n ≡ length ss → j ≤ length bs
    → j + n ≤ length bs
behind_fits bs j n ss e k h = let f = spans_fit (drop j bs) ss e in let l = length-drop j bs in omega arith

pub behind_more : (bs : List ℕ) (j n : ℕ) (ss : List Span) → each_in_span (drop j bs) ss ≡ true → n ≡ length ss
    → formed_from (drop j bs) ss ≡ well_formed (drop (j + n) bs)
behind_more bs j n ss e k =
    spans_rest (drop j bs) ss
    ∙ (ap (λ b. b && well_formed (drop (length ss) (drop j bs))) e
    ∙ (ap well_formed (drop-drop (length ss) j bs) ∙ ap (λ m. well_formed (drop (j + m) bs)) (sym k)))

pub behind_wrong : (bs : List ℕ) (j : ℕ) (ss : List Span) → each_in_span (drop j bs) ss ≡ false → formed_from (drop j bs) ss ≡ false
behind_wrong bs j ss e = spans_rest (drop j bs) ss ∙ ap (λ b. b && well_formed (drop (length ss) (drop j bs))) e
