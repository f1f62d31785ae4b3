-- Spans in words, two by two.
use Rattle.std.proofs.Common.{◌≡◌, ℕ, List, [], ◌∷◌, ◌++◌, get_or, length, refl, ap, sym, ◌∙◌, arith, length-append}
use Rattle.std.specs.Iterator.{AlwaysYields}
use Rattle.std.proofs.lemmas.Iterator.{YieldsList}
use Rattle.std.specs.Slice.Iter.{chunks_exact_steps, chunks_exact_rest, chunks_exact_size}
use Rattle.std.specs.declared.slice.ChunksExact.{ChunksExact}
use denote.Ref.{Bor}
use Rattle.dictionaries.specs.Utf8.{Span, span}
use Rattle.tokens.specs.Classes.{name_spans}
use Rattle.token_classes.specs.SpanWords.{spans_of, name_words}

abbrev pub span_of : Bor (List ℕ) → Span
span_of x = span (get_or x.now 0 0) (get_or x.now 1 0)

two_first : (a b : ℕ) (ws xs ys : List ℕ) → a ∷ b ∷ ws ≡ xs ++ ys → length xs ≡ 2
    → (span (get_or xs 0 0) (get_or xs 1 0) ≡ span a b) × (ys ≡ ws)
two_first a b ws [] ys e l = absurd (omega (arith, l))
two_first a b ws (x ∷ []) ys e l = absurd (omega (arith, l))
two_first a b ws (x ∷ y ∷ []) ys e l = (cc, cc)
two_first a b ws (x ∷ y ∷ z ∷ xs) ys e l = absurd (omega (arith, l))

pairs_always : (ws : List ℕ) (s : ChunksExact ℕ) → chunks_exact_rest s ≡ ws → chunks_exact_size s ≡ 2
    → AlwaysYields chunks_exact_steps span_of s (spans_of ws)
unfolding spans_of
pairs_always [] s e n = λ x t h. omega (arith, h.1.1, ap length (sym e ∙ h.1.0), length-append x.now (chunks_exact_rest t), n)
pairs_always (a ∷ []) s e n = λ x t h. omega (arith, h.1.1, ap length (sym e ∙ h.1.0), length-append x.now (chunks_exact_rest t), n)
pairs_always (a ∷ b ∷ ws) s e n = (
  (λ t h. omega (arith, h.1.0, ap length e, n)),
  λ x t h. let p = two_first a b ws x.now (chunks_exact_rest t) (sym e ∙ h.1.0) (h.1.1 ∙ n) in (p.0, pairs_always ws t p.1 (h.0 ∙ n)),
)

-- the pairs of words come as the spans that they are
pub pairs_yield : {s : ChunksExact ℕ} (ws : List ℕ) → chunks_exact_rest s ≡ ws → chunks_exact_size s ≡ 2
    → YieldsList chunks_exact_steps span_of s (spans_of ws)
pairs_yield {s} ws e n = record { runs = pairs_always ws s e n }

-- the words of names are their spans
pub names_spans : spans_of name_words ≡ name_spans
unfolding spans_of
names_spans = refl
