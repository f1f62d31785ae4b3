-- Two terms have the same word exactly where they are the same term.
use Prim.Native.Nat.{ℕ}
use native.Mathlib.Omega.{arith}
use mathlib.Core.Path.{◌≡◌, refl, sym, ◌∙◌, ap, ap₂, subst}
use mathlib.Core.Bool.{true}
use mathlib.Core.Option.{some}
use mathlib.Core.List.{List, []}
use lib.Dec.{eqb}
use Rattle.words.specs.Words as words
use Rattle.sequences.proofs.Elements.{same_test}
use Rattle.sequences.proofs.Each.{all_each}
use Rattle.sequences.proofs.Ascending.{neighbours_ascending}
use Rattle.sequences.proofs.Somewhere.{each_at}
use Rattle.std.specs.Prelude.{Result, Ok, Err}
use Rattle.dictionaries.specs.Strings.{same_string}
use Rattle.dictionaries.specs.Utf8.{well_formed, code_points}
use Rattle.dictionaries.specs.Dictionaries.{strings_of, RightDictionary}
use Rattle.dictionaries.specs.Lookups.{lookup_in}
use Rattle.dictionaries.proofs.Strings.{before_ordered, same_self, same_equal}
use Rattle.dictionaries.proofs.CodePoints.{code_points_equal}
use Rattle.dictionaries.proofs.Ranking.{found}
use Rattle.sparql.specs.Terms.{iri, integer, text, same_term}
use Rattle.sparql.specs.Reading.{term_of}
use Rattle.sparql.proofs.Terms.{same_term_lem}
use Rattle.sparql_strings.specs.Strings.{Dictionaries, RightDictionaries, decoding}
use Rattle.sparql_strings.proofs.Terms.{carry_term_lem}
use Rattle.sparql_strings.proofs.Strings.{decoding_keeps}
use Rattle.encodings.specs.Encodings.{StringTerm, in_code_points, found_word, word_of}
use Rattle.encodings.proofs.Encoded.{term_encoded}

-- ---- well-formed strings are the same where their code points are
abbrev Formed : StringTerm → Type 0
Formed (iri s) = well_formed s ≡ true
Formed (integer n) = Unit {0}
Formed (text s) = well_formed s ≡ true

same_points : (s t : List ℕ) → well_formed s ≡ true → well_formed t ≡ true → same_string (code_points s) (code_points t) ≡ same_string s t
same_points s t f g =
    same_test (same_string (code_points s) (code_points t)) (same_string s t)
    (λ e. ap (same_string s) (sym (code_points_equal s t f g (same_equal (code_points s) (code_points t) e))) ∙ same_self s)
    (λ e. ap (λ z. same_string (code_points s) (code_points z)) (sym (same_equal s t e)) ∙ same_self (code_points s))

points_same : (x y : StringTerm) → Formed x → Formed y → same_term (in_code_points x) (in_code_points y) ≡ same_term x y
points_same (iri a) (iri b) f g = same_points a b f g
points_same (iri a) (integer b) f g = refl
points_same (iri a) (text b) f g = refl
points_same (integer a) (iri b) f g = refl
points_same (integer a) (integer b) f g = refl
points_same (integer a) (text b) f g = refl
points_same (text a) (iri b) f g = refl
points_same (text a) (integer b) f g = refl
points_same (text a) (text b) f g = same_points a b f g

-- ---- the strings of a right dictionary are well-formed
found_formed : (bytes ends s : List ℕ) → RightDictionary bytes ends → (kind : ℕ → ℕ) (l : Result ℕ ℕ) → lookup_in (strings_of bytes ends) s ≡ l
    → (w : ℕ) → found_word kind l ≡ some w → well_formed s ≡ true
found_formed bytes ends s r kind (Ok n) e w f =
    let ss = strings_of bytes ends in
    let k = (found s ss (neighbours_ascending before_ordered ss r.ascend) n).0 e in
    subst (λ z. well_formed z ≡ true) k.is (each_at (λ z. well_formed z ≡ true) ss [] (all_each well_formed ss r.formed) n k.within)
found_formed bytes ends s r kind (Err n) e w f = absurd (let z : ◌≡◌ {A = ℕ} 0 1 = cc in omega arith)

module _ (d : Dictionaries) (r : RightDictionaries d) where
  word_formed : (x : StringTerm) (w : ℕ) → word_of d x ≡ some w → Formed x
  word_formed (iri s) w e =
      found_formed d.name_bytes d.name_ends s r.names words.name (lookup_in (strings_of d.name_bytes d.name_ends) s) refl w e
  word_formed (integer n) w e = tt
  word_formed (text s) w e =
      found_formed d.text_bytes d.text_ends s r.texts words.text (lookup_in (strings_of d.text_bytes d.text_ends) s) refl w e

  pub same_words_lem : (x y : StringTerm) (a b : ℕ) → word_of d x ≡ some a → word_of d y ≡ some b → eqb a b ≡ same_term x y
  same_words_lem x y a b e f =
      sym (same_term_lem a b)
      ∙ sym (carry_term_lem (decoding d) (decoding_keeps d r) (term_of a) (term_of b))
      ∙ ap₂ same_term (term_encoded d r x a e) (term_encoded d r y b f)
      ∙ points_same x y (word_formed x a e) (word_formed y b f)
