-- The dictionaries of just the strings of some terms are right and hold exactly these; so their terms have words, but for whole numbers out of 30 bits.
use Prim.Native.Nat.{ℕ}
use mathlib.Core.Path.{◌≡◌, refl, ◌∙◌}
use mathlib.Core.Bool.{Bool, true, false, ◌||◌}
use mathlib.Core.Option.{some}
use mathlib.Core.List.{List, [], ◌∷◌, map}
use lib.Dec.{leb}
use lib.ListN.{length}
use borrow.Author.Tests.{le-leb}
use Rattle.words.specs.Words as words
use Rattle.sequences.specs.Sequences.{all}
use Rattle.sequences.proofs.Booleans.{and_left, and_right, and_both}
use Rattle.dictionaries.specs.declared.StringKind.TheVariants.{Texts}
use Rattle.dictionaries.specs.Strings.{same_string}
use Rattle.dictionaries.specs.Utf8.{well_formed}
use Rattle.dictionaries.specs.Dictionaries.{strings_of, RightDictionary, most_strings, string_rank, is_among}
use Rattle.dictionaries.specs.Lookups.{lookup_in}
use Rattle.dictionaries.proofs.Strings.{same_self}
use Rattle.dictionary_numberings.specs.Numbering.{bytes_once, ends_once}
use Rattle.dictionary_numberings.proofs.Numbered.{numbered, dictionary_exact}
use Rattle.sparql.specs.Terms.{iri, integer, text}
use Rattle.sparql_strings.specs.Decoding.{term_decoded}
use Rattle.sparql_strings.specs.Strings.{Dictionaries, RightDictionaries, decoding}
use Rattle.encodings.specs.Encodings.{StringTerm, in_code_points, bits_of30, found_word, word_of, words_of, is_encodable}
use Rattle.encodings.specs.Gathered.{names_in, texts_in, dictionaries_of, StringsRight, TermsRight}
use Rattle.encodings.proofs.Encoded.{encoded}

-- ---- a right dictionary
pub dictionary_right_lem : (ss : List (List ℕ)) → StringsRight ss → RightDictionary (bytes_once ss) (ends_once ss)
dictionary_right_lem ss r =
    (numbered Texts ss (and_both (leb (length ss) most_strings) (all well_formed ss) (le-leb (length ss) most_strings r.few) r.formed)).right.right

pub dictionaries_right : (xs : List StringTerm) → TermsRight xs → RightDictionaries (dictionaries_of xs)
dictionaries_right xs r = record { names = dictionary_right_lem (names_in xs) r.names; texts = dictionary_right_lem (texts_in xs) r.texts }

-- ---- terms have words, but for whole numbers that are out of their 30 bits
found_word_lem : (ss : List (List ℕ)) (s : List ℕ) (kind : ℕ → ℕ) → is_among ss s ≡ true
    → found_word kind (lookup_in ss s) ≡ some (kind (string_rank ss s))
unfolding lookup_in
found_word_lem ss s kind e = rw e refl

or_own : (s : List ℕ) (b : Bool) → same_string s s || b ≡ true
or_own s b = rw (same_self s) refl

pub or_later : (a b : Bool) → b ≡ true → a || b ≡ true
or_later true b e = refl
or_later false b e = e

module _ (d : Dictionaries) where
  abbrev Holds : List StringTerm → Type 0
  Holds xs =
      ((s : List ℕ) → is_among (names_in xs) s ≡ true → is_among (strings_of d.name_bytes d.name_ends) s ≡ true)
      × ((s : List ℕ) → is_among (texts_in xs) s ≡ true → is_among (strings_of d.text_bytes d.text_ends) s ≡ true)

  one_word : (x : StringTerm) (xs : List StringTerm) → Holds (x ∷ xs) → is_encodable x ≡ true → (w : ℕ) × (word_of d x ≡ some w)
  unfolding names_in texts_in is_among
  one_word (iri s) xs h e =
      let ss = strings_of d.name_bytes d.name_ends in
      (words.name (string_rank ss s), found_word_lem ss s words.name (h.0 s (or_own s (is_among (names_in xs) s))))
  one_word (integer n) xs h e = (words.number (bits_of30 n), rw e refl)
  one_word (text s) xs h e =
      let ss = strings_of d.text_bytes d.text_ends in
      (words.text (string_rank ss s), found_word_lem ss s words.text (h.1 s (or_own s (is_among (texts_in xs) s))))

  fewer : (x : StringTerm) (xs : List StringTerm) → Holds (x ∷ xs) → Holds xs
  unfolding names_in texts_in is_among
  fewer (iri y) xs h = (λ s e. h.0 s (or_later (same_string s y) (is_among (names_in xs) s) e), h.1)
  fewer (integer n) xs h = h
  fewer (text y) xs h = (h.0, λ s e. h.1 s (or_later (same_string s y) (is_among (texts_in xs) s) e))

  all_words : (xs : List StringTerm) → Holds xs → all is_encodable xs ≡ true → (ws : List ℕ) × (words_of d xs ≡ some ws)
  unfolding words_of all
  all_words [] h e = ([], refl)
  all_words (x ∷ xs) h e =
      let a = one_word x xs h (and_left (is_encodable x) (all is_encodable xs) e) in
      let b = all_words xs (fewer x xs h) (and_right (is_encodable x) (all is_encodable xs) e) in
      (a.0 ∷ b.0, rw (a.1, b.1) refl)

pub encodes : (xs : List StringTerm) → all is_encodable xs ≡ true → (ws : List ℕ) × (words_of (dictionaries_of xs) xs ≡ some ws)
encodes xs e =
    all_words (dictionaries_of xs) xs (λ s m. dictionary_exact (names_in xs) s ∙ m, λ s m. dictionary_exact (texts_in xs) s ∙ m) e

-- and decoded again are those terms
pub encoded_own : (xs : List StringTerm) → TermsRight xs → (ws : List ℕ) → words_of (dictionaries_of xs) xs ≡ some ws
    → map (term_decoded (decoding (dictionaries_of xs))) ws ≡ map in_code_points xs
encoded_own xs r ws e = encoded (dictionaries_of xs) (dictionaries_right xs r) xs ws e
