-- The dictionaries that two calls of `number` leave are those of just the strings of the terms; by them the terms have words, which decoded again are
-- those terms, and the word of each name and each text has the number that the call leaves for it.
use Prim.Native.Nat.{ℕ, ◌<◌}
use native.Mathlib.Omega.{arith}
use mathlib.Core.Path.{◌≡◌, sym, ◌∙◌, ap}
use mathlib.Core.Bool.{true}
use mathlib.Core.Option.{some}
use mathlib.Core.List.{List, [], map}
use lib.ListN.{length, get_or}
use Rattle.words.specs.Words as words
use Rattle.sequences.specs.Sequences.{all}
use Rattle.sequences.proofs.Ascending.{neighbours_ascending}
use Rattle.calls.specs.Calls.{NotRefused}
use Rattle.dictionaries.specs.Dictionaries.{strings_of}
use Rattle.dictionaries.specs.Lookups.{lookup_in}
use Rattle.dictionaries.proofs.Strings.{before_ordered}
use Rattle.dictionaries.proofs.Searching.{lookup_at, strings_length}
use Rattle.dictionary_numberings.specs.NumberCall.{NumberInput, given_strings, number_call, bytes_left, ends_left, numbers_left}
use Rattle.dictionary_numberings.proofs.NumberCall.{bytes_left_lem, ends_left_lem, numbers_right}
use Rattle.sparql.specs.Terms.{iri, text}
use Rattle.sparql_strings.specs.Decoding.{term_decoded}
use Rattle.sparql_strings.specs.Strings.{RightDictionaries, decoding}
use Rattle.encodings.specs.Encodings.{StringTerm, in_code_points, found_word, word_of, words_of, is_encodable}
use Rattle.encodings.specs.Gathered.{names_in, texts_in, dictionaries_of}
use Rattle.encodings.specs.NumberedTerms.{NumbersTerms, dictionaries_left}
use Rattle.encodings.proofs.Encoded.{encoded}
use Rattle.encodings.proofs.Gathered.{encodes}

-- ---- the word of a string that a served call was given
found_numbered : (i : NumberInput) → NotRefused number_call i → (kind : ℕ → ℕ) (ss : List (List ℕ)) → given_strings i ≡ ss
    → (k : ℕ) → k < length ss
    → found_word kind (lookup_in (strings_of (bytes_left i) (ends_left i)) (get_or ss k [])) ≡ some (kind (get_or (numbers_left i) k 0))
found_numbered i h kind ss e k l =
    let d = numbers_right i h in
    let m : k < length (given_strings i) = omega (arith, ap length e) in
    let w = d.within k m in
    let own = strings_of (bytes_left i) (ends_left i) in
    let n = strings_length (bytes_left i) 0 (ends_left i) in
    ap (found_word kind)
    (sym
    (lookup_at (get_or ss k []) own (neighbours_ascending before_ordered own d.right.right.ascend) (get_or (numbers_left i) k 0) (omega arith)
    (d.stands k m ∙ ap (λ l. get_or l k []) e)))

module _ (xs : List StringTerm) (names texts : NumberInput) (t : NumbersTerms xs names texts) where
  pub dictionaries_numbered : dictionaries_left names texts ≡ dictionaries_of xs
  dictionaries_numbered =
      rw (
        bytes_left_lem names t.names_served,
        ends_left_lem names t.names_served,
        bytes_left_lem texts t.texts_served,
        ends_left_lem texts t.texts_served,
        t.names_given,
        t.texts_given,
      )

  -- the terms have words, but for whole numbers out of 30 bits
  pub numbered_encodes : all is_encodable xs ≡ true → (ws : List ℕ) × (words_of (dictionaries_left names texts) xs ≡ some ws)
  numbered_encodes e = let r = encodes xs e in (r.0, ap (λ d. words_of d xs) dictionaries_numbered ∙ r.1)

  left_right : RightDictionaries (dictionaries_left names texts)
  left_right = record { names = (numbers_right names t.names_served).right.right; texts = (numbers_right texts t.texts_served).right.right }

  pub numbered_encoded : (ws : List ℕ) → words_of (dictionaries_left names texts) xs ≡ some ws
      → map (term_decoded (decoding (dictionaries_left names texts))) ws ≡ map in_code_points xs
  numbered_encoded ws e = encoded (dictionaries_left names texts) left_right xs ws e

  -- and their words have the numbers left
  pub name_numbered : (k : ℕ) → k < length (names_in xs)
      → word_of (dictionaries_left names texts) (iri (get_or (names_in xs) k [])) ≡ some (words.name (get_or (numbers_left names) k 0))
  name_numbered k l = found_numbered names t.names_served words.name (names_in xs) t.names_given k l

  pub text_numbered : (k : ℕ) → k < length (texts_in xs)
      → word_of (dictionaries_left names texts) (text (get_or (texts_in xs) k [])) ≡ some (words.text (get_or (numbers_left texts) k 0))
  text_numbered k l = found_numbered texts t.texts_served words.text (texts_in xs) t.texts_given k l
