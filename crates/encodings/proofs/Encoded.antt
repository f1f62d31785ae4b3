-- Terms turned into words by right dictionaries and decoded again are those terms.
use Prim.Native.Nat.{ℕ, suc, ◌+◌, ◌-◌, ◌*◌, ◌/◌, ◌%◌, ◌<◌}
use native.Mathlib.Omega.{arith}
use native.Mathlib.Decide.{dec_lt}
use mathlib.Core.Path.{◌≡◌, refl, sym, ◌∙◌, ap, ap₂}
use mathlib.Core.Bool.{Bool, true, false}
use mathlib.Core.Option.{Option, none, some}
use mathlib.Core.List.{List, [], ◌∷◌, map}
use lib.ListN.{length}
use lib.IntN.{ℤ, pos, negsuc}
use borrow.Author.Tests.{eq-eqb, ne_eqb, lt-ltb, le-ltb, ltb-true, leb-true}
use Rattle.words.specs.Words as words
use Rattle.sequences.proofs.Booleans.{absurd_true, Decided, decided}
use Rattle.words.proofs.Signed.{below, above, sub_same}
use Rattle.sequences.proofs.Ascending.{neighbours_ascending}
use Rattle.sequences.proofs.Somewhere.{map_at}
use Rattle.plans.specs.Conditions.{next}
use Rattle.std.specs.Prelude.{Result, Ok, Err}
use Rattle.dictionaries.specs.Utf8.{code_points}
use Rattle.dictionaries.specs.Dictionaries.{strings_of, RightDictionary, most_strings}
use Rattle.dictionaries.specs.Lookups.{lookup_in}
use Rattle.dictionaries.proofs.Strings.{before_ordered}
use Rattle.dictionaries.proofs.Ranking.{found}
use Rattle.dictionaries.proofs.Searching.{strings_length}
use Rattle.sparql.specs.Terms.{iri, integer, text}
use Rattle.sparql.specs.Reading.{term_of, twos_complement, whole_number}
use Rattle.sparql.proofs.Terms.{Sort, a_number, a_text, a_name, sort_of}
use Rattle.sparql.proofs.TwosComplement.{whole_difference}
use Rattle.sparql_strings.specs.Carrying.{carry_term}
use Rattle.sparql_strings.specs.Decoding.{term_decoded}
use Rattle.sparql_strings.specs.Strings.{no_string, decoded, Dictionaries, RightDictionaries, decoding}
use Rattle.encodings.specs.Encodings.{StringTerm, in_code_points, is_signed30, bits_of30, number_word, found_word, word_of, words_of}

-- ---- words of each kind
name_read : (n : ℕ) → n < 0x4000_0000 → term_of (words.name n) ≡ iri n
name_read n h =
    let v : words.name n ≡ n = omega arith in
    rw (ne_eqb (words.term_kind (words.name n)) 1 (λ e. omega arith), ne_eqb (words.term_kind (words.name n)) 2 (λ e. omega arith)) (ap iri v)

text_read : (n : ℕ) → n < 0x4000_0000 → term_of (words.text n) ≡ text n
text_read n h =
    let k : words.term_kind (words.text n) ≡ 2 = omega arith in
    let v : words.term_value (words.text n) ≡ n = omega arith in
    rw (ne_eqb (words.term_kind (words.text n)) 1 (λ e. omega arith), eq-eqb (words.term_kind (words.text n)) 2 k, v) refl

number_read : (n : ℕ) → n < 0x4000_0000 → term_of (words.number n) ≡ integer (whole_number n)
number_read n h =
    let k : words.term_kind (words.number n) ≡ 1 = omega arith in
    let v : words.term_value (words.number n) ≡ n = omega arith in
    rw (eq-eqb (words.term_kind (words.number n)) 1 k, v) refl

bits_below_lem : (z : ℤ) → is_signed30 z ≡ true → bits_of30 z < 0x4000_0000
bits_below_lem (pos n) h = let l = ltb-true n 0x2000_0000 h in omega arith
bits_below_lem (negsuc n) h = omega arith

bits_read : (z : ℤ) → is_signed30 z ≡ true → whole_number (bits_of30 z) ≡ z
unfolding twos_complement
bits_read (pos n) h =
    let l = ltb-true n 0x2000_0000 h in
    sub_same (n % 0x2000_0000) (0x2000_0000 * (n / 0x2000_0000)) n 0 (omega arith)
    ∙ rw (le-ltb n 0 (omega arith)) (ap pos (let e : n - 0 ≡ n = omega arith in e))
bits_read (negsuc n) h =
    let l = ltb-true n 0x2000_0000 h in
    let b = bits_of30 (negsuc n) in
    sub_same (b % 0x2000_0000) (0x2000_0000 * (b / 0x2000_0000)) 0 (suc n) (omega arith)
    ∙ rw (lt-ltb 0 (suc n) (omega arith)) (ap negsuc (let e : suc n - 1 ≡ n = omega arith in e))

-- ---- a string by its place
decoded_at : (bytes ends s : List ℕ) → RightDictionary bytes ends → (n : ℕ) → lookup_in (strings_of bytes ends) s ≡ Ok n
    → (n < 0x4000_0000) × (decoded bytes ends n ≡ code_points s)
decoded_at bytes ends s r n e =
    let ss = strings_of bytes ends in
    let f = (found s ss (neighbours_ascending before_ordered ss r.ascend) n).0 e in
    let l = strings_length bytes 0 ends in
    let w = f.within in
    let few = leb-true (length ends) most_strings r.few in
    (omega arith, map_at code_points ss [] (no_string n) n w ∙ ap code_points f.is)

-- the first word and the others
pub record Split (d : Dictionaries) (x : StringTerm) (xs : List StringTerm) (ws : List ℕ) : Type 0 where
  pub word : ℕ
  pub rest : List ℕ
  pub whole : ws ≡ word ∷ rest
  pub first : word_of d x ≡ some word
  pub others : words_of d xs ≡ some rest

pub split : (d : Dictionaries) (x : StringTerm) (xs : List StringTerm) (ws : List ℕ) → words_of d (x ∷ xs) ≡ some ws → Split d x xs ws
unfolding words_of
split d x xs ws e = go (word_of d x) refl (words_of d xs) refl e
  where
    go : (a : Option ℕ) → word_of d x ≡ a → (b : Option (List ℕ)) → words_of d xs ≡ b → next a (λ w. next b (λ vs. some (w ∷ vs))) ≡ some ws
        → Split d x xs ws
    go none p b q f = absurd (let z : ◌≡◌ {A = ℕ} 0 1 = cc in omega arith)
    go (some w) p none q f = absurd (let z : ◌≡◌ {A = ℕ} 0 1 = cc in omega arith)
    go (some w) p (some vs) q f = record { word = w; rest = vs; whole = (let g : ws ≡ w ∷ vs = cc in g); first = p; others = q }

module _ (d : Dictionaries) (r : RightDictionaries d) where
  name_back : (s : List ℕ) (l : Result ℕ ℕ) → lookup_in (strings_of d.name_bytes d.name_ends) s ≡ l → (w : ℕ) → found_word words.name l ≡ some w
      → term_decoded (decoding d) w ≡ iri (code_points s)
  name_back s (Ok n) e w f =
      let k = decoded_at d.name_bytes d.name_ends s r.names n e in
      let g : w ≡ words.name n = cc in
      ap (term_decoded (decoding d)) g ∙ ap (carry_term (decoding d)) (name_read n k.0) ∙ ap iri k.1
  name_back s (Err n) e w f = absurd (let z : ◌≡◌ {A = ℕ} 0 1 = cc in omega arith)

  text_back : (s : List ℕ) (l : Result ℕ ℕ) → lookup_in (strings_of d.text_bytes d.text_ends) s ≡ l → (w : ℕ) → found_word words.text l ≡ some w
      → term_decoded (decoding d) w ≡ text (code_points s)
  text_back s (Ok n) e w f =
      let k = decoded_at d.text_bytes d.text_ends s r.texts n e in
      let g : w ≡ words.text n = cc in
      ap (term_decoded (decoding d)) g ∙ ap (carry_term (decoding d)) (text_read n k.0) ∙ ap text k.1
  text_back s (Err n) e w f = absurd (let z : ◌≡◌ {A = ℕ} 0 1 = cc in omega arith)

  number_back : (z : ℤ) → Decided (is_signed30 z) → (w : ℕ) → number_word z ≡ some w → term_decoded (decoding d) w ≡ integer z
  number_back z (Decided.yes h) w f =
      let g : w ≡ words.number (bits_of30 z) = (let f' : some (words.number (bits_of30 z)) ≡ some w = (rw h at f) in cc) in
      ap (term_decoded (decoding d)) g
      ∙ ap (carry_term (decoding d)) (number_read (bits_of30 z) (bits_below_lem z h))
      ∙ ap integer (bits_read z h)
  number_back z (Decided.no h) w f = absurd (let f' : none ≡ some w = (rw h at f) in let z : ◌≡◌ {A = ℕ} 0 1 = cc in omega arith)

  pub term_encoded : (x : StringTerm) (w : ℕ) → word_of d x ≡ some w → term_decoded (decoding d) w ≡ in_code_points x
  term_encoded (iri s) w e = name_back s (lookup_in (strings_of d.name_bytes d.name_ends) s) refl w e
  term_encoded (integer z) w e = number_back z (decided (is_signed30 z)) w e
  term_encoded (text s) w e = text_back s (lookup_in (strings_of d.text_bytes d.text_ends) s) refl w e

  pub encoded : (xs : List StringTerm) (ws : List ℕ) → words_of d xs ≡ some ws → map (term_decoded (decoding d)) ws ≡ map in_code_points xs
  unfolding words_of
  encoded [] ws e = let f : ws ≡ [] = cc in ap (map (term_decoded (decoding d))) f
  encoded (x ∷ xs) ws e =
      let a = split d x xs ws e in
      ap (map (term_decoded (decoding d))) a.whole ∙ ap₂ ◌∷◌ (term_encoded x a.word a.first) (encoded xs a.rest a.others)

abbrev is_number_term : StringTerm → Bool
is_number_term (iri s) = false
is_number_term (integer n) = true
is_number_term (text s) = false

-- a whole number that is out of its 30 bits is no term: no word stands for it
whole_signed : (v : ℕ) → v < 0x4000_0000 → is_signed30 (whole_number v) ≡ true
whole_signed v h =
    let a = (v + words.half_values) % words.term_values in
    ap is_signed30 (whole_difference v h)
    ∙ elim (dec_lt a words.half_values) [
      | yes l ↦ ap is_signed30 (below a words.half_values l) ∙ lt-ltb (words.half_values - suc a) 0x2000_0000 (omega arith)
      | no l ↦ ap is_signed30 (above a words.half_values (omega arith)) ∙ lt-ltb (a - words.half_values) 0x2000_0000 (omega arith)
    ]

pub no_term : (d : Dictionaries) (w : ℕ) (z : ℤ) → term_decoded (decoding d) w ≡ integer z → is_signed30 z ≡ true
no_term d w z e = go (sort_of w)
  where
    apart : (x : StringTerm) → x ≡ integer z → is_number_term x ≡ true
    apart x f = ap is_number_term f

    go : Sort w → is_signed30 z ≡ true
    go (a_number p q) =
        let t : term_of w ≡ integer (whole_number (words.term_value w)) = simp (p, q) in
        let f : integer (whole_number (words.term_value w)) ≡ integer z = sym (ap (carry_term (decoding d)) t) ∙ e in
        let g : whole_number (words.term_value w) ≡ z = cc in
        ap is_signed30 (sym g) ∙ whole_signed (words.term_value w) (omega arith)
    go (a_text p q) = absurd_true (apart (term_decoded (decoding d) w) e) (simp (p, q))
    go (a_name p q) = absurd_true (apart (term_decoded (decoding d) w) e) (simp (p, q))
