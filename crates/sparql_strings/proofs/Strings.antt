-- A right dictionary keeps equality and order: numbers are the same exactly where their strings are, and less exactly where these come before.
use Prim.Native.Nat.{ℕ, zero, suc, ◌+◌, ◌<◌}
use native.Mathlib.Omega.{arith}
use mathlib.Core.Path.{◌≡◌, refl, sym, ◌∙◌, ap, ap₂}
use mathlib.Core.Bool.{true, false}
use mathlib.Core.List.{List, [], ◌∷◌, map}
use lib.Dec.{eqb, ltb}
use lib.ListN.{length, get_or, get_or-eq_default}
use borrow.Author.Tests.{lt-ltb, le-ltb, eq-eqb, ne_eqb}
use native.Mathlib.Decide.{dec_lt}
use Rattle.sequences.proofs.Booleans.{absurd_true, Decided, decided}
use Rattle.sequences.proofs.Orders.{Three, less, same, more, three}
use Rattle.sequences.proofs.Each.{Each, all_each}
use Rattle.sequences.proofs.Ascending.{Ascending, neighbours_ascending}
use Rattle.sequences.proofs.Somewhere.{each_at}
use Rattle.sequences.proofs.SortedStrictly.{ascending_pairs}
use Rattle.dictionaries.specs.Strings.{string_before, same_string}
use Rattle.dictionaries.specs.Utf8.{well_formed, code_points}
use Rattle.dictionaries.specs.Dictionaries.{strings_of, RightDictionary}
use Rattle.dictionaries.proofs.Strings.{before_less, before_some, before_asym, before_self, before_ordered, same_self, same_equal}
use Rattle.dictionaries.proofs.CodePoints.{code_points_lem, points_below}
use Rattle.sparql_strings.specs.Carrying.{Keeps, Equality}
use Rattle.sparql_strings.specs.Strings.{by_string, no_string, decoded, Dictionaries, RightDictionaries, decoding}

-- ---- a function that rises keeps equality and order
module _ (f : ℕ → List ℕ) (rises : (a b : ℕ) → a < b → string_before (f a) (f b) ≡ true) where
  risen_before : (a b : ℕ) → string_before (f a) (f b) ≡ ltb a b
  risen_before a b = go (three a b)
    where
      go : Three a b → string_before (f a) (f b) ≡ ltb a b
      go (less h) = rises a b h ∙ sym (lt-ltb a b h)
      go (same h) = ap (λ n. string_before (f a) (f n)) (sym h) ∙ before_self (f a) ∙ sym (le-ltb a b (omega arith))
      go (more h) = before_asym (f b) (f a) (rises b a h) ∙ sym (le-ltb a b (omega arith))

  apart : (a b : ℕ) → a < b → (x y : List ℕ) → f a ≡ x → f b ≡ y → Decided (same_string x y) → same_string x y ≡ false
  apart a b h x y p q (Decided.no e) = e
  apart a b h x y p q (Decided.yes e) =
      absurd_true (rises a b h) (ap₂ string_before p (q ∙ sym (same_equal x y e)) ∙ before_self x)

  apart_back : (a b : ℕ) → a < b → (x y : List ℕ) → f a ≡ x → f b ≡ y → Decided (same_string y x) → same_string y x ≡ false
  apart_back a b h x y p q (Decided.no e) = e
  apart_back a b h x y p q (Decided.yes e) =
      absurd_true (rises a b h) (ap₂ string_before p (q ∙ same_equal y x e) ∙ before_self x)

  risen_same : (a b : ℕ) → same_string (f a) (f b) ≡ eqb a b
  risen_same a b = go (three a b)
    where
      go : Three a b → same_string (f a) (f b) ≡ eqb a b
      go (less h) = apart a b h (f a) (f b) refl refl (decided (same_string (f a) (f b))) ∙ sym (ne_eqb a b (λ e. omega arith))
      go (same h) = ap (λ n. same_string (f a) (f n)) (sym h) ∙ same_self (f a) ∙ sym (eq-eqb a b h)
      go (more h) = apart_back b a h (f b) (f a) refl refl (decided (same_string (f a) (f b))) ∙ sym (ne_eqb a b (λ e. omega arith))

-- ---- the strings of a dictionary, decoded
ahead : (x : List ℕ) (ss : List (List ℕ)) → well_formed x ≡ true → Each (λ s. well_formed s ≡ true) ss
    → Each (λ y. string_before x y ≡ true) ss → Each (λ y. string_before (code_points x) y ≡ true) (map code_points ss)
ahead x [] f w a = tt
ahead x (s ∷ ss) f w a = (sym (code_points_lem x s f w.0) ∙ a.0, ahead x ss f w.1 a.1)

ascending : (ss : List (List ℕ)) → Each (λ s. well_formed s ≡ true) ss → Ascending string_before ss → Ascending string_before (map code_points ss)
ascending [] w a = tt
ascending (s ∷ ss) w a = (ahead s ss w.0 w.1 a.0, ascending ss w.1 a.1)

below : (ss : List (List ℕ)) → Each (λ s. well_formed s ≡ true) ss → Each (λ s. Each (λ c. c < 0x110000) s) (map code_points ss)
below [] w = tt
below (s ∷ ss) w = (points_below s w.0, below ss w.1)

before_none : (n : ℕ) (s : List ℕ) → Each (λ c. c < 0x110000) s → string_before s (no_string n) ≡ true
before_none n [] e = before_some (0x110000 + n) []
before_none n (c ∷ s) e = let h = e.0 in before_less {x = c} {y = 0x110000 + n} s [] (omega arith)

inside : (ps : List (List ℕ)) (n : ℕ) (d e : List ℕ) → n < length ps → get_or ps n d ≡ get_or ps n e
inside [] n d e h = absurd (omega arith)
inside (p ∷ ps) zero d e h = refl
inside (p ∷ ps) (suc n) d e h = inside ps n d e (omega arith)

rising : (ps : List (List ℕ)) → Ascending string_before ps → Each (λ s. Each (λ c. c < 0x110000) s) ps
    → (a b : ℕ) → a < b → string_before (get_or ps a (no_string a)) (get_or ps b (no_string b)) ≡ true
rising ps up low a b h =
    elim (dec_lt b (length ps)) [
      | yes k ↦
          ap₂ string_before (inside ps a (no_string a) [] (omega arith)) (inside ps b (no_string b) [] k)
          ∙ ascending_pairs string_before ps [] up a b h k
      | no k ↦
          let out : get_or ps b (no_string b) ≡ no_string b = get_or-eq_default ps (no_string b) {n = b} (omega arith) in
          elim (dec_lt a (length ps)) [
            | yes l ↦ ap (string_before (get_or ps a (no_string a))) out
                ∙ before_none b (get_or ps a (no_string a)) (each_at (λ s. Each (λ c. c < 0x110000) s) ps (no_string a) low a l)
            | no l ↦
                ap₂ string_before (get_or-eq_default ps (no_string a) {n = a} (omega arith)) out
                ∙ before_less {x = 0x110000 + a} {y = 0x110000 + b} [] [] (omega arith)
          ]
    ]

pub decoded_rises : (bytes ends : List ℕ) → RightDictionary bytes ends → (a b : ℕ) → a < b
    → string_before (decoded bytes ends a) (decoded bytes ends b) ≡ true
decoded_rises bytes ends r =
    let ss = strings_of bytes ends in
    let w : Each (λ s. well_formed s ≡ true) ss = all_each well_formed ss r.formed in
    rising (map code_points ss) (ascending ss w (neighbours_ascending before_ordered ss r.ascend)) (below ss w)

pub strings_equality : Equality by_string
strings_equality = record { self = same_self; equal = same_equal }

pub decoding_keeps : (d : Dictionaries) → RightDictionaries d → Keeps (decoding d)
decoding_keeps d r =
    let names = decoded_rises d.name_bytes d.name_ends r.names in
    let texts = decoded_rises d.text_bytes d.text_ends r.texts in
    record {
      same_name = risen_same (decoded d.name_bytes d.name_ends) names;
      same_text = risen_same (decoded d.text_bytes d.text_ends) texts;
      name_before = risen_before (decoded d.name_bytes d.name_ends) names;
      text_before = risen_before (decoded d.text_bytes d.text_ends) texts;
    }
