-- Marks of the bytes that may not stand in an IRI: 1, and 0 for the others; the greatest tells whether there is one.
use Prim.Native.Nat.{ℕ, suc, ◌+◌, ◌≤◌, ◌<◌, max}
use Rattle.std.proofs.lemmas.Bool.Decides.{nat_tests}
use native.Mathlib.Omega.{arith}
use native.Mathlib.Numerals.{add-one}
use mathlib.Core.Path.{◌≡◌, refl, sym, ◌∙◌, ap}
use mathlib.Core.Bool.{Bool, true, false, cond, not, ◌&&◌, ◌||◌}
use mathlib.Core.List.{List}
use mir.Val.{bool_byte}
use lib.Dec.{eqb, ltb, leb}
use lib.ListN.{length, get_or, drop, drop_of_length-le}
use lib.Seq.{drop-cons}
use borrow.Author.Tests.{le-leb, lt-leb, ltb-true, ltb-false}
use Rattle.sequences.specs.Sequences.{all, member}
use Rattle.sequences.proofs.Booleans.{yes, no, decided}
use Rattle.dictionaries.specs.Checking.{iri_character, iri_excluded}
use Rattle.dictionary_checks.proofs.Ascii.{and_three, and-true}

-- one of nine, or low
nine : (l a b c d e f g h i : Bool)
    → cond {A = ℕ} a 1 (cond b 1 (cond c 1 (cond d 1 (cond e 1 (cond f 1 (cond g 1 (cond h 1 (cond i 1 (cond l 1 0)))))))))
    ≡ cond (not l && not (a || (b || (c || (d || (e || (f || (g || (h || (i || false)))))))))) 0 1
nine true true b c d e f g h i = refl
nine true false true c d e f g h i = refl
nine true false false true d e f g h i = refl
nine true false false false true e f g h i = refl
nine true false false false false true f g h i = refl
nine true false false false false false true g h i = refl
nine true false false false false false false true h i = refl
nine true false false false false false false false true i = refl
nine true false false false false false false false false true = refl
nine true false false false false false false false false false = refl
nine false true b c d e f g h i = refl
nine false false true c d e f g h i = refl
nine false false false true d e f g h i = refl
nine false false false false true e f g h i = refl
nine false false false false false true f g h i = refl
nine false false false false false false true g h i = refl
nine false false false false false false false true h i = refl
nine false false false false false false false false true i = refl
nine false false false false false false false false false true = refl
nine false false false false false false false false false false = refl

-- a test as a byte
pub low_byte : (x : Bool) → bool_byte x ≡ cond x 1 0
low_byte true = refl
low_byte false = refl

above : (b : ℕ) → ltb 0x20 b ≡ not (leb b 0x20)
above b = elim (decided (ltb 0x20 b)) [
  | yes e ↦ let h = ltb-true 0x20 b e in e ∙ sym (ap not (lt-leb b 0x20 (omega arith)))
  | no e ↦ let h = ltb-false 0x20 b e in e ∙ sym (ap not (le-leb b 0x20 (omega arith)))
]

pub mark_says : (b : ℕ)
    → cond {A = ℕ} (eqb b 0x22) 1 (cond (eqb b 0x3C) 1 (cond (eqb b 0x3E) 1 (cond (eqb b 0x5C) 1 (cond (eqb b 0x5E) 1 (cond (eqb b 0x60) 1
    (cond (eqb b 0x7B) 1 (cond (eqb b 0x7C) 1 (cond (eqb b 0x7D) 1 (cond (leb b 0x20) 1 0)))))))))
    ≡ cond (iri_character b) 0 1
unfolding iri_character member
mark_says b =
    nine (leb b 0x20) (eqb b 0x22) (eqb b 0x3C) (eqb b 0x3E) (eqb b 0x5C) (eqb b 0x5E) (eqb b 0x60) (eqb b 0x7B) (eqb b 0x7C) (eqb b 0x7D)
    ∙ ap (λ x. cond (x && not (member b iri_excluded)) 0 1) (sym (above b))

-- the greater of two marks is 0 exactly where both are
greater_none : (g : ℕ) (x : Bool) → eqb (max g (cond x 0 1)) 0 ≡ eqb g 0 && x
greater_none g true = grind (arith, nat_tests)
greater_none g false = grind (arith, nat_tests)

module _ (bytes : List ℕ) (i g : ℕ) where
  pub marks_step : i < length bytes
      → eqb g 0 && all iri_character (drop i bytes)
      ≡ eqb (max g (cond (iri_character (get_or bytes i 0)) 0 1)) 0 && all iri_character (drop (i + 1) bytes)
  unfolding all
  marks_step h =
      rw (add-one i, drop-cons bytes i 0 h, greater_none g (iri_character (get_or bytes i 0)))
      (and_three (eqb g 0) (iri_character (get_or bytes i 0)) (all iri_character (drop (suc i) bytes)))

  pub marks_end : length bytes ≤ i → eqb g 0 && all iri_character (drop i bytes) ≡ eqb g 0
  unfolding all
  marks_end h = rw (drop_of_length-le bytes {i = i} h) (and-true (eqb g 0))
