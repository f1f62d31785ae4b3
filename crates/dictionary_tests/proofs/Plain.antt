-- Whether a string is one of a kind; and that where all bytes are ASCII each string is well-formed.
use Prim.Native.Nat.{ℕ, ◌-◌, ◌<◌}
use native.Mathlib.Omega.{arith}
use mathlib.Core.Path.{◌≡◌, refl, sym, ap, ◌∙◌}
use mathlib.Core.Bool.{true, ◌&&◌, not}
use Rattle.std.proofs.lemmas.Bool.Decides.{nat_tests}
use mathlib.Core.List.{List, [], ◌∷◌}
use lib.Dec.{eqb, ltb}
use lib.ListN.{length, get_or, drop}
use Rattle.sequences.specs.Sequences.{all}
use Rattle.sequences.proofs.Each.{all_drop}
use Rattle.sequences.proofs.Elements.{all_take, element_all}
use Rattle.dictionaries.specs.declared.StringKind.{StringKind}
use Rattle.dictionaries.specs.declared.StringKind.TheVariants.{Names, Texts}
use Rattle.dictionaries.specs.Utf8.{well_formed}
use Rattle.dictionaries.specs.Dictionaries.{byte_range, strings_of}
use Rattle.dictionaries.specs.Checking.{iri_character, is_iri, string_right}
use Rattle.dictionaries.proofs.Checking.{iri_bytes}
use Rattle.dictionaries.proofs.Searching.{strings_length, strings_at_lem}
use Rattle.dictionary_checks.proofs.Ascii.{ascii_byte, ascii_formed, and-true}

pub name_right : (k : StringKind) (s : List ℕ) → k ≡ Names → well_formed s ≡ true → is_iri s ≡ string_right k s
name_right k s e f = iri_bytes s f ∙ sym (ap (λ j. string_right j s) e ∙ rw f refl)

-- ---- ASCII alone
module _ (bytes ends : List ℕ) (e : all ascii_byte bytes ≡ true) where
  pub plain_formed : (n : ℕ) → n < length ends → well_formed (get_or (strings_of bytes ends) n []) ≡ true
  plain_formed n h =
      let a = get_or (0 ∷ ends) n 0 in
      let z = get_or ends n 0 in
      ap well_formed (strings_at_lem bytes 0 ends n h)
      ∙ ascii_formed (byte_range bytes a z) (all_take ascii_byte (z - a) (drop a bytes) (all_drop ascii_byte a bytes e))

  pub plain_texts : all (string_right Texts) (strings_of bytes ends) ≡ true
  plain_texts =
      let l = strings_length bytes 0 ends in
      element_all (string_right Texts) [] (strings_of bytes ends) (λ i h. plain_formed i (omega arith))

pub some_long : (s : List ℕ) → ltb 0 (length s) ≡ not (eqb (length s) 0)
some_long s = grind (arith, nat_tests)

-- ---- and bytes that may stand in a name
module _ (bytes ends : List ℕ) (e : all ascii_byte bytes ≡ true) (f : all iri_character bytes ≡ true) where
  iri_string : (n : ℕ) → n < length ends → all iri_character (get_or (strings_of bytes ends) n []) ≡ true
  iri_string n h =
      let a = get_or (0 ∷ ends) n 0 in
      let z = get_or ends n 0 in
      ap (all iri_character) (strings_at_lem bytes 0 ends n h) ∙ all_take iri_character (z - a) (drop a bytes) (all_drop iri_character a bytes f)

  pub plain_name : (n : ℕ) → n < length ends
      → string_right Names (get_or (strings_of bytes ends) n []) ≡ ltb 0 (length (get_or (strings_of bytes ends) n []))
  plain_name n h =
      let s = get_or (strings_of bytes ends) n [] in
      sym (name_right Names s refl (plain_formed bytes ends e n h)) ∙ (ap (λ b. ltb 0 (length s) && b) (iri_string n h) ∙ and-true (ltb 0 (length s)))
