-- Bytes that are all ASCII: their greatest tells, and they are well-formed.
use Prim.Native.Nat.{ℕ, suc, ◌+◌, ◌≤◌, ◌<◌, max}
use Rattle.std.proofs.lemmas.Bool.Decides.{nat_tests}
use native.Mathlib.Omega.{arith}
use native.Mathlib.Numerals.{add-one}
use mathlib.Core.Path.{◌≡◌, refl, ◌∙◌, ap}
use mathlib.Core.Bool.{Bool, true, false, ◌&&◌}
use mathlib.Core.List.{List, [], ◌∷◌}
use lib.Dec.{leb}
use lib.ListN.{length, get_or, drop, drop_of_length-le}
use lib.Seq.{drop-cons}
use borrow.Author.Tests.{le-leb}
use Rattle.sequences.specs.Sequences.{all}
use Rattle.sequences.proofs.Booleans.{and_left, and_right}
use Rattle.dictionaries.specs.Utf8.{span, is_in, formed_from, well_formed}
use Rattle.dictionary_checks.specs.declared.Rest.TheVariants.{Nothing}
use Rattle.std.specs.Prelude.{Some}
use Rattle.dictionary_checks.specs.Steps.{first_step, formed_after}
use Rattle.dictionary_checks.proofs.Stepping.{next_formed}

abbrev pub ascii_byte : ℕ → Bool
ascii_byte b = is_in (span 0x00 0x7F) b

-- ---- the greater of two bytes is ASCII exactly where both are
greater_ascii : (g b : ℕ) → leb (max g b) 0x7F ≡ leb g 0x7F && leb b 0x7F
greater_ascii g b = grind (arith, nat_tests)

pub and_three : (a b c : Bool) → a && (b && c) ≡ (a && b) && c
and_three true b c = refl
and_three false b c = refl

pub and-true : (a : Bool) → a && true ≡ a
and-true true = refl
and-true false = refl

-- what the greatest byte so far and the others say
module _ (bytes : List ℕ) (i g : ℕ) where
  pub ascii_step : i < length bytes
      → leb g 0x7F && all ascii_byte (drop i bytes) ≡ leb (max g (get_or bytes i 0)) 0x7F && all ascii_byte (drop (i + 1) bytes)
  unfolding all
  ascii_step h =
      let b = get_or bytes i 0 in
      rw (add-one i, drop-cons bytes i 0 h, greater_ascii g b, le-leb 0 b (omega arith))
      (and_three (leb g 0x7F) (leb b 0x7F) (all ascii_byte (drop (suc i) bytes)))

  pub ascii_end : length bytes ≤ i → leb g 0x7F && all ascii_byte (drop i bytes) ≡ leb g 0x7F
  unfolding all
  ascii_end h = rw (drop_of_length-le bytes {i = i} h) (and-true (leb g 0x7F))

-- ---- and then they are well-formed
none_formed : well_formed [] ≡ true
unfolding formed_from
none_formed = refl

ascii_first : (b : ℕ) → ascii_byte b ≡ true → first_step b ≡ Some Nothing
unfolding first_step
ascii_first b e = rw e refl

pub one_byte : (b : ℕ) (bs : List ℕ) → ascii_byte b ≡ true → well_formed (b ∷ bs) ≡ well_formed bs
one_byte b bs e = next_formed Nothing b bs ∙ ap (formed_after bs) (ascii_first b e)

pub ascii_formed : (bytes : List ℕ) → all ascii_byte bytes ≡ true → well_formed bytes ≡ true
unfolding all
ascii_formed [] e = none_formed
ascii_formed (b ∷ bs) e =
    one_byte b bs (and_left (ascii_byte b) (all ascii_byte bs) e) ∙ ascii_formed bs (and_right (ascii_byte b) (all ascii_byte bs) e)
