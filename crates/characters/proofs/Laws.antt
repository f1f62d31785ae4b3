-- Characters one by one: what the first of some bytes is, how far it reaches, and that the others follow it.
use Prim.Native.Nat.{ℕ, zero, suc, ◌+◌, ◌-◌, ◌*◌, ◌≤◌, ◌<◌, zero-le}
use native.Mathlib.Omega.{arith}
use native.Mathlib.Nat.{add-zero}
use native.Mathlib.Numerals.{add-one}
use mathlib.Core.Path.{◌≡◌, refl, sym, ◌∙◌, ap}
use mathlib.Core.Bool.{Bool, true, ◌&&◌, not, true≢false}
use mathlib.Core.Option.{Option, none, some}
use mathlib.Core.List.{List, [], ◌∷◌}
use lib.Dec.{eqb, ltb}
use lib.ListN.{length, get_or, drop, drop_of_length-le, length-drop}
use lib.Seq.{drop-cons, drop-drop}
use Rattle.sequences.proofs.Booleans.{yes, no, decided}
use Rattle.dictionaries.specs.Utf8.{Span, is_in, after_first, first_bits, six_more}
use Rattle.characters.specs.declared.Character.{Character}
use Rattle.characters.specs.Sequences.{no_point, sequence_from, sequence_by, sequence_of}
use Rattle.characters.specs.Escapes.{hex_digit, hex_from, is_scalar, backslash, escape_to, escape_of}
use Rattle.characters.specs.Characters.{character_at, leaves_backslash, character_on, characters_from}

-- ---- a character ends within the bytes
from_fits : (bs : List ℕ) (ss : List Span) (c n : ℕ) → (sequence_from bs ss c n).more ≤ n + length bs
unfolding sequence_from
from_fits [] [] c n = omega arith
from_fits (b ∷ bs) [] c n = omega arith
from_fits [] (s ∷ ss) c n = zero-le
from_fits (b ∷ bs) (s ∷ ss) c n =
    elim (decided (is_in s b)) [
      | yes k ↦ rw k (omega (arith, from_fits bs ss (six_more c b) (n + 1)))
      | no k ↦ rw k zero-le
    ]

by_fits : (o : Option (List Span)) (a : ℕ) (bs : List ℕ) → (sequence_by o a bs).more ≤ length bs
by_fits none a bs = zero-le
by_fits (some ss) a bs = omega (arith, from_fits bs ss (first_bits ss a) 0)

sequence_fits : (a : ℕ) (bs : List ℕ) → (sequence_of a bs).more ≤ length bs
unfolding sequence_of
sequence_fits a bs = by_fits (after_first a) a bs

-- digits that come to a code point are all there
digits_there : (k : ℕ) (bs : List ℕ) (v : ℕ) → is_scalar (hex_from k bs v) ≡ true → k ≤ length bs
unfolding hex_from
digits_there zero bs v e = zero-le
digits_there (suc k) [] v e = absurd (true≢false (sym e))
digits_there (suc k) (b ∷ bs) v e =
    elim (decided (ltb (hex_digit b) 16 && ltb v no_point)) [
      | yes t ↦ omega (arith, digits_there k bs (v * 16 + hex_digit b) (rw t at e))
      | no t ↦ absurd (true≢false (sym (rw t at e)))
    ]

escape_to_fits : (k n : ℕ) (bs : List ℕ) → n ≡ k + 1 → (escape_to (hex_from k bs 0) n).more ≤ suc (length bs)
unfolding escape_to
escape_to_fits k n bs e =
    elim (decided (is_scalar (hex_from k bs 0))) [
      | yes t ↦ rw t (omega (arith, e, digits_there k bs 0 t))
      | no t ↦ rw t zero-le
    ]

escape_fits : (bs : List ℕ) → (escape_of bs).more ≤ length bs
unfolding escape_of
escape_fits [] = zero-le
escape_fits (b ∷ bs) =
    elim (decided (eqb b 0x75)) [
      | yes t ↦ rw t (escape_to_fits 4 5 bs refl)
      | no t ↦
          elim (decided (eqb b 0x55)) [
            | yes u ↦ rw (t, u) (escape_to_fits 8 9 bs refl)
            | no u ↦ rw (t, u) zero-le
          ]
    ]

pub character_fits : (behind : Bool) (a : ℕ) (bs : List ℕ) → (character_at behind a bs).more ≤ length bs
unfolding character_at
character_fits behind a bs =
    elim (decided (eqb a backslash && not behind)) [
      | yes t ↦ rw t (escape_fits bs)
      | no t ↦ rw t (sequence_fits a bs)
    ]

-- ---- bytes that are still of the character before
pub characters_behind : (behind : Bool) (at k : ℕ) (bs : List ℕ) → characters_from behind at k bs ≡ characters_from behind (at + k) 0 (drop k bs)
unfolding characters_from
characters_behind behind at zero bs = ap (λ n. characters_from behind n 0 bs) (sym (add-zero at))
characters_behind behind at (suc k) [] = refl
characters_behind behind at (suc k) (b ∷ bs) =
    let z : at + 1 + k ≡ at + suc k = omega arith in
    characters_behind behind (at + 1) k bs ∙ ap (λ n. characters_from behind n 0 (drop k bs)) z

-- ---- from a place of a text on
module _ (text : List ℕ) (behind : Bool) (at : ℕ) where
  pub characters_end : length text ≤ at → characters_from behind at 0 (drop at text) ≡ []
  unfolding characters_from
  characters_end h = rw (drop_of_length-le text {i = at} h)

  module _ (h : at < length text) (c : Character) (e : c ≡ character_at behind (get_or text at 0) (drop (at + 1) text)) where
    pub characters_next : characters_from behind at 0 (drop at text)
        ≡ character_on c.point at ∷ characters_from (leaves_backslash behind (get_or text at 0) c) (at + 1 + c.more) 0 (drop (at + 1 + c.more) text)
    unfolding characters_from
    characters_next =
        ap (characters_from behind at 0) (drop-cons text at 0 h ∙ ap (λ n. get_or text at 0 ∷ drop n text) (sym (add-one at)))
        ∙ ap (λ d. character_on d.point at ∷ characters_from (leaves_backslash behind (get_or text at 0) d) (at + 1) d.more (drop (at + 1) text)) (sym e)
        ∙ ap (λ l. character_on c.point at ∷ l)
        (characters_behind (leaves_backslash behind (get_or text at 0) c) (at + 1) c.more (drop (at + 1) text)
        ∙ ap (characters_from (leaves_backslash behind (get_or text at 0) c) (at + 1 + c.more) 0)
        (drop-drop c.more (at + 1) text))

    pub character_within : at + 1 + c.more ≤ length text
    character_within =
        let f : c.more ≤ length (drop (at + 1) text) = rw e (character_fits behind (get_or text at 0) (drop (at + 1) text)) in
        let g : length (drop (at + 1) text) ≡ length text - (at + 1) = length-drop (at + 1) text in
        omega (arith, f, g, h)
