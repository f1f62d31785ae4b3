-- Escapes from a place of a text on, digit by digit.
use Prim.Native.Nat.{ℕ, zero, suc, ◌+◌, ◌-◌, ◌*◌, ◌≤◌, ◌<◌}
use native.Mathlib.Omega.{arith}
use native.Mathlib.Numerals.{add-one}
use mathlib.Core.Path.{◌≡◌, refl}
use mathlib.Core.List.{List}
use lib.ListN.{length, get_or, drop, drop_of_length-le}
use lib.Seq.{drop-cons}
use borrow.Author.Tests.{lt-ltb, le-ltb, eq-eqb, ne_eqb}
use Rattle.characters.specs.Sequences.{character, no_point}
use Rattle.characters.specs.Escapes.{hex_digit, hex_from, backslash, escape_to, escape_of}

pub digits_done : (bs : List ℕ) (v : ℕ) → hex_from 0 bs v ≡ v
unfolding hex_from
digits_done bs v = refl

module _ (text : List ℕ) (at v : ℕ) where
  pub digits_end : (left : ℕ) → 0 < left → length text ≤ at → hex_from left (drop at text) v ≡ no_point
  unfolding hex_from
  digits_end zero l h = absurd (omega (arith, l))
  digits_end (suc k) l h = rw (drop_of_length-le text {i = at} h) refl

  module _ (h : at < length text) where
    pub no_digit : (left : ℕ) → 0 < left → 16 ≤ hex_digit (get_or text at 0) → hex_from left (drop at text) v ≡ no_point
    unfolding hex_from
    no_digit zero l d = absurd (omega (arith, l))
    no_digit (suc k) l d = rw (drop-cons text at 0 h, le-ltb (hex_digit (get_or text at 0)) 16 d) refl

    module _ (d : hex_digit (get_or text at 0) < 16) where
      pub past_last : (left : ℕ) → 0 < left → no_point ≤ v → hex_from left (drop at text) v ≡ no_point
      unfolding hex_from
      past_last zero l p = absurd (omega (arith, l))
      past_last (suc k) l p = rw (drop-cons text at 0 h, lt-ltb (hex_digit (get_or text at 0)) 16 d, le-ltb v no_point p) refl

      pub next_digit : (left : ℕ) → 0 < left → v < no_point
          → hex_from left (drop at text) v ≡ hex_from (left - 1) (drop (at + 1) text) (v * 16 + hex_digit (get_or text at 0))
      unfolding hex_from
      next_digit zero l p = absurd (omega (arith, l))
      next_digit (suc k) l p =
          let z : suc k - 1 ≡ k = omega arith in
          rw (z, add-one at, drop-cons text at 0 h, lt-ltb (hex_digit (get_or text at 0)) 16 d, lt-ltb v no_point p) refl

-- ---- what stands behind a backslash
module _ (text : List ℕ) (from : ℕ) where
  pub escape_end : length text ≤ from → escape_of (drop from text) ≡ character backslash 0
  unfolding escape_of
  escape_end h = rw (drop_of_length-le text {i = from} h) refl

  module _ (h : from < length text) where
    pub escape_four : get_or text from 0 ≡ 0x75 → escape_of (drop from text) ≡ escape_to (hex_from 4 (drop (from + 1) text) 0) 5
    unfolding escape_of
    escape_four e = rw (add-one from, drop-cons text from 0 h, eq-eqb (get_or text from 0) 0x75 e) refl

    module _ (f : get_or text from 0 ≡ 0x75 → ⊥) where
      pub escape_eight : get_or text from 0 ≡ 0x55 → escape_of (drop from text) ≡ escape_to (hex_from 8 (drop (from + 1) text) 0) 9
      unfolding escape_of
      escape_eight e = rw (add-one from, drop-cons text from 0 h, ne_eqb (get_or text from 0) 0x75 f, eq-eqb (get_or text from 0) 0x55 e) refl

      pub escape_none : (get_or text from 0 ≡ 0x55 → ⊥) → escape_of (drop from text) ≡ character backslash 0
      unfolding escape_of
      escape_none g = rw (drop-cons text from 0 h, ne_eqb (get_or text from 0) 0x75 f, ne_eqb (get_or text from 0) 0x55 g) refl
