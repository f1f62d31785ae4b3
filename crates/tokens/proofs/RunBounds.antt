-- Runs end within the characters, and where they end does not hang on where counting begins.
use Prim.Native.Nat.{ℕ, zero, suc, ◌+◌, ◌-◌, ◌≤◌, ◌<◌, zero-le}
use native.Mathlib.Omega.{arith}
use mathlib.Core.Path.{◌≡◌, refl, sym, ◌∙◌, ap}
use mathlib.Core.Bool.{Bool, true, ◌&&◌, ◌||◌, true≢false}
use mathlib.Core.List.{List, [], ◌∷◌}
use lib.Dec.{eqb}
use lib.ListN.{length, drop, length-drop}
use borrow.Author.Tests.{eqb-false}
use Rattle.sequences.proofs.Booleans.{yes, no, decided, and_right}
use Rattle.tokens.specs.Classes.{is_digit, is_name_letter, is_name_character, is_hex_digit, is_name_escape}
use Rattle.tokens.specs.Runs.{run_length, first_is, dotted_end, name_item, plx_item, local_first, local_item, local_length}
use Rattle.tokens.specs.Tokens.{goes_on_tag, tag_end}

-- ---- a character that is of a class is there
pub first_some : (f : ℕ → Bool) (cs : List ℕ) → first_is f cs ≡ true → 1 ≤ length cs
first_some f [] e = absurd (true≢false (sym e))
first_some f (c ∷ cs) e = omega arith

pub behind_some : (f : ℕ → Bool) (n : ℕ) (cs : List ℕ) → first_is f (drop n cs) ≡ true → n < length cs
behind_some f n cs e = omega (arith, first_some f (drop n cs) e, length-drop n cs)

pub run_fits_lem : (f : ℕ → Bool) (cs : List ℕ) → run_length f cs ≤ length cs
unfolding run_length
run_fits_lem f [] = zero-le
run_fits_lem f (c ∷ cs) = elim (decided (f c)) [ yes k ↦ rw k (omega (arith, run_fits_lem f cs)) | no k ↦ rw k zero-le ]

-- ---- items
pub name_item_fits : (c : ℕ) (cs : List ℕ) → name_item c cs ≤ suc (length cs)
name_item_fits c cs = elim (decided (is_name_character c)) [ yes k ↦ rw k (omega arith) | no k ↦ rw k zero-le ]

plx_fits : (c : ℕ) (cs : List ℕ) → plx_item c cs ≤ suc (length cs)
plx_fits c cs =
    let two = first_is is_hex_digit cs && first_is is_hex_digit (drop 1 cs) in
    elim (decided (eqb c 0x25 && two)) [
      | yes k ↦
          let h = behind_some is_hex_digit 1 cs (and_right (first_is is_hex_digit cs) (first_is is_hex_digit (drop 1 cs)) (and_right (eqb c 0x25) two k)) in
          rw k (omega (arith, h))
      | no k ↦
          elim (decided (eqb c 0x5C && first_is is_name_escape cs)) [
            | yes m ↦ rw (k, m) (omega (arith, first_some is_name_escape cs (and_right (eqb c 0x5C) (first_is is_name_escape cs) m)))
            | no m ↦ rw (k, m) zero-le
          ]
    ]

pub local_first_fits : (c : ℕ) (cs : List ℕ) → local_first c cs ≤ suc (length cs)
local_first_fits c cs =
    elim (decided (is_name_letter c || (is_digit c || eqb c 0x3A))) [ yes k ↦ rw k (omega arith) | no k ↦ rw k (plx_fits c cs) ]

pub local_item_fits : (c : ℕ) (cs : List ℕ) → local_item c cs ≤ suc (length cs)
local_item_fits c cs =
    elim (decided (is_name_character c || eqb c 0x3A)) [ yes k ↦ rw k (omega arith) | no k ↦ rw k (plx_fits c cs) ]

-- ---- items and dots
module _ (size : ℕ → List ℕ → ℕ) where
  pub dotted_shift : (d k : ℕ) (cs : List ℕ) (n e : ℕ) → dotted_end size k cs (n + d) (e + d) ≡ dotted_end size k cs n e + d
  unfolding dotted_end
  dotted_shift d k [] n e = refl
  dotted_shift d (suc k) (c ∷ cs) n e =
      let z : n + d + 1 ≡ n + 1 + d = omega arith in
      ap (λ m. dotted_end size k cs m (e + d)) z ∙ dotted_shift d k cs (n + 1) e
  dotted_shift d zero (c ∷ cs) n e =
      let z : n + d + 1 ≡ n + 1 + d = omega arith in
      let y : n + d + size c cs ≡ n + size c cs + d = omega arith in
      elim (decided (eqb c 0x2E)) [
        | yes k ↦ rw k (ap (λ m. dotted_end size 0 cs m (e + d)) z ∙ dotted_shift d 0 cs (n + 1) e)
        | no k ↦
            elim (decided (eqb (size c cs) 0)) [
              | yes m ↦ rw (k, m) refl
              | no m ↦
                  rw (k, m)
                  (ap (λ a. dotted_end size (size c cs - 1) cs a (n + d + size c cs)) z
                  ∙ ap (λ a. dotted_end size (size c cs - 1) cs (n + 1 + d) a) y
                  ∙ dotted_shift d (size c cs - 1) cs (n + 1) (n + size c cs))
            ]
      ]

  pub dotted_fits : ((c : ℕ) (cs : List ℕ) → size c cs ≤ suc (length cs)) → (k : ℕ) (cs : List ℕ) (n e : ℕ) → k ≤ length cs → e ≤ n + k
      → (e ≤ dotted_end size k cs n e) × (dotted_end size k cs n e ≤ n + length cs)
  unfolding dotted_end
  dotted_fits fits k [] n e h i = omega arith
  dotted_fits fits (suc k) (c ∷ cs) n e h i = omega (arith, dotted_fits fits k cs (n + 1) e (omega arith) (omega arith))
  dotted_fits fits zero (c ∷ cs) n e h i =
      elim (decided (eqb c 0x2E)) [
        | yes k ↦ rw k (omega (arith, dotted_fits fits 0 cs (n + 1) e (omega arith) (omega arith)))
        | no k ↦
            elim (decided (eqb (size c cs) 0)) [
              | yes m ↦ rw (k, m) (omega arith)
              | no m ↦
                  let s : 1 ≤ size c cs = omega (arith, eqb-false (size c cs) 0 m) in
                  let f = fits c cs in
                  rw (k, m) (omega (arith, dotted_fits fits (size c cs - 1) cs (n + 1) (n + size c cs) (omega arith) (omega arith)))
            ]
      ]

pub local_fits : (cs : List ℕ) → local_length cs ≤ length cs
local_fits [] = zero-le
local_fits (c ∷ cs) =
    elim (decided (eqb (local_first c cs) 0)) [
      | yes k ↦ rw k zero-le
      | no k ↦
          let s : 1 ≤ local_first c cs = omega (arith, eqb-false (local_first c cs) 0 k) in
          let f = local_first_fits c cs in
          rw k (omega (arith, dotted_fits local_item local_item_fits (local_first c cs - 1) cs 1 (local_first c cs) (omega arith) (omega arith)))
    ]

-- ---- language tags
pub tag_shift : (d : ℕ) (cs : List ℕ) (n : ℕ) → tag_end cs (n + d) ≡ tag_end cs n + d
unfolding tag_end
tag_shift d [] n = refl
tag_shift d (c ∷ cs) n =
    let z : n + d + 1 ≡ n + 1 + d = omega arith in
    elim (decided (goes_on_tag c cs)) [
      | yes k ↦ rw k (ap (tag_end cs) z ∙ tag_shift d cs (n + 1))
      | no k ↦ rw k refl
    ]

pub tag_fits : (cs : List ℕ) (n : ℕ) → (n ≤ tag_end cs n) × (tag_end cs n ≤ n + length cs)
unfolding tag_end
tag_fits [] n = omega arith
tag_fits (c ∷ cs) n =
    elim (decided (goes_on_tag c cs)) [
      | yes k ↦ rw k (omega (arith, tag_fits cs (n + 1)))
      | no k ↦ rw k (omega arith)
    ]
