-- Laws of words: the place of a term in the order of keys and among its kind, in which numbers go by what they count for; the words of a
-- delivered row are those up to unbound.
use Prim.Native.Nat.{ℕ, ◌+◌, ◌*◌, ◌/◌, ◌%◌, ◌≤◌, ◌<◌}
use native.Mathlib.Omega.{arith}
use mathlib.Core.Path.{◌≡◌, refl, ◌∙◌, ap}
use mathlib.Core.Bool.{Bool, true, false}
use lib.Bits.{bit_and, bit_xor, and_block, and_zero_r, xor_block, xor_zero_r}
use lib.Dec.{leb}
use borrow.Author.Tests.{eqb-true, eqb-false, eq-eqb, ne_eqb, le-leb, lt-leb}
use Rattle.words.specs.Words.{term_values, half_values, number_kind, variable_kind, term_kind, term_value, unbound, is_number, is_value}
use Rattle.words.specs.Words.{value_rank, key_rank}
use Rattle.sequences.proofs.Orders.{less, same, more, three}

-- ---- among the terms of a kind
pub number_rank : (w : ℕ) → term_kind w ≡ number_kind → value_rank w ≡ (term_value w + half_values) % term_values
number_rank w e = rw (eq-eqb (term_kind w) number_kind e)

pub other_rank : (w : ℕ) → (term_kind w ≡ number_kind → ⊥) → value_rank w ≡ term_value w
other_rank w n = rw (ne_eqb (term_kind w) number_kind n)

pub rank_below : (w : ℕ) → value_rank w < term_values
rank_below w = go (is_number w) refl
  where
    go : (b : Bool) → is_number w ≡ b → value_rank w < term_values
    go true e = let r = number_rank w (eqb-true (term_kind w) number_kind e) in omega arith
    go false e = let r = other_rank w (eqb-false (term_kind w) number_kind e) in omega arith

-- one word of a kind has each place
pub rank_one : (a b : ℕ) → term_kind a ≡ term_kind b → value_rank a ≡ value_rank b → a ≡ b
rank_one a b k e = go (is_number a) refl
  where
    go : (x : Bool) → is_number a ≡ x → a ≡ b
    go true p =
        let h = eqb-true (term_kind a) number_kind p in
        let r = number_rank a h in
        let s = number_rank b (omega arith) in
        omega arith
    go false p =
        let h = eqb-false (term_kind a) number_kind p in
        let r = other_rank a h in
        let s = other_rank b (λ q. h (omega arith)) in
        omega arith

-- ---- in the order of keys
pub rank_bound : (w : ℕ) → w < unbound → key_rank w ≡ 1 + term_kind w * term_values + value_rank w
rank_bound w h = rw (ne_eqb (term_kind w) variable_kind (λ e. omega arith))

pub rank_unbound : (w : ℕ) → unbound ≤ w → w < 4294967296 → key_rank w ≡ 0
rank_unbound w h k = rw (eq-eqb (term_kind w) variable_kind (omega arith))

-- ---- the sign bit turned over
-- the bit below the kind's two, where the second of these is there
sign_bit : (w j : ℕ) → term_kind w ≡ j → bit_and (w / 2) half_values ≡ bit_and j 1 * half_values
sign_bit w j e =
    ap (λ x. bit_and x half_values) (let z : w / 2 ≡ j * half_values + w / 2 % half_values = omega arith in z)
    ∙ and_block 29 j 1 (w / 2 % half_values) 0 (omega arith) (omega arith)
    ∙ ap (λ x. bit_and j 1 * half_values + x) (and_zero_r (w / 2 % half_values))
    ∙ (let z : bit_and j 1 * half_values + 0 ≡ bit_and j 1 * half_values = omega arith in z)

-- a word of another kind stays
stays : (w j : ℕ) → term_kind w ≡ j → bit_and j 1 ≡ 0 → bit_xor w (bit_and (w / 2) half_values) ≡ w
stays w j e z = ap (bit_xor w) (sign_bit w j e ∙ ap (λ x. x * half_values) z) ∙ xor_zero_r w

-- of a number the bit is turned over
turned : (w k : ℕ) → term_kind w ≡ number_kind → w / half_values ≡ k
    → bit_xor w (bit_and (w / 2) half_values) ≡ bit_xor k 1 * half_values + w % half_values
turned w k e f =
    ap (bit_xor w) (sign_bit w 1 e)
    ∙ ap (λ x. bit_xor x half_values) (let z : w ≡ k * half_values + w % half_values = omega arith in z)
    ∙ xor_block 29 k 1 (w % half_values) 0 (omega arith) (omega arith)
    ∙ ap (λ x. bit_xor k 1 * half_values + x) (xor_zero_r (w % half_values))

pub key_word : (w : ℕ) → w < unbound → bit_xor w (bit_and (w / 2) half_values) ≡ term_kind w * term_values + value_rank w
key_word w h = go (is_number w) refl
  where
    number : term_kind w ≡ number_kind → bit_xor w (bit_and (w / 2) half_values) ≡ term_kind w * term_values + value_rank w
    number e =
        let r = number_rank w e in
        elim (three (w / half_values) 3) [
          | less l ↦
              turned w 2 e (omega arith)
              ∙ (let z : 3 * half_values + w % half_values ≡ term_kind w * term_values + value_rank w = omega arith in z)
          | same l ↦
              turned w 3 e l
              ∙ (let z : 2 * half_values + w % half_values ≡ term_kind w * term_values + value_rank w = omega arith in z)
          | more l ↦ absurd (omega arith)
        ]

    other : (term_kind w ≡ number_kind → ⊥) → bit_xor w (bit_and (w / 2) half_values) ≡ term_kind w * term_values + value_rank w
    other n =
        let r = other_rank w n in
        let whole : w ≡ term_kind w * term_values + value_rank w = omega arith in
        elim (three (term_kind w) 1) [
          | less l ↦ stays w 0 (omega arith) refl ∙ whole
          | same l ↦ absurd (n l)
          | more l ↦ stays w 2 (omega arith) refl ∙ whole
        ]

    go : (b : Bool) → is_number w ≡ b → bit_xor w (bit_and (w / 2) half_values) ≡ term_kind w * term_values + value_rank w
    go true e = number (eqb-true (term_kind w) number_kind e)
    go false e = other (eqb-false (term_kind w) number_kind e)

-- ---- the words of a delivered row
pub value_up_to : (w : ℕ) → w < 4294967296 → leb w unbound ≡ is_value w
value_up_to w k =
    elim (three w unbound) [
      | less h ↦ rw (le-leb w unbound (omega arith), ne_eqb (term_kind w) variable_kind (λ e. omega arith))
      | same h ↦ rw h
      | more h ↦ rw (lt-leb w unbound h, eq-eqb (term_kind w) variable_kind (omega arith), ne_eqb w unbound (λ e. omega arith))
    ]
