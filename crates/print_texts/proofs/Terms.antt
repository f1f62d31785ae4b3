-- The texts of terms and of bits in two's complement: a dash, or a letter and the value; the bits themselves, or a dash and what they lack.
use Prim.Native.Nat.{ℕ, suc, ◌+◌, ◌-◌, ◌^◌, ◌≤◌, ◌<◌}
use native.Mathlib.Omega.{arith}
use native.Mathlib.Decide.{dec_lt}
use mathlib.Core.Path.{◌≡◌, refl, sym, ◌∙◌, ap}
use mathlib.Core.Bool.{true, false}
use mathlib.Core.List.{[], ◌∷◌, ◌++◌}
use lib.ListN.{length}
use Rattle.words.specs.Words.{term_values, term_kind, term_value, is_variable, is_number, half_values, signed}
use Rattle.lists.specs.Sums.{half_longs}
use Rattle.words.proofs.Signed.{below, pos_sub, signed_low, signed_high}
use Rattle.print_texts.proofs.Decimals.{length_nine, length_nineteen}
use Rattle.print_texts.specs.Texts.{dash, decimal, integer_text, kind_letter, value_text, term_text}

-- ---- bits in two's complement
pub low_text : (half n : ℕ) → n < half → integer_text (signed half n) ≡ decimal n
unfolding integer_text
low_text half n h = ap integer_text (signed_low half n h ∙ sym (pos_sub n))

pub high_text : (half n m : ℕ) → half ≤ n → n < half + half → m ≡ half - (n - half)
    → integer_text (signed half n) ≡ (dash ∷ []) ++ decimal m
unfolding integer_text
high_text half n m h l e =
    ap integer_text (signed_high half n h ∙ below n (half + half) l)
    ∙ ap (λ (k : ℕ). dash ∷ decimal k) (let z : suc (half + half - suc n) ≡ m = omega arith in z)

-- a dash takes no more than a digit that is lacking
integer_most : (half n k : ℕ) → n < half + half → ((m : ℕ) → m ≤ half → length (decimal m) ≤ k)
    → length (integer_text (signed half n)) ≤ suc k
integer_most half n k l f =
    elim (dec_lt n half) [
      | yes h ↦ let e = ap length (low_text half n h) in let b = f n (omega arith) in omega arith
      | no h ↦
          let e = ap length (high_text half n (half - (n - half)) (omega arith) l refl) in
          let b = f (half - (n - half)) (omega arith) in
          omega arith
    ]

pub integer_word : (n : ℕ) → n < term_values → length (integer_text (signed half_values n)) ≤ 10
integer_word n h = integer_most half_values n 9 h (λ m l. length_nine m (omega arith))

pub integer_long : (n : ℕ) → n < 2 ^ 64 → length (integer_text (signed half_longs n)) ≤ 20
integer_long n h = integer_most half_longs n 19 (omega arith) (λ m l. length_nineteen m (omega arith))

-- ---- terms
pub number_text : (w value : ℕ) → is_number w ≡ true → value ≡ term_value w → value_text w ≡ integer_text (signed half_values value)
unfolding value_text
number_text w value e v = rw (e, v)

pub other_text : (w value : ℕ) → is_number w ≡ false → value ≡ term_value w → value_text w ≡ decimal value
unfolding value_text
other_text w value e v = rw (e, v)

pub unbound_text : (w : ℕ) → is_variable w ≡ true → term_text w ≡ dash ∷ []
unfolding term_text
unbound_text w e = rw e

pub bound_text : (w letter : ℕ) → is_variable w ≡ false → letter ≡ kind_letter (term_kind w) → term_text w ≡ (letter ∷ []) ++ value_text w
unfolding term_text
bound_text w letter e l = rw (e, l)
