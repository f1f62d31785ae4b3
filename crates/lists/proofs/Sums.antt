-- Sums in 64 bits: a sum that fits is read back from its bits, bits are those of the sum that they stand for, and the bits of two sums together
-- are their bits added modulo 2^64.
use Prim.Native.Nat.{ℕ, suc, ◌+◌, ◌-◌, ◌%◌, ◌≤◌, ◌<◌}
use native.Mathlib.Omega.{arith}
use native.Mathlib.Decide.{dec_lt}
use native.Mathlib.Nat.{add-mod}
use mathlib.Core.Path.{◌≡◌, refl, sym, ◌∙◌, ap, ap₂}
use mathlib.Core.Bool.{true}
use lib.Dec.{eqb}
use lib.IntN.{ℤ, pos, negsuc, sub_ℕ, ◌+ℤ◌}
use borrow.Author.Tests.{eqb-true, ne_eqb, lt-ltb, ltb-true}
use Rattle.words.specs.Words.{term_values, half_values, term_value, number_value}
use Rattle.sequences.proofs.Booleans.{absurd_true}
use Rattle.words.proofs.Signed.{below, above, sub_add, pos_sub, negsuc_sub, signed_low, signed_high}
use Rattle.lists.specs.Sums.{long_values, half_longs, sum_fits, sum_bits, sum_in, is_zero}

-- ---- bits of differences
pub bits_below_lem : (z : ℤ) → sum_bits z < long_values
unfolding sum_bits
bits_below_lem (pos n) = omega arith
bits_below_lem (negsuc n) = omega arith

-- what is taken away, added again
bits_sub : (a b : ℕ) → (sum_bits (sub_ℕ a b) + b) % long_values ≡ a % long_values
unfolding sum_bits
bits_sub a b =
    elim (dec_lt a b) [
      | yes h ↦ rw (below a b h) (omega arith)
      | no h ↦ rw (above a b (omega arith)) (omega arith)
    ]

-- an integer as a difference
differences : (z : ℤ) → (a : ℕ) × (b : ℕ) × (z ≡ sub_ℕ a b)
differences (pos n) = (n, 0, pos_sub n)
differences (negsuc n) = (0, suc n, negsuc_sub n)

wrap_add : (a b c d x y z : ℕ) → (x + b) % long_values ≡ a % long_values → (y + d) % long_values ≡ c % long_values
    → (z + (b + d)) % long_values ≡ (a + c) % long_values → z < long_values → z ≡ (x + y) % long_values
wrap_add a b c d x y z p q r l = cancelled (b + d) z (x + y) l (r ∙ added)
  where
    -- what is added on both sides is taken away
    cancelled : (e m n : ℕ) → m < long_values → (m + e) % long_values ≡ (n + e) % long_values → m ≡ n % long_values
    cancelled e m n h f = omega arith

    added : (a + c) % long_values ≡ (x + y + (b + d)) % long_values
    added =
        add-mod a c long_values
        ∙ ap₂ (λ m n. (m + n) % long_values) (sym p) (sym q)
        ∙ sym (add-mod (x + b) (y + d) long_values)
        ∙ ap (λ n. n % long_values) (let e : x + b + (y + d) ≡ x + y + (b + d) = omega arith in e)

-- the bits of two sums together
pub bits_add : (u v : ℤ) → sum_bits (u +ℤ v) ≡ (sum_bits u + sum_bits v) % long_values
bits_add u v = go (differences u) (differences v)
  where
    go : (a : ℕ) × (b : ℕ) × (u ≡ sub_ℕ a b) → (c : ℕ) × (d : ℕ) × (v ≡ sub_ℕ c d)
        → sum_bits (u +ℤ v) ≡ (sum_bits u + sum_bits v) % long_values
    go (a, b, e) (c, d, f) =
        ap₂ (λ x y. sum_bits (x +ℤ y)) e f
        ∙ ap sum_bits (sub_add a b c d)
        ∙ wrap_add a b c d (sum_bits (sub_ℕ a b)) (sum_bits (sub_ℕ c d)) (sum_bits (sub_ℕ (a + c) (b + d)))
        (bits_sub a b) (bits_sub c d) (bits_sub (a + c) (b + d)) (bits_below_lem (sub_ℕ (a + c) (b + d)))
        ∙ ap₂ (λ x y. (sum_bits x + sum_bits y) % long_values) (sym e) (sym f)

-- ---- from bits to the sum and back
pub bits_in : (n : ℕ) → sum_bits (sum_in n) ≡ n % long_values
bits_in n =
    elim (dec_lt n half_longs) [
      | yes h ↦
          ap sum_bits (signed_low half_longs n h)
          ∙ (let e = bits_sub n 0 in let l = bits_below_lem (sub_ℕ n 0) in let z : sum_bits (sub_ℕ n 0) ≡ n % long_values = omega arith in z)
      | no h ↦
          ap sum_bits (signed_high half_longs n (omega arith))
          ∙ (let e = bits_sub n (half_longs + half_longs) in
          let l = bits_below_lem (sub_ℕ n (half_longs + half_longs)) in
          let z : sum_bits (sub_ℕ n (half_longs + half_longs)) ≡ n % long_values = omega arith in
          z)
    ]

pub bits_both : (x y : ℕ) → sum_bits (sum_in x +ℤ sum_in y) ≡ (x + y) % long_values
bits_both x y =
    bits_add (sum_in x) (sum_in y)
    ∙ ap₂ (λ a b. (a + b) % long_values) (bits_in x) (bits_in y)
    ∙ (let z : (x % long_values + y % long_values) % long_values ≡ (x + y) % long_values = omega arith in z)

-- a sum that fits is read back
pub in_bits : (z : ℤ) → sum_fits z ≡ true → sum_in (sum_bits z) ≡ z
unfolding sum_bits
in_bits (pos n) f =
    let l = ltb-true n half_longs f in
    ap sum_in (let e : n % long_values ≡ n = omega arith in e) ∙ signed_low half_longs n l ∙ sym (pos_sub n)
in_bits (negsuc n) f =
    let l = ltb-true n half_longs f in
    let m = long_values - 1 - n % long_values in
    signed_high half_longs m (omega arith)
    ∙ below m (half_longs + half_longs) (omega arith)
    ∙ ap negsuc (let e : half_longs + half_longs - suc m ≡ n = omega arith in e)

-- what 64 bits stand for fits
pub in_fits : (n : ℕ) → n < long_values → sum_fits (sum_in n) ≡ true
in_fits n l =
    elim (dec_lt n half_longs) [
      | yes h ↦ ap sum_fits (signed_low half_longs n h ∙ sym (pos_sub n)) ∙ lt-ltb n half_longs h
      | no h ↦
          ap sum_fits (signed_high half_longs n (omega arith) ∙ below n (half_longs + half_longs) (omega arith))
          ∙ lt-ltb (half_longs + half_longs - suc n) half_longs (omega arith)
    ]

-- ---- zero
pub zero_bits : sum_bits (pos 0) ≡ 0
unfolding sum_bits
zero_bits = refl

pub zero_is : (z : ℤ) → is_zero z ≡ true → z ≡ pos 0
zero_is (pos n) e = ap pos (eqb-true n 0 e)
zero_is (negsuc n) e = absurd_true refl (sym e)

pub zero_in : (n : ℕ) → n < long_values → is_zero (sum_in n) ≡ eqb n 0
zero_in n l =
    elim (dec_lt n half_longs) [
      | yes h ↦ ap is_zero (signed_low half_longs n h ∙ sym (pos_sub n))
      | no h ↦
          ap is_zero (signed_high half_longs n (omega arith) ∙ below n (half_longs + half_longs) (omega arith))
          ∙ sym (ne_eqb n 0 (λ e. omega arith))
    ]

-- ---- the bits of one number: its own, and above them those of its sign
pub value_low : (w : ℕ) → term_value w < half_values → sum_bits (number_value w) ≡ term_value w
unfolding sum_bits
value_low w h =
    ap sum_bits (signed_low half_values (term_value w) h ∙ sym (pos_sub (term_value w)))
    ∙ (let z : term_value w % long_values ≡ term_value w = omega arith in z)

pub value_high : (w : ℕ) → half_values ≤ term_value w → sum_bits (number_value w) ≡ long_values - term_values + term_value w
unfolding sum_bits
value_high w h =
    ap sum_bits (signed_high half_values (term_value w) h ∙ below (term_value w) (half_values + half_values) (omega arith))
    ∙ (let m = half_values + half_values - suc (term_value w) in
    let z : long_values - 1 - m % long_values ≡ long_values - term_values + term_value w = omega arith in
    z)

-- ---- whether two sums together fit, told by their bits: where the signs differ they do
pub fit_low : (x y : ℕ) → x < half_longs → y < half_longs → sum_in x +ℤ sum_in y ≡ pos (x + y)
fit_low x y h k = ap₂ ◌+ℤ◌ (signed_low half_longs x h ∙ sym (pos_sub x)) (signed_low half_longs y k ∙ sym (pos_sub y))

pub fit_high : (x y : ℕ) → half_longs ≤ x → half_longs ≤ y → x < long_values → y < long_values
    → sum_in x +ℤ sum_in y ≡ negsuc (long_values + long_values - suc (x + y))
fit_high x y h k l m =
    ap₂ ◌+ℤ◌ (signed_high half_longs x h) (signed_high half_longs y k)
    ∙ sub_add x (half_longs + half_longs) y (half_longs + half_longs)
    ∙ below (x + y) (long_values + long_values) (omega arith)

pub fit_mixed : (x y : ℕ) → x < half_longs → half_longs ≤ y → y < long_values → sum_fits (sum_in x +ℤ sum_in y) ≡ true
fit_mixed x y h k l =
    ap sum_fits (ap₂ ◌+ℤ◌ (signed_low half_longs x h) (signed_high half_longs y k) ∙ sub_add x 0 y (half_longs + half_longs)) ∙ go
  where
    go : sum_fits (sub_ℕ (x + y) (0 + (half_longs + half_longs))) ≡ true
    go =
        elim (dec_lt (x + y) long_values) [
          | yes a ↦ ap sum_fits (below (x + y) long_values a) ∙ lt-ltb (long_values - suc (x + y)) half_longs (omega arith)
          | no a ↦ ap sum_fits (above (x + y) long_values (omega arith)) ∙ lt-ltb (x + y - long_values) half_longs (omega arith)
        ]
