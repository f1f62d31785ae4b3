-- A number in decimal: one digit, or the digits of a tenth of it and its last one; and how many digits it has at most.
use Prim.Native.Nat.{ℕ, zero, suc, ◌+◌, ◌*◌, ◌/◌, ◌%◌, ◌^◌, ◌≤◌, ◌<◌}
use native.Mathlib.Omega.{arith}
use native.Mathlib.Decide.{dec_lt}
use native.Mathlib.Nat.{pow-suc}
use mathlib.Core.Path.{◌≡◌, sym, ◌∙◌, ap}
use mathlib.Core.List.{[], ◌∷◌, ◌++◌}
use lib.ListN.{length, length-append}
use borrow.Author.Tests.{lt-ltb, le-ltb}
use Rattle.print_texts.specs.Texts.{Text, digit, digits_in, decimal}

-- ---- the digits, with one more than are needed
digits_one : (k n : ℕ) → n < 10 → digits_in (suc k) n ≡ digit n ∷ []
unfolding digits_in
digits_one k n h = rw (lt-ltb n 10 h, digits_in)

digits_more : (k n : ℕ) → 10 ≤ n → digits_in (suc k) n ≡ digits_in k (n / 10) ++ (digit (n % 10) ∷ [])
unfolding digits_in
digits_more k n h = rw (le-ltb n 10 h, digits_in)

digits_same : (j k n : ℕ) → n < j → n < k → digits_in j n ≡ digits_in k n
digits_same zero k n p q = absurd (omega arith)
digits_same (suc j) zero n p q = absurd (omega arith)
digits_same (suc j) (suc k) n p q =
    elim (dec_lt n 10) [
      | yes l ↦ digits_one j n l ∙ sym (digits_one k n l)
      | no l ↦
          digits_more j n (omega arith)
          ∙ ap (λ (t : Text). t ++ (digit (n % 10) ∷ [])) (digits_same j k (n / 10) (omega arith) (omega arith))
          ∙ sym (digits_more k n (omega arith))
    ]

-- ---- a number in decimal
pub decimal_one : (n : ℕ) → n < 10 → decimal n ≡ digit n ∷ []
unfolding decimal
decimal_one n h = digits_one n n h

pub decimal_more : (n : ℕ) → 10 ≤ n → decimal n ≡ decimal (n / 10) ++ (digit (n % 10) ∷ [])
unfolding decimal
decimal_more n h =
    digits_more n n h
    ∙ ap (λ (t : Text). t ++ (digit (n % 10) ∷ [])) (digits_same n (suc (n / 10)) (n / 10) (omega arith) (omega arith))

-- ---- how many digits
pub length_one : (n : ℕ) → n < 10 → length (decimal n) ≡ 1
length_one n h = ap length (decimal_one n h)

pub length_more : (n : ℕ) → 10 ≤ n → length (decimal n) ≡ length (decimal (n / 10)) + 1
length_more n h = ap length (decimal_more n h) ∙ length-append (decimal (n / 10)) (digit (n % 10) ∷ [])

pub length_some : (n : ℕ) → 1 ≤ length (decimal n)
length_some n =
    elim (dec_lt n 10) [
      | yes l ↦ let e = length_one n l in omega arith
      | no l ↦ let e = length_more n (omega arith) in omega arith
    ]

length_most : (k n : ℕ) → n < 10 ^ suc k → length (decimal n) ≤ suc k
length_most zero n h = let e = length_one n h in omega arith
length_most (suc k) n h =
    elim (dec_lt n 10) [
      | yes l ↦ let e = length_one n l in omega arith
      | no l ↦
          let p : 10 ^ suc (suc k) ≡ 10 ^ suc k * 10 = pow-suc 10 (suc k) in
          let ih = length_most k (n / 10) (omega arith) in
          let e = length_more n (omega arith) in
          omega arith
    ]

-- a number of 64 bits, and one of 32
pub length_long : (n : ℕ) → n < 2 ^ 64 → length (decimal n) ≤ 20
length_long n h = length_most 19 n (omega arith)

pub length_word : (n : ℕ) → n < 2 ^ 32 → length (decimal n) ≤ 10
length_word n h = length_most 9 n (omega arith)

-- up to half the values of 30 bits, and of 64
pub length_nine : (n : ℕ) → n ≤ 0x20000000 → length (decimal n) ≤ 9
length_nine n h = length_most 8 n (omega arith)

pub length_nineteen : (n : ℕ) → n ≤ 0x8000000000000000 → length (decimal n) ≤ 19
length_nineteen n h = length_most 18 n (omega arith)
