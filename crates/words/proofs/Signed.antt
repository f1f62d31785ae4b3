-- Two's complement: the lower half of its values are themselves, the upper half stand for those below zero. Differences of naturals as integers:
-- equal where the cross sums are, and added side by side.
use Prim.Native.Nat.{ℕ, suc, ◌+◌, ◌-◌, ◌≤◌, ◌<◌}
use native.Mathlib.Omega.{arith}
use native.Mathlib.Decide.{dec_lt}
use mathlib.Core.Path.{◌≡◌, sym, ◌∙◌, ap}
use lib.IntN.{pos, negsuc, sub_ℕ, ◌+ℤ◌}
use borrow.Author.Tests.{lt-ltb, le-ltb}
use Rattle.words.specs.Words.{signed}

-- ---- differences
pub below : (a b : ℕ) → a < b → sub_ℕ a b ≡ negsuc (b - suc a)
below a b h = rw (lt-ltb a b h)

pub above : (a b : ℕ) → b ≤ a → sub_ℕ a b ≡ pos (a - b)
above a b h = rw (le-ltb a b h)

pub sub_same : (a b c d : ℕ) → a + d ≡ c + b → sub_ℕ a b ≡ sub_ℕ c d
sub_same a b c d e =
    elim (dec_lt a b) [
      | yes h ↦ below a b h ∙ ap negsuc (let z : b - suc a ≡ d - suc c = omega arith in z) ∙ sym (below c d (omega arith))
      | no h ↦ above a b (omega arith) ∙ ap pos (let z : a - b ≡ c - d = omega arith in z) ∙ sym (above c d (omega arith))
    ]

pub sub_add : (a b c d : ℕ) → sub_ℕ a b +ℤ sub_ℕ c d ≡ sub_ℕ (a + c) (b + d)
sub_add a b c d =
    elim (dec_lt a b) [
      | yes h ↦ elim (dec_lt c d) [
        | yes k ↦
            rw (below a b h, below c d k, below (a + c) (b + d) (omega arith))
            (ap negsuc (let z : suc (b - suc a + (d - suc c)) ≡ b + d - suc (a + c) = omega arith in z))
        | no k ↦ rw (below a b h, above c d (omega arith)) (sub_same (c - d) (suc (b - suc a)) (a + c) (b + d) (omega arith))
      ]
      | no h ↦ elim (dec_lt c d) [
        | yes k ↦ rw (above a b (omega arith), below c d k) (sub_same (a - b) (suc (d - suc c)) (a + c) (b + d) (omega arith))
        | no k ↦
            rw (above a b (omega arith), above c d (omega arith), above (a + c) (b + d) (omega arith))
            (ap pos (let z : a - b + (c - d) ≡ a + c - (b + d) = omega arith in z))
      ]
    ]

-- each integer is one
pub pos_sub : (n : ℕ) → pos n ≡ sub_ℕ n 0
pos_sub n = sym (above n 0 (omega arith) ∙ ap pos (let z : n - 0 ≡ n = omega arith in z))

pub negsuc_sub : (n : ℕ) → negsuc n ≡ sub_ℕ 0 (suc n)
negsuc_sub n = sym (below 0 (suc n) (omega arith) ∙ ap negsuc (let z : suc n - 1 ≡ n = omega arith in z))

-- ---- the two halves
pub signed_low : (half n : ℕ) → n < half → signed half n ≡ sub_ℕ n 0
unfolding signed
signed_low half n h = rw (lt-ltb n half h)

pub signed_high : (half n : ℕ) → half ≤ n → signed half n ≡ sub_ℕ n (half + half)
unfolding signed
signed_high half n h = rw (le-ltb n half h)
